-- A table that is closed at the sites of a DTD, and heaviest elsewhere, is closed.
use Rattle.std.specs.Prelude.{IsSome, min}
use Rattle.std.proofs.Common.{List, Option, Some, [], arith, inl, inr, length, refl}
use Rattle.std.proofs.Common.{ℕ, ◌+◌, ◌∷◌, ◌≡◌, ◌≤◌, ◌⊎◌}
use Rattle.std.proofs.lemmas.Bool.{cases_lt}
use Rattle.std.proofs.lemmas.Option.{slice_get_within}
use Rattle.pv_model.specs.Plain.{PlainModel, PlainToken, choice, opt, part, plus, seq, star}
use Rattle.pv_model.specs.Plain.{any, children, empty, mixed, name, no_parts}
use Rattle.pv_dtd.specs.Plain.{PlainDtd, declared, model_of}
use Rattle.pv_rules.specs.ClosedTables.{IsClosedAtSites}
use Rattle.pv_rules.specs.Derivations.{heaviest, sum_of}
use Rattle.pv_rules.specs.Laws.{ClosedAtSitesIsClosed}
use Rattle.pv_rules.specs.Numbering.{part_at, rest_at}
use Rattle.pv_rules.specs.Rules.{Goal, IsKnownWord, Rule, any_name, any_none, any_text, children_part}
use Rattle.pv_rules.specs.Rules.{empty_none, kept, missing, mixed_name, mixed_none, mixed_text, opt_none}
use Rattle.pv_rules.specs.Rules.{opt_one, over, part_choice, part_name, part_seq, plus_more, plus_one}
use Rattle.pv_rules.specs.Rules.{rest_last, rest_then, star_more, star_none}
use Rattle.pv_rules.specs.Sites.{HasSite, PlainSite, content_site, name_site}
use Rattle.pv_rules.proofs.Spans.{over_spans}

is_some : {A : Type 0} (o : Option A) (x : A) → o ≡ Some x → IsSome o
is_some o x e = rw e refl

module _ (g : PlainDtd) (w : List PlainToken) (named : declared g ≤ length g.names) (known : IsKnownWord g w) where
  declared_site : (x : ℕ) (m : PlainModel) → model_of g x ≡ Some m → HasSite g (content_site x)
  declared_site x m e = let l = slice_get_within g.models x m e in omega arith

  -- a rule whose left side is no site of the DTD has a missing element of a name beyond all others
  abbrev IsFar : PlainSite → ℕ → ℕ → ℕ → List Goal → Type 0
  IsFar s i j c xs =
      (x : ℕ) × (length g.names ≤ x) × (s ≡ name_site x) × (xs ≡ over (content_site x) i j ∷ [])

  site_or_far : (s : PlainSite) (i j c : ℕ) (xs : List Goal) → Rule g w (over s i j) c xs →
      HasSite g s ⊎ IsFar s i j c xs
  site_or_far s i j c xs (kept x _ f) = inl (known i x f)
  site_or_far s i j c xs (missing x _ _ l) =
      elim (cases_lt x (length g.names)) [ inl lt ↦ inl lt | inr ge ↦ inr (x, ge, refl, refl) ]
  site_or_far s i j c xs (empty_none x _ l m) = inl (declared_site x empty m)
  site_or_far s i j c xs (mixed_none x _ ys l m) = inl (declared_site x (mixed ys) m)
  site_or_far s i j c xs (mixed_text x _ _ ys a l m f) = inl (declared_site x (mixed ys) m)
  site_or_far s i j c xs (mixed_name x e _ k _ ys a b l m f) = inl (declared_site x (mixed ys) m)
  site_or_far s i j c xs (any_none x _ l m) = inl (declared_site x any m)
  site_or_far s i j c xs (any_text x _ _ a l m f) = inl (declared_site x any m)
  site_or_far s i j c xs (any_name x y _ k _ a b l m d) = inl (declared_site x any m)
  site_or_far s i j c xs (children_part x _ _ p l m) = inl (declared_site x (children p) m)
  site_or_far s i j c xs (part_name q y _ _ l e) = inl (is_some (part_at g q) (name y) e)
  site_or_far s i j c xs (part_seq q _ _ p ps l e) =
      inl (is_some (part_at g q) (seq (part p ps)) e)
  site_or_far s i j c xs (part_choice q r _ _ p ps l e m) =
      inl (is_some (part_at g q) (choice ps) e)
  site_or_far s i j c xs (opt_none q _ p l e) = inl (is_some (part_at g q) (opt p) e)
  site_or_far s i j c xs (opt_one q _ _ p l e) = inl (is_some (part_at g q) (opt p) e)
  site_or_far s i j c xs (star_none q _ p l e) = inl (is_some (part_at g q) (star p) e)
  site_or_far s i j c xs (star_more q _ k _ p a b l e) = inl (is_some (part_at g q) (star p) e)
  site_or_far s i j c xs (plus_one q _ _ p l e) = inl (is_some (part_at g q) (plus p) e)
  site_or_far s i j c xs (plus_more q _ k _ p a b l e) = inl (is_some (part_at g q) (plus p) e)
  site_or_far s i j c xs (rest_last q _ _ p l e) =
      inl (is_some (rest_at g q) (part p no_parts) e)
  site_or_far s i j c xs (rest_then q _ k _ p r ps a b l e) =
      inl (is_some (rest_at g q) (part p (part r ps)) e)

  module _ (t : Goal → ℕ) (at : IsClosedAtSites g w t) where
    closed_case : (s : PlainSite) (i j c : ℕ) (xs : List Goal) → Rule g w (over s i j) c xs →
        HasSite g s ⊎ IsFar s i j c xs → t (over s i j) ≤ min heaviest (c + sum_of t xs)
    closed_case s i j c xs r (inl has) =
        at.closed s i j c xs has (over_spans g w s i j c xs r).0 r
    closed_case s i j c xs r (inr (x, ge, e, n)) =
        let a = at.elsewhere (name_site x) i j (λ l. omega arith) in
        let b = at.elsewhere (content_site x) i j (λ l. omega arith) in
        rw (e, n) (omega arith)

pub closed_at_sites : (g : PlainDtd) (w : List PlainToken) → ClosedAtSitesIsClosed g w
closed_at_sites g w named known t at x c xs r =
    closed_case g w named known t at x.site x.from x.to c xs r
    (site_or_far g w named known x.site x.from x.to c xs r)
