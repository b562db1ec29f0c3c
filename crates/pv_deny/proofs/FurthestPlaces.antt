-- Rows of furthest places are a barrier: whatever a rule puts together from what they reach, they reach.
use Rattle.std.specs.Prelude.{IsSome, option_and_then}
use Rattle.std.proofs.Common.{List, None, Option, Some, [], ap, arith, inl, inr, length, refl, slice_get, subst, sym, ℕ, ◌+◌, ◌<◌, ◌∙◌, ◌∷◌, ◌≡◌, ◌≤◌, ◌⊎◌}
use Rattle.std.proofs.lemmas.Bool.{cases_lt}
use Rattle.std.proofs.lemmas.Option.{slice_get_within}
use Rattle.pv_model.specs.Plain.{PlainModel, PlainPart, PlainParts, PlainToken}
use Rattle.pv_dtd.specs.Plain.{PlainDtd, model_of}
use Rattle.pv_dtd.specs.Proper.{IsProperDtd}
use Rattle.pv_rules.specs.Barriers.{AreAtRows, IsBarrierAtRows, IsWithinRows}
use Rattle.pv_rules.specs.Derivations.{DeriveAll, by_rule, none_left, one_more}
use Rattle.pv_rules.specs.SiteDerivations.{DerivesAt}
use Rattle.pv_rules.specs.Kinds.{OfContent, OfName, OfPart, OfRest}
use Rattle.pv_rules.specs.Numbering.{part_at, rest_at}
use Rattle.pv_rules.specs.PlainForms.{plain_site}
use Rattle.pv_rules.specs.Rules.{Goal, IsKnownWord, Rule, over}
use Rattle.pv_rules.specs.Sites.{HasSite, PlainSite, content_site, name_site, part_site, rest_site}
use Rattle.pv_rules.proofs.RulesByKind.{by_kind}
use Rattle.pv_rules.proofs.DerivationsMade.{spanned}
use Rattle.pv_missing.specs.LiveWords.{AreProductiveTokens}
use Rattle.pv_tables.specs.Tables.{kind_rank, site_number}
use Rattle.pv_reach.specs.Laws.{SpansWithin}
use Rattle.pv_denial.specs.Rows.{AreBarrierRows, AreOfOtherSites, EachRow, IsRow, IsSiteBefore, row_of_site, row_value}
use Rattle.pv_denial.specs.declared.denials.Row.{Row}
use Rattle.pv_denial.proofs.SiteRows.{row_found, row_is, slice_get_below}
use Rattle.pv_deny.specs.DocumentDenials.{AreFurthestRows, IsFurthestRow}

before_itself : (a b : PlainSite) → a ≡ b → IsSiteBefore a b → ⊥
before_itself a b e (inl lt) = let k = ap kind_rank e in omega arith
before_itself a b e (inr (k, lt)) = let n = ap site_number e in omega arith

module _ (spans : SpansWithin) (g : PlainDtd) (w : List PlainToken) (rows : List Row)
    (proper : IsProperDtd g) (known : IsKnownWord g w) (productive : AreProductiveTokens g w)
    (are : AreFurthestRows g w rows) where
  abbrev n : ℕ
  n = length w

  module _ (r : Row) (is : IsFurthestRow g w r) where
    abbrev s : PlainSite
    s = plain_site r.site

    bounded : (i v : ℕ) → slice_get r.values i ≡ Some v → (i ≤ v) × (v ≤ n)
    bounded i v e = spanned g w s i v (is.ends i v e).0

    rising_case : (i j u v : ℕ) → i ≤ j → slice_get r.values i ≡ Some u → slice_get r.values j ≡ Some v → (u < j) ⊎ (j ≤ u) → u ≤ v
    rising_case i j u v le a b (inl lt) = let x = bounded j v b in omega arith
    rising_case i j u v le a b (inr ge) =
        let x = bounded i u a in
        (is.ends j v b).1 u (spans g w proper productive s i u j u (is.ends i u a).0 ge x.1 (inr (le, omega arith)))

    row_of_word : IsRow g n r
    row_of_word = record {
      has = is.has;
      long = is.long;
      rises = record { bounded = bounded; rising = λ i j u v le a b. rising_case i j u v le a b (cases_lt u j) };
    }

  each : EachRow (IsRow g n) rows
  each k r e = row_of_word r (are.each k r e)

  once : AreOfOtherSites rows
  once j k q r lt a b e = before_itself (plain_site q.site) (plain_site r.site) e (are.ascend j k q r lt a b)

  found_case : (s : PlainSite) (i k : ℕ) (o : Option Row) → row_of_site rows s ≡ o → option_and_then (λ (r : Row). slice_get r.values i) o ≡ Some k → DerivesAt g w s i k × HasSite g s
  found_case s i k None e h = absurd cc
  found_case s i k (Some r) e h =
      let f = row_found rows s r e in let is = are.each f.place r f.is_there in
      let P : PlainSite → Type 0 = λ v. DerivesAt g w v i k × HasSite g v in subst P f.is_site ((is.ends i k h).0, is.has)

  pub found : (s : PlainSite) (i k : ℕ) → row_value rows s i ≡ Some k → DerivesAt g w s i k × HasSite g s
  found s i k e = found_case s i k (row_of_site rows s) refl e

  all_derive : (xs : List Goal) → AreAtRows (row_value rows) xs → (m : ℕ) × DeriveAll (Rule g w) m xs
  all_derive [] h = (0, none_left 0 refl)
  all_derive (x ∷ xs) h =
      let d = (found x.site x.from x.to h.0).0 in let ds = all_derive xs h.1 in
      (d.0 + ds.0, one_more (d.0 + ds.0) d.0 ds.0 x xs refl d.1 ds.1)

  model_site : (x i j c : ℕ) (xs : List Goal) (o : Option PlainModel) → model_of g x ≡ o → OfContent g w i j c xs x o → x < length g.names
  model_site x i j c xs None e k = absurd k
  model_site x i j c xs (Some m) e k = let a = slice_get_within g.models x m e in let b = proper.named in omega arith

  part_case : (q i j c : ℕ) (xs : List Goal) (o : Option PlainPart) → OfPart g w i j c xs q o → IsSome o
  part_case q i j c xs None k = absurd k
  part_case q i j c xs (Some p) k = refl

  rest_case : (q i j c : ℕ) (xs : List Goal) (o : Option PlainParts) → OfRest g w i j c xs q o → IsSome o
  rest_case q i j c xs None k = absurd k
  rest_case q i j c xs (Some ps) k = refl

  name_case : (x i j c : ℕ) (xs : List Goal) → OfName g w i j c xs x → AreAtRows (row_value rows) xs → x < length g.names
  name_case x i j c xs (inl (t, _, _, _)) at = known i x t
  name_case x i j c xs (inr (_, _, e)) at =
      let P : List Goal → Type 0 = λ ys. AreAtRows (row_value rows) ys in (found (content_site x) i j (subst P e at).0).1

  -- what a rule puts together is a site of the DTD
  has_site : (s : PlainSite) (i j c : ℕ) (xs : List Goal) → Rule g w (over s i j) c xs → AreAtRows (row_value rows) xs → HasSite g s
  has_site (name_site x) i j c xs r at = name_case x i j c xs (by_kind g w (name_site x) i j c xs r) at
  has_site (content_site x) i j c xs r at = model_site x i j c xs (model_of g x) refl (by_kind g w (content_site x) i j c xs r)
  has_site (part_site q) i j c xs r at = part_case q i j c xs (part_at g q) (by_kind g w (part_site q) i j c xs r)
  has_site (rest_site q) i j c xs r at = rest_case q i j c xs (rest_at g q) (by_kind g w (rest_site q) i j c xs r)

  reached : (s : PlainSite) (i j : ℕ) → HasSite g s → DerivesAt g w s i j → IsWithinRows (row_value rows) (over s i j)
  reached s i j has d =
      let a = are.all s has (i, j, d) in let r = a.1 in let is = are.each a.0 r a.2 in
      let span = spanned g w s i j d in
      let v = slice_get_below r.values i (let l = is.long in omega arith) in
      let row = row_is rows s a.0 r once a.2 a.3 in
      let P : PlainSite → Type 0 = λ x. DerivesAt g w x i j in
      (v.0, ap (λ (o : Option Row). option_and_then (λ (q : Row). slice_get q.values i) o) row ∙ v.1, (is.ends i v.0 v.1).1 j (subst P (sym a.3) d))

  barrier : IsBarrierAtRows g w (row_value rows)
  barrier x c xs rule at =
      let ds = all_derive xs at in
      let d : DerivesAt g w x.site x.from x.to = (c + ds.0, by_rule (c + ds.0) c ds.0 x xs refl rule ds.1) in
      reached x.site x.from x.to (has_site x.site x.from x.to c xs rule at) d

  pub furthest_barrier : AreBarrierRows g w rows
  furthest_barrier = record { each = each; once = once; barrier = barrier }
