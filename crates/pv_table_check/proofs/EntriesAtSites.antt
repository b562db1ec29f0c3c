-- Entries over a word are closed at a site exactly where the forms of its rules hold.
use Rattle.std.proofs.Common.{Bool, List, None, Option, Some, [], arith, false, inl, inr, length, refl, slice_get, subst, suc, sym, true, ℕ, ◌+◌, ◌<◌, ◌∷◌, ◌≡◌, ◌↔◌}
use Rattle.pv_model.specs.Plain.{PlainPart, PlainParts, PlainToken, any, children, choice, empty, mixed, name, named, no_parts, opt, part, plus, seq, star}
use Rattle.pv_dtd.specs.Plain.{IsDeclared, PlainDtd, model_of, parts_in}
use Rattle.pv_rules.specs.Kinds.{OfContent, OfPart, OfRest, OfSite}
use Rattle.pv_rules.specs.Numbering.{IsMemberAt, first_part, part_at, rest_at}
use Rattle.pv_rules.specs.Rules.{Goal, over}
use Rattle.pv_rules.specs.Rules.{any_name, any_none, any_text, children_part, empty_none, kept, missing, mixed_name, mixed_none, mixed_text, opt_none}
use Rattle.pv_rules.specs.Rules.{opt_one, part_choice, part_name, part_seq, plus_more, plus_one, rest_last, rest_then, star_more, star_none}
use Rattle.pv_rules.specs.Sites.{PlainSite, content_site, name_site, part_site, rest_site}
use Rattle.pv_rules.proofs.RulesByKind.{by_kind}
use Rattle.pv_rules.proofs.FlatKinds.{IsNoRest}
use Rattle.pv_tables.specs.TableLaws.{ListedOrNot}
use Rattle.pv_tables.specs.Values.{listed_value}
use Rattle.pv_tables.specs.declared.tables.Entry.{Entry}
use Rattle.pv_table_check.specs.ClosedEntries.{AreOver, AreClosedAt}
use Rattle.pv_table_check.specs.ClosedForms.{KeepsNames, WeighsAsBehindText, WeighsAsOne, WeighsAsTwo, WeighsNothing}
use Rattle.pv_table_check.proofs.ClosureByForms.{Led, none_from, none_to, one_from, one_to}
use Rattle.pv_table_check.proofs.ClosureByForms.{text_from, text_to, two_from, two_to}

module _ (cases : ListedOrNot) (g : PlainDtd) (w : List PlainToken) (es : List Entry) (are : AreOver g w es) where
  -- the rules of a site are those of what stands there
  abbrev ByRules : PlainSite → Type 0
  ByRules s = (i j c : ℕ) (xs : List Goal) → OfSite g w i j c xs s → Led cases g w es are s i j c xs

  by_rules : (s : PlainSite) → ByRules s → AreClosedAt g w es s
  by_rules s h i j c xs r = h i j c xs (by_kind g w s i j c xs r)

  -- ---- an element of a name
  module _ (x : ℕ) where
    pub name_to : KeepsNames es w → WeighsAsOne es (name_site x) (content_site x) 1 → AreClosedAt g w es (name_site x)
    name_to keeps one = by_rules (name_site x) go
      where
        go : ByRules (name_site x)
        go i j c xs (inl (at, e, z, n)) = let v = keeps x i at in rw (e, z, n) (omega arith)
        go i j c xs (inr (span, z, n)) = one_to cases g w es are (name_site x) (content_site x) 1 one i j c xs z n

    pub name_from : AreClosedAt g w es (name_site x) → WeighsAsOne es (name_site x) (content_site x) 1
    name_from h = one_from cases g w es are (name_site x) (content_site x) 1 (λ i j span. h i j 1 (over (content_site x) i j ∷ []) (missing x i j span))

    pub kept_from : AreClosedAt g w es (name_site x) → (i : ℕ) → slice_get w i ≡ Some (named x) → listed_value es (over (name_site x) i (suc i)) ≡ 0
    kept_from h i at = let v = h i (suc i) 0 [] (kept x i at) in omega arith

  -- ---- content
  module _ (x : ℕ) where
    abbrev C : PlainSite
    C = content_site x

    pub content_none : model_of g x ≡ None → AreClosedAt g w es C
    content_none e = by_rules C (λ i j c xs k. let r = rw e at k in absurd r)

    pub empty_closed : model_of g x ≡ Some empty → WeighsNothing es C (length w) ↔ AreClosedAt g w es C
    empty_closed e = (
      λ none. by_rules C (λ i j c xs k. let r = rw e at k in none_to cases g w es are C none i j c xs r.0 r.1 r.2 r.3),
      λ h. none_from cases g w es are C (λ i l. h i i 0 [] (empty_none x i l e)),
    )

    pub children_closed : (p : PlainPart) → model_of g x ≡ Some (children p) → WeighsAsOne es C (part_site (first_part g x)) 0 ↔ AreClosedAt g w es C
    children_closed p e = (
      λ one. by_rules C (λ i j c xs k. let r = rw e at k in one_to cases g w es are C (part_site (first_part g x)) 0 one i j c xs r.1 r.2),
      λ h. one_from cases g w es are C (part_site (first_part g x)) 0 (λ i j span. h i j 0 (over (part_site (first_part g x)) i j ∷ []) (children_part x i j p span e)),
    )

    -- each of these has the content after it
    abbrev pub TakesBefore : PlainSite → Type 0
    TakesBefore s = WeighsAsTwo es C s C true false

    pub record MixedHolds (ys : List ℕ) : Type 0 where
      pub nothing : WeighsNothing es C (length w)
      pub texts : WeighsAsBehindText es w x
      pub names : (e : ℕ) → e < length ys → TakesBefore (part_site (first_part g x + e))

    pub mixed_to : (ys : List ℕ) → model_of g x ≡ Some (mixed ys) → MixedHolds ys → AreClosedAt g w es C
    mixed_to ys e m = by_rules C (λ i j c xs k. go i j c xs (rw e at k))
      where
        go : (i j c : ℕ) (xs : List Goal) → OfContent g w i j c xs x (Some (mixed ys)) → Led cases g w es are C i j c xs
        go i j c xs (inl (f, l, z, n)) = none_to cases g w es are C m.nothing i j c xs f l z n
        go i j c xs (inr (inl (lt, l, at, z, n))) = text_to cases g w es are x m.texts i j c xs at z n
        go i j c xs (inr (inr (q, k, few, lt, (le, l, z, n)))) =
            two_to cases g w es are C (part_site (first_part g x + q)) C true false (m.names q few) i k j c xs (λ _. lt) (λ f. absurd cc) z n

    pub mixed_from : (ys : List ℕ) → model_of g x ≡ Some (mixed ys) → AreClosedAt g w es C → MixedHolds ys
    mixed_from ys e h = record {
      nothing = none_from cases g w es are C (λ i l. h i i 0 [] (mixed_none x i ys l e));
      texts = text_from cases g w es are x (λ i j lt l at. h i j 0 (over C (suc i) j ∷ []) (mixed_text x i j ys lt l e at));
      names = λ q few. two_from cases g w es are C (part_site (first_part g x + q)) C true false
          (λ i k j o n a b l. h i j 0 (over (part_site (first_part g x + q)) i k ∷ over C k j ∷ []) (mixed_name x q i k j ys (o refl) b l e few));
    }

    pub record AnyHolds : Type 0 where
      pub nothing : WeighsNothing es C (length w)
      pub texts : WeighsAsBehindText es w x
      pub names : (y : ℕ) → IsDeclared g y → TakesBefore (name_site y)

    pub any_to : model_of g x ≡ Some any → AnyHolds → AreClosedAt g w es C
    any_to e m = by_rules C (λ i j c xs k. go i j c xs (rw e at k))
      where
        go : (i j c : ℕ) (xs : List Goal) → OfContent g w i j c xs x (Some any) → Led cases g w es are C i j c xs
        go i j c xs (inl (f, l, z, n)) = none_to cases g w es are C m.nothing i j c xs f l z n
        go i j c xs (inr (inl (lt, l, at, z, n))) = text_to cases g w es are x m.texts i j c xs at z n
        go i j c xs (inr (inr (y, k, d, lt, (le, l, z, n)))) =
            two_to cases g w es are C (name_site y) C true false (m.names y d) i k j c xs (λ _. lt) (λ f. absurd cc) z n

    pub any_from : model_of g x ≡ Some any → AreClosedAt g w es C → AnyHolds
    any_from e h = record {
      nothing = none_from cases g w es are C (λ i l. h i i 0 [] (any_none x i l e));
      texts = text_from cases g w es are x (λ i j lt l at. h i j 0 (over C (suc i) j ∷ []) (any_text x i j lt l e at));
      names = λ y d. two_from cases g w es are C (name_site y) C true false
          (λ i k j o n a b l. h i j 0 (over (name_site y) i k ∷ over C k j ∷ []) (any_name x y i k j (o refl) b l e d));
    }

  -- ---- parts
  module _ (q : ℕ) where
    abbrev P : PlainSite
    P = part_site q

    abbrev I : PlainSite
    I = part_site (suc q)

    -- the part after, by a number
    module _ (n : ℕ) (is : n ≡ suc q) where
      pub one_inner : WeighsAsOne es P (part_site n) 0 → WeighsAsOne es P I 0
      one_inner h = subst (λ k. WeighsAsOne es P (part_site k) 0) is h

      pub one_outer : WeighsAsOne es P I 0 → WeighsAsOne es P (part_site n) 0
      one_outer h = subst (λ k. WeighsAsOne es P (part_site k) 0) (sym is) h

      pub two_inner : (b : Bool) → WeighsAsTwo es P (part_site n) P true b → WeighsAsTwo es P I P true b
      two_inner b h = subst (λ k. WeighsAsTwo es P (part_site k) P true b) is h

      pub two_outer : (b : Bool) → WeighsAsTwo es P I P true b → WeighsAsTwo es P (part_site n) P true b
      two_outer b h = subst (λ k. WeighsAsTwo es P (part_site k) P true b) (sym is) h

      pub rest_inner : WeighsAsOne es P (rest_site n) 0 → WeighsAsOne es P (rest_site (suc q)) 0
      rest_inner h = subst (λ k. WeighsAsOne es P (rest_site k) 0) is h

      pub rest_outer : WeighsAsOne es P (rest_site (suc q)) 0 → WeighsAsOne es P (rest_site n) 0
      rest_outer h = subst (λ k. WeighsAsOne es P (rest_site k) 0) (sym is) h

    pub part_none : part_at g q ≡ None → AreClosedAt g w es P
    part_none e = by_rules P (λ i j c xs k. let r = rw e at k in absurd r)

    pub name_part_closed : (y : ℕ) → part_at g q ≡ Some (name y) → WeighsAsOne es P (name_site y) 0 ↔ AreClosedAt g w es P
    name_part_closed y e = (
      λ one. by_rules P (λ i j c xs k. let r = rw e at k in one_to cases g w es are P (name_site y) 0 one i j c xs r.1 r.2),
      λ h. one_from cases g w es are P (name_site y) 0 (λ i j span. h i j 0 (over (name_site y) i j ∷ []) (part_name q y i j span e)),
    )

    pub seq_closed : (p : PlainPart) (ps : PlainParts) → part_at g q ≡ Some (seq (part p ps)) → WeighsAsOne es P (rest_site (suc q)) 0 ↔ AreClosedAt g w es P
    seq_closed p ps e = (
      λ one. by_rules P (λ i j c xs k. let r = rw e at k in one_to cases g w es are P (rest_site (suc q)) 0 one i j c xs r.1 r.2),
      λ h. one_from cases g w es are P (rest_site (suc q)) 0 (λ i j span. h i j 0 (over (rest_site (suc q)) i j ∷ []) (part_seq q i j p ps span e)),
    )

    abbrev pub MembersHold : PlainParts → Type 0
    MembersHold ps = (p : PlainPart) (r : ℕ) → IsMemberAt p r (suc q) ps → WeighsAsOne es P (part_site r) 0

    pub choice_to : (ps : PlainParts) → part_at g q ≡ Some (choice ps) → MembersHold ps → AreClosedAt g w es P
    choice_to ps e m = by_rules P (λ i j c xs k. let r = rw e at k in one_to cases g w es are P (part_site r.1) 0 (m r.0 r.1 r.2) i j c xs r.3.1 r.3.2)

    pub choice_from : (ps : PlainParts) → part_at g q ≡ Some (choice ps) → AreClosedAt g w es P → MembersHold ps
    choice_from ps e h p r m = one_from cases g w es are P (part_site r) 0 (λ i j span. h i j 0 (over (part_site r) i j ∷ []) (part_choice q r i j p ps span e m))

    pub opt_to : (p : PlainPart) → part_at g q ≡ Some (opt p) → WeighsNothing es P (length w) → WeighsAsOne es P I 0 → AreClosedAt g w es P
    opt_to p e none one = by_rules P (λ i j c xs k. go i j c xs (rw e at k))
      where
        go : (i j c : ℕ) (xs : List Goal) → OfPart g w i j c xs q (Some (opt p)) → Led cases g w es are P i j c xs
        go i j c xs (inl (f, l, z, n)) = none_to cases g w es are P none i j c xs f l z n
        go i j c xs (inr (span, z, n)) = one_to cases g w es are P I 0 one i j c xs z n

    pub opt_from : (p : PlainPart) → part_at g q ≡ Some (opt p) → AreClosedAt g w es P → WeighsNothing es P (length w) × WeighsAsOne es P I 0
    opt_from p e h = (
      none_from cases g w es are P (λ i l. h i i 0 [] (opt_none q i p l e)),
      one_from cases g w es are P I 0 (λ i j span. h i j 0 (over I i j ∷ []) (opt_one q i j p span e)),
    )

    pub star_to : (p : PlainPart) → part_at g q ≡ Some (star p) → WeighsNothing es P (length w) → WeighsAsTwo es P I P true false → AreClosedAt g w es P
    star_to p e none two = by_rules P (λ i j c xs k. go i j c xs (rw e at k))
      where
        go : (i j c : ℕ) (xs : List Goal) → OfPart g w i j c xs q (Some (star p)) → Led cases g w es are P i j c xs
        go i j c xs (inl (f, l, z, n)) = none_to cases g w es are P none i j c xs f l z n
        go i j c xs (inr (k, lt, (le, l, z, n))) = two_to cases g w es are P I P true false two i k j c xs (λ _. lt) (λ f. absurd cc) z n

    pub star_from : (p : PlainPart) → part_at g q ≡ Some (star p) → AreClosedAt g w es P → WeighsNothing es P (length w) × WeighsAsTwo es P I P true false
    star_from p e h = (
      none_from cases g w es are P (λ i l. h i i 0 [] (star_none q i p l e)),
      two_from cases g w es are P I P true false (λ i k j o n a b l. h i j 0 (over I i k ∷ over P k j ∷ []) (star_more q i k j p (o refl) b l e)),
    )

    pub plus_to : (p : PlainPart) → part_at g q ≡ Some (plus p) → WeighsAsOne es P I 0 → WeighsAsTwo es P I P true true → AreClosedAt g w es P
    plus_to p e one two = by_rules P (λ i j c xs k. go i j c xs (rw e at k))
      where
        go : (i j c : ℕ) (xs : List Goal) → OfPart g w i j c xs q (Some (plus p)) → Led cases g w es are P i j c xs
        go i j c xs (inl (span, z, n)) = one_to cases g w es are P I 0 one i j c xs z n
        go i j c xs (inr (k, lt, less, (le, l, z, n))) = two_to cases g w es are P I P true true two i k j c xs (λ _. lt) (λ _. less) z n

    pub plus_from : (p : PlainPart) → part_at g q ≡ Some (plus p) → AreClosedAt g w es P → WeighsAsOne es P I 0 × WeighsAsTwo es P I P true true
    plus_from p e h = (
      one_from cases g w es are P I 0 (λ i j span. h i j 0 (over I i j ∷ []) (plus_one q i j p span e)),
      two_from cases g w es are P I P true true (λ i k j o n a b l. h i j 0 (over I i k ∷ over P k j ∷ []) (plus_more q i k j p (o refl) (n refl) l e)),
    )

  -- ---- the members of a sequence
  module _ (q : ℕ) where
    abbrev S : PlainSite
    S = rest_site q

    no_rest : (r : Option PlainParts) → rest_at g q ≡ r → IsNoRest r → (i j c : ℕ) (xs : List Goal) → OfRest g w i j c xs q r → ⊥
    no_rest None e n i j c xs h = h
    no_rest (Some no_parts) e n i j c xs h = h
    no_rest (Some (part p ps)) e n i j c xs h = absurd n

    pub outside_closed : IsNoRest (rest_at g q) → AreClosedAt g w es S
    outside_closed n = by_rules S (λ i j c xs k. absurd (no_rest (rest_at g q) refl n i j c xs k))

    pub last_closed : (p : PlainPart) → rest_at g q ≡ Some (part p no_parts) → WeighsAsOne es S (part_site q) 0 ↔ AreClosedAt g w es S
    last_closed p e = (
      λ one. by_rules S (λ i j c xs k. let r = rw e at k in one_to cases g w es are S (part_site q) 0 one i j c xs r.1 r.2),
      λ h. one_from cases g w es are S (part_site q) 0 (λ i j span. h i j 0 (over (part_site q) i j ∷ []) (rest_last q i j p span e)),
    )

    pub followed_closed : (p r : PlainPart) (ps : PlainParts) → rest_at g q ≡ Some (part p (part r ps)) →
        WeighsAsTwo es S (part_site q) (rest_site (q + parts_in p)) false false ↔ AreClosedAt g w es S
    followed_closed p r ps e = (
      λ two. by_rules S (λ i j c xs k. let h = rw e at k in
          two_to cases g w es are S (part_site q) (rest_site (q + parts_in p)) false false two i h.0 j c xs (λ f. absurd cc) (λ f. absurd cc) h.2.2 h.2.3),
      λ h. two_from cases g w es are S (part_site q) (rest_site (q + parts_in p)) false false
          (λ i k j o n a b l. h i j 0 (over (part_site q) i k ∷ over (rest_site (q + parts_in p)) k j ∷ []) (rest_then q i k j p r ps a b l e)),
    )
