-- A site over a span weighs what some rule makes of its right sides.
use Rattle.std.specs.Prelude.{IsTrue}
use Rattle.std.proofs.Common.{List, None, Option, Some, [], arith, inl, inr, length, refl, slice_get, suc, ℕ, ◌+◌, ◌<◌, ◌≡◌, ◌≢◌, ◌≤◌, ◌⊎◌}
use Rattle.std.specs.List.{AllByRecursion}
use Rattle.pv_model.specs.Plain.{PlainModel, PlainPart, PlainParts, PlainToken, any, children, choice, empty, mixed, name, named, no_parts, opt, part, plus, seq, star, text}
use Rattle.pv_dtd.specs.Facts.{are_known}
use Rattle.pv_dtd.specs.Plain.{PlainDtd, declared, model_of, parts_in}
use Rattle.pv_rules.specs.Derivations.{DeriveAll, Derives, by_rule, heaviest, none_left, one_more, sum_of}
use Rattle.pv_rules.specs.Kinds.{OfContent, OfName, OfPart, OfRest}
use Rattle.pv_rules.specs.Numbering.{IsMemberAt, first_part, part_at, rest_at}
use Rattle.pv_rules.specs.Rules.{Goal, IsSpan, Rule, any_none, empty_none, kept, mixed_none, opt_none, over, star_none}
use Rattle.pv_rules.specs.Sites.{HasSite, PlainSite, content_site, name_site, part_site, rest_site}
use Rattle.pv_rules.proofs.RulesByKind.{by_kind}
use Rattle.pv_rules.proofs.FlatKinds.{IsNoRest}
use Rattle.pv_rules.proofs.SitesKept.{sites_kept}
use Rattle.pv_rules.proofs.Spans.{over_spans}
use Rattle.pv_complete.specs.Moves.{AreWeightsBy, IsNoItem}

module _ (g : PlainDtd) (w : List PlainToken) (t : Goal → ℕ) (are : AreWeightsBy g w t) where
  abbrev HaveSites : List Goal → Type 0
  HaveSites xs = AllByRecursion (λ (x : Goal). HasSite g x.site) xs

  abbrev AreSpans : ℕ → ℕ → List Goal → Type 0
  AreSpans i j xs = AllByRecursion (λ (x : Goal). (i ≤ x.from) × (x.from ≤ x.to) × (x.to ≤ j)) xs

  -- the right sides have derivations of their weights
  lower : (i j m : ℕ) (xs : List Goal) → j ≤ length w → HaveSites xs → AreSpans i j xs → m < heaviest → DeriveAll (Rule g w) m xs →
      (sum_of t xs ≤ m) × DeriveAll (Rule g w) (sum_of t xs) xs
  lower i j m xs within sites spans few (none_left _ z) = (omega arith, none_left 0 refl)
  lower i j m xs within sites spans few (one_more _ a b x ys e d ds) =
      let q = spans.0 in let one = are x.site x.from x.to sites.0 (q.1, let z = q.2 in omega arith) in
      let le : t x ≤ a = one.least a d in
      let more = lower i j b ys within sites.1 spans.1 (omega arith) ds in
      (let r = more.0 in omega arith, one_more (t x + sum_of t ys) (t x) (sum_of t ys) x ys refl (one.reached (omega arith)) more.1)

  module _ (known : IsTrue (are_known g)) (some_names : declared g ≤ length g.names) where
    -- a rule whose right sides weigh as much as the left side, with its cost
    pub record Optimal (s : PlainSite) (i j : ℕ) : Type 0 where
      pub cost : ℕ
      pub sides : List Goal
      pub rule : Rule g w (over s i j) cost sides
      pub weight : t (over s i j) ≡ cost + sum_of t sides

    by_derivation : (s : PlainSite) (i j n : ℕ) → HasSite g s → n < heaviest → t (over s i j) ≡ n → ((m : ℕ) → Derives (Rule g w) m (over s i j) → t (over s i j) ≤ m) →
        Derives (Rule g w) n (over s i j) → Optimal s i j
    by_derivation s i j n has few is least (by_rule _ c m _ xs e r ds) =
        let spans = over_spans g w s i j c xs r in
        let low = lower i j m xs (spans.0.1) (sites_kept g w known some_names s i j c xs r has) spans.1 (omega arith) ds in
        let up = least (c + sum_of t xs) (by_rule (c + sum_of t xs) c (sum_of t xs) (over s i j) xs refl r low.1) in
        record { cost = c; sides = xs; rule = r; weight = let z = low.0 in omega arith }

    pub optimal : (s : PlainSite) (i j : ℕ) → HasSite g s → IsSpan w i j → t (over s i j) < heaviest → Optimal s i j
    optimal s i j has span few =
        let one = are s i j has span in by_derivation s i j (t (over s i j)) has few refl (λ m d. one.least m d) (one.reached few)

    -- what a rule makes of nothing weighs nothing
    pub weighs_nothing : (s : PlainSite) (i j : ℕ) → HasSite g s → IsSpan w i j → Rule g w (over s i j) 0 [] → t (over s i j) ≡ 0
    weighs_nothing s i j has span r = let l = (are s i j has span).least 0 (by_rule 0 0 0 (over s i j) [] refl r (none_left 0 refl)) in omega arith

    module _ (i j : ℕ) (span : IsSpan w i j) where
      name_case : (x c : ℕ) (xs : List Goal) → OfName g w i j c xs x → t (over (name_site x) i j) ≡ c + sum_of t xs → (slice_get w i ≡ Some (named x) → j ≡ suc i → ⊥) →
          t (over (name_site x) i j) ≡ suc (t (over (content_site x) i j))
      name_case x c xs (inl (f, e, z, h)) weight not = absurd (not f e)
      name_case x c xs (inr (s, z, h)) weight not = let q = rw h at weight in omega arith

      -- an element that isn't there is new
      pub name_new : (x : ℕ) → HasSite g (name_site x) → t (over (name_site x) i j) < heaviest → (slice_get w i ≡ Some (named x) → j ≡ suc i → ⊥) →
          t (over (name_site x) i j) ≡ suc (t (over (content_site x) i j))
      name_new x has few not = let o = optimal (name_site x) i j has span few in name_case x o.cost o.sides (by_kind g w (name_site x) i j o.cost o.sides o.rule) o.weight not

      pub name_kept : (x : ℕ) → HasSite g (name_site x) → slice_get w i ≡ Some (named x) → j ≡ suc i → t (over (name_site x) i j) ≡ 0
      name_kept x has f e = weighs_nothing (name_site x) i j has span (let r : Rule g w (over (name_site x) i (suc i)) 0 [] = kept x i f in rw e r)

      module _ (x : ℕ) (has : HasSite g (content_site x)) (few : t (over (content_site x) i j) < heaviest) where
        o : Optimal (content_site x) i j
        o = optimal (content_site x) i j has span few

        rules : (m : Option PlainModel) → model_of g x ≡ m → OfContent g w i j o.cost o.sides x m
        rules m e = let k : OfContent g w i j o.cost o.sides x (model_of g x) = by_kind g w (content_site x) i j o.cost o.sides o.rule in rw e at k

        -- the content of a name has a model
        pub content_declared : model_of g x ≡ None → ⊥
        content_declared e = rules None e

        -- nothing stands in an empty element
        pub content_empty : model_of g x ≡ Some empty → i ≡ j
        content_empty e = (rules (Some empty) e).0

        pub content_children : (p : PlainPart) → model_of g x ≡ Some (children p) → t (over (content_site x) i j) ≡ t (over (part_site (first_part g x)) i j)
        content_children p e = let r = rules (Some (children p)) e in let z = r.1 in let h = r.2 in let q = o.weight in let v = rw h at q in omega arith

        mixed_case : (ys : List ℕ) (c : ℕ) (xs : List Goal) → i < j → t (over (content_site x) i j) ≡ c + sum_of t xs → OfContent g w i j c xs x (Some (mixed ys)) →
            ((slice_get w i ≡ Some text) × (t (over (content_site x) i j) ≡ t (over (content_site x) (suc i) j)) → ⊥) →
            IsNoItem t part_site (first_part g x) (first_part g x + length ys) x i j (t (over (content_site x) i j)) → ⊥
        mixed_case ys c xs lt weight (inl (z, n, m, h)) not none = omega arith
        mixed_case ys c xs lt weight (inr (inl (l, n, f, z, h))) not none = not (f, let v = rw h at weight in omega arith)
        mixed_case ys c xs lt weight (inr (inr (e, k, l, q, (le, n, z, h)))) not none =
            none (first_part g x + e) k (omega arith) (omega arith) q le (let v = rw h at weight in omega arith)

        -- a text in front, or a listed name
        pub content_mixed : (ys : List ℕ) → model_of g x ≡ Some (mixed ys) → i < j → ((slice_get w i ≡ Some text) × (t (over (content_site x) i j) ≡ t (over (content_site x) (suc i) j)) → ⊥) →
            IsNoItem t part_site (first_part g x) (first_part g x + length ys) x i j (t (over (content_site x) i j)) → ⊥
        content_mixed ys e lt not none = mixed_case ys o.cost o.sides lt o.weight (rules (Some (mixed ys)) e) not none

        any_case : (c : ℕ) (xs : List Goal) → i < j → t (over (content_site x) i j) ≡ c + sum_of t xs → OfContent g w i j c xs x (Some any) →
            ((slice_get w i ≡ Some text) × (t (over (content_site x) i j) ≡ t (over (content_site x) (suc i) j)) → ⊥) →
            IsNoItem t name_site 0 (declared g) x i j (t (over (content_site x) i j)) → ⊥
        any_case c xs lt weight (inl (z, n, m, h)) not none = omega arith
        any_case c xs lt weight (inr (inl (l, n, f, z, h))) not none = not (f, let v = rw h at weight in omega arith)
        any_case c xs lt weight (inr (inr (y, k, d, q, (le, n, z, h)))) not none = none y k (omega arith) d q le (let v = rw h at weight in omega arith)

        pub content_any : model_of g x ≡ Some any → i < j → ((slice_get w i ≡ Some text) × (t (over (content_site x) i j) ≡ t (over (content_site x) (suc i) j)) → ⊥) →
            IsNoItem t name_site 0 (declared g) x i j (t (over (content_site x) i j)) → ⊥
        content_any e lt not none = any_case o.cost o.sides lt o.weight (rules (Some any) e) not none

        pub content_nothing : (model_of g x ≡ Some empty) ⊎ (model_of g x ≡ Some any) ⊎ ((ys : List ℕ) × (model_of g x ≡ Some (mixed ys))) → i ≡ j → t (over (content_site x) i j) ≡ 0
        content_nothing m e = weighs_nothing (content_site x) i j has span (at_end m)
          where
            within : i ≤ length w
            within = omega (arith, span.0, span.1)

            at_end : (model_of g x ≡ Some empty) ⊎ (model_of g x ≡ Some any) ⊎ ((ys : List ℕ) × (model_of g x ≡ Some (mixed ys))) → Rule g w (over (content_site x) i j) 0 []
            at_end (inl m) = let r : Rule g w (over (content_site x) i i) 0 [] = empty_none x i within m in rw (← e) r
            at_end (inr (inl m)) = let r : Rule g w (over (content_site x) i i) 0 [] = any_none x i within m in rw (← e) r
            at_end (inr (inr (ys, m))) = let r : Rule g w (over (content_site x) i i) 0 [] = mixed_none x i ys within m in rw (← e) r

      module _ (q : ℕ) (has : HasSite g (part_site q)) (few : t (over (part_site q) i j) < heaviest) where
        part_o : Optimal (part_site q) i j
        part_o = optimal (part_site q) i j has span few

        part_rules : (p : Option PlainPart) → part_at g q ≡ p → OfPart g w i j part_o.cost part_o.sides q p
        part_rules p e = let k : OfPart g w i j part_o.cost part_o.sides q (part_at g q) = by_kind g w (part_site q) i j part_o.cost part_o.sides part_o.rule in rw e at k

        -- a part stands there
        pub part_stands : part_at g q ≡ None → ⊥
        part_stands e = part_rules None e

        pub part_name_weight : (y : ℕ) → part_at g q ≡ Some (name y) → t (over (part_site q) i j) ≡ t (over (name_site y) i j)
        part_name_weight y e = let r = part_rules (Some (name y)) e in let h = r.2 in let k = part_o.weight in let v = rw h at k in let z = r.1 in omega arith

        pub part_seq_weight : (p : PlainPart) (ps : PlainParts) → part_at g q ≡ Some (seq (part p ps)) → t (over (part_site q) i j) ≡ t (over (rest_site (suc q)) i j)
        part_seq_weight p ps e = let r = part_rules (Some (seq (part p ps))) e in let h = r.2 in let k = part_o.weight in let v = rw h at k in let z = r.1 in omega arith

        choice_case : (ps : PlainParts) (c : ℕ) (xs : List Goal) → t (over (part_site q) i j) ≡ c + sum_of t xs → OfPart g w i j c xs q (Some (choice ps)) →
            (p : PlainPart) × (r : ℕ) × IsMemberAt p r (suc q) ps × (t (over (part_site q) i j) ≡ t (over (part_site r) i j))
        choice_case ps c xs weight (p, r, m, (s, z, h)) = (p, r, m, let v = rw h at weight in omega arith)

        -- some member of a choice weighs as much
        pub part_choice_weight : (ps : PlainParts) → part_at g q ≡ Some (choice ps) →
            (p : PlainPart) × (r : ℕ) × IsMemberAt p r (suc q) ps × (t (over (part_site q) i j) ≡ t (over (part_site r) i j))
        part_choice_weight ps e = choice_case ps part_o.cost part_o.sides part_o.weight (part_rules (Some (choice ps)) e)

        opt_case : (p : PlainPart) (c : ℕ) (xs : List Goal) → i < j → t (over (part_site q) i j)
            ≡ c + sum_of t xs → OfPart g w i j c xs q (Some (opt p)) → t (over (part_site q) i j)
            ≡ t (over (part_site (suc q)) i j)
        opt_case p c xs lt weight (inl (z, n, m, h)) = absurd (omega arith)
        opt_case p c xs lt weight (inr (s, z, h)) = let v = rw h at weight in omega arith

        pub part_opt_weight : (p : PlainPart) → part_at g q ≡ Some (opt p) → i < j → t (over (part_site q) i j) ≡ t (over (part_site (suc q)) i j)
        part_opt_weight p e lt = opt_case p part_o.cost part_o.sides lt part_o.weight (part_rules (Some (opt p)) e)

        pub part_opt_nothing : (p : PlainPart) → part_at g q ≡ Some (opt p) → i ≡ j → t (over (part_site q) i j) ≡ 0
        part_opt_nothing p e f = weighs_nothing (part_site q) i j has span
            (let r : Rule g w (over (part_site q) i i) 0 [] = opt_none q i p (omega (arith, span.0, span.1)) e in rw (← f) r)

        pub part_star_nothing : (p : PlainPart) → part_at g q ≡ Some (star p) → i ≡ j → t (over (part_site q) i j) ≡ 0
        part_star_nothing p e f = weighs_nothing (part_site q) i j has span
            (let r : Rule g w (over (part_site q) i i) 0 [] = star_none q i p (omega (arith, span.0, span.1)) e in rw (← f) r)

        star_case : (p : PlainPart) (c : ℕ) (xs : List Goal) → i < j → t (over (part_site q) i j) ≡ c + sum_of t xs → OfPart g w i j c xs q (Some (star p)) →
            ((k : ℕ) → suc i ≤ k → k < suc j → t (over (part_site q) i j) ≢ t (over (part_site (suc q)) i k) + t (over (part_site q) k j)) → ⊥
        star_case p c xs lt weight (inl (z, n, m, h)) none = omega arith
        star_case p c xs lt weight (inr (k, l, (le, n, z, h))) none = none k (omega arith) (omega arith) (let v = rw h at weight in omega arith)

        pub part_star_cut : (p : PlainPart) → part_at g q ≡ Some (star p) → i < j →
            ((k : ℕ) → suc i ≤ k → k < suc j → t (over (part_site q) i j) ≢ t (over (part_site (suc q)) i k) + t (over (part_site q) k j)) → ⊥
        part_star_cut p e lt none = star_case p part_o.cost part_o.sides lt part_o.weight (part_rules (Some (star p)) e) none

        plus_case : (p : PlainPart) (c : ℕ) (xs : List Goal) → t (over (part_site q) i j)
            ≡ c + sum_of t xs → OfPart g w i j c xs q (Some (plus p)) →
            (t (over (part_site q) i j) ≢ t (over (part_site (suc q)) i j)) →
            ((k : ℕ) → suc i ≤ k → k < j → t (over (part_site q) i j) ≢ t (over (part_site (suc q)) i k) + t (over (part_site q) k j)) → ⊥
        plus_case p c xs weight (inl (s, z, h)) one none = one (let v = rw h at weight in omega arith)
        plus_case p c xs weight (inr (k, l, lt, (le, n, z, h))) one none = none k (omega arith) lt (let v = rw h at weight in omega arith)

        pub part_plus_cut : (p : PlainPart) → part_at g q ≡ Some (plus p) → (t (over (part_site q) i j) ≢ t (over (part_site (suc q)) i j)) →
            ((k : ℕ) → suc i ≤ k → k < j → t (over (part_site q) i j) ≢ t (over (part_site (suc q)) i k) + t (over (part_site q) k j)) → ⊥
        part_plus_cut p e one none = plus_case p part_o.cost part_o.sides part_o.weight (part_rules (Some (plus p)) e) one none

      module _ (q : ℕ) (has : HasSite g (rest_site q)) (few : t (over (rest_site q) i j) < heaviest) where
        rest_o : Optimal (rest_site q) i j
        rest_o = optimal (rest_site q) i j has span few

        rest_rules : (r : Option PlainParts) → rest_at g q ≡ r → OfRest g w i j rest_o.cost rest_o.sides q r
        rest_rules r e = let k : OfRest g w i j rest_o.cost rest_o.sides q (rest_at g q) = by_kind g w (rest_site q) i j rest_o.cost rest_o.sides rest_o.rule in rw e at k

        -- a member of a sequence stands there
        pub rest_stands : (r : Option PlainParts) → rest_at g q ≡ r → IsNoRest r → ⊥
        rest_stands None e n = rest_rules None e
        rest_stands (Some no_parts) e n = rest_rules (Some no_parts) e
        rest_stands (Some (part p ps)) e n = n

        pub rest_last_weight : (p : PlainPart) → rest_at g q ≡ Some (part p no_parts) → t (over (rest_site q) i j) ≡ t (over (part_site q) i j)
        rest_last_weight p e = let r = rest_rules (Some (part p no_parts)) e in let h = r.2 in let k = rest_o.weight in let v = rw h at k in let z = r.1 in omega arith

        then_case : (p r : PlainPart) (ps : PlainParts) (c : ℕ) (xs : List Goal) → t (over (rest_site q) i j) ≡ c + sum_of t xs → OfRest g w i j c xs q (Some (part p (part r ps))) →
            ((k : ℕ) → i ≤ k → k < suc j → t (over (rest_site q) i j) ≢ t (over (part_site q) i k) + t (over (rest_site (q + parts_in p)) k j)) → ⊥
        then_case p r ps c xs weight (k, l, (le, n, z, h)) none = none k l (omega arith) (let v = rw h at weight in omega arith)

        pub rest_cut : (p r : PlainPart) (ps : PlainParts) → rest_at g q ≡ Some (part p (part r ps)) →
            ((k : ℕ) → i ≤ k → k < suc j → t (over (rest_site q) i j) ≢ t (over (part_site q) i k) + t (over (rest_site (q + parts_in p)) k j)) → ⊥
        rest_cut p r ps e none = then_case p r ps rest_o.cost rest_o.sides rest_o.weight (rest_rules (Some (part p (part r ps))) e) none
