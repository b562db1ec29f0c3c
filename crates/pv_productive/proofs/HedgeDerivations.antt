-- What a good hedge holds has derivations over no tokens, which weigh no more than its elements.
use Rattle.std.proofs.Common.{List, None, Option, Some, [], arith, inl, inr, map, refl, subst, suc, ℕ, ◌++◌, ◌+◌, ◌∷◌, ◌≡◌, ◌≤◌}
use Rattle.pv_model.specs.Plain.{PlainModel, PlainPart, PlainParts, PlainToken, any, children, choice, empty, mixed, name, named, no_parts, opt, part, plus, seq, star}
use Rattle.pv_model.specs.Models.{Allows, Matches, MatchesAll, MatchesSome}
use Rattle.pv_dtd.specs.Plain.{PlainDtd, declared, model_of, number_of, parts_in}
use Rattle.pv_dtd.specs.Hedge.{AreGood, Fits, Hedge, cdata, data_unit, done, elem, elements, leaf, misc, token, white, word}
use Rattle.pv_rules.specs.Derivations.{Derives, by_rule, none_left, one_more}
use Rattle.pv_rules.specs.Numbering.{IsMemberAt, first_part, here, later, part_at, rest_at}
use Rattle.pv_rules.specs.Rules.{IsSpan, Rule, any_none, children_part, empty_none, missing, mixed_none, opt_none, over, part_choice, part_name, part_seq, plus_one, rest_last, rest_then, star_none}
use Rattle.pv_rules.specs.Sites.{PlainSite, content_site, name_site, part_site, rest_site}
use Rattle.pv_rules.proofs.Facts.{parts_by_number}
use Rattle.pv_dtd.specs.Proper.{AreFullParts, IsFull, IsProperDtd}
use Rattle.pv_dtd.proofs.ProperDtds.{full_children}

module _ (g : PlainDtd) where
  -- the site has a derivation over no tokens
  abbrev pub Nothing : ℕ → PlainSite → Type 0
  Nothing n s = Derives (Rule g []) n (over s 0 0)

  -- one that weighs at most n
  abbrev pub Within : ℕ → PlainSite → Type 0
  Within n s = (m : ℕ) × (m ≤ n) × Nothing m s

  pub none_span : IsSpan [] 0 0
  none_span = (omega arith, omega arith)

  -- by a rule with no right side, one, or two
  pub by_none : (s : PlainSite) → Rule g [] (over s 0 0) 0 [] → Nothing 0 s
  by_none s r = by_rule 0 0 0 (over s 0 0) [] (omega arith) r (none_left 0 refl)

  pub by_one : (c n : ℕ) (s o : PlainSite) → Rule g [] (over s 0 0) c (over o 0 0 ∷ []) → Nothing n o → Nothing (c + n) s
  by_one c n s o r d = by_rule (c + n) c n (over s 0 0) (over o 0 0 ∷ []) refl r (one_more n n 0 (over o 0 0) [] (omega arith) d (none_left 0 refl))

  pub by_two : (n m : ℕ) (s o t : PlainSite) → Rule g [] (over s 0 0) 0 (over o 0 0 ∷ over t 0 0 ∷ []) → Nothing n o → Nothing m t → Nothing (n + m) s
  by_two n m s o t r d e =
      by_rule (n + m) 0 (n + m) (over s 0 0) (over o 0 0 ∷ over t 0 0 ∷ []) (omega arith) r
      (one_more (n + m) n m (over o 0 0) (over t 0 0 ∷ []) refl d (one_more m m 0 (over t 0 0) [] (omega arith) e (none_left 0 refl)))

  passed_on : (n : ℕ) (s o : PlainSite) → Rule g [] (over s 0 0) 0 (over o 0 0 ∷ []) → Within n o → Within n s
  passed_on n s o r (m, l, d) = (0 + m, omega arith, by_one 0 m s o r d)

  -- each of the names has a derivation, and they weigh at most n in all
  abbrev pub Paid : List ℕ → ℕ → Type 0
  Paid [] n = Unit {0}
  Paid (y ∷ u) n = (a : ℕ) × (b : ℕ) × (a + b ≤ n) × Nothing a (name_site y) × Paid u b

  split : (u v : List ℕ) (n : ℕ) → Paid (u ++ v) n → (a : ℕ) × (b : ℕ) × (a + b ≤ n) × Paid u a × Paid v b
  split [] v n p = (0, n, omega arith, tt, p)
  split (y ∷ u) v n (c, d, l, e, r) = let s = split u v d r in (c + s.0, s.1, let z = s.2 in omega arith, (c, s.0, omega arith, e, s.3), s.4)

  -- a member of a choice, by its number
  abbrev Member : ℕ → PlainParts → ℕ → Type 0
  Member q ps n = (p : PlainPart) × (r : ℕ) × IsMemberAt p r q ps × Within n (part_site r)

  later_member : (q n : ℕ) (o : PlainPart) (ps : PlainParts) → Member (q + parts_in o) ps n → Member q (part o ps) n
  later_member q n o ps (p, r, m, w) = (p, r, later q o ps m, w)

  are_parts : (q : ℕ) (o : PlainPart) (ps : PlainParts) → ((p : PlainPart) (r : ℕ) → IsMemberAt p r q (part o ps) → part_at g r ≡ Some p) →
      (p : PlainPart) (r : ℕ) → IsMemberAt p r (q + parts_in o) ps → part_at g r ≡ Some p
  are_parts q o ps f p r m = f p r (later q o ps m)

  mutual
    -- a word of a part
    paid_part : (p : PlainPart) (q : ℕ) → part_at g q ≡ Some p → IsFull p → (w : List ℕ) (n : ℕ) → Matches p w → Paid w n → Within n (part_site q)
    paid_part (name y) q e f w n m p =
        let t : Paid (y ∷ []) n = subst (λ x. Paid x n) m p in
        passed_on n (part_site q) (name_site y) (part_name q y 0 0 none_span e) (t.0, let z = t.2 in omega arith, t.3)
    paid_part (seq no_parts) q e f w n m p = absurd (f.0 refl)
    paid_part (seq (part o ps)) q e f w n m p =
        passed_on n (part_site q) (rest_site (suc q)) (part_seq q 0 0 o ps none_span e)
        (paid_all (part o ps) (suc q) o ps refl ((parts_by_number g).in_seq q o ps e) f.1 w n m p)
    paid_part (choice ps) q e f w n m p =
        let t = paid_some ps (suc q) (λ o r a. (parts_by_number g).in_choice q r o ps e a) f w n m p in
        passed_on n (part_site q) (part_site t.1) (part_choice q t.1 0 0 t.0 ps none_span e t.2) t.3
    paid_part (opt o) q e f w n m p = (0, omega arith, by_none (part_site q) (opt_none q 0 o (omega arith) e))
    paid_part (star o) q e f w n m p = (0, omega arith, by_none (part_site q) (star_none q 0 o (omega arith) e))
    paid_part (plus o) q e f w n (u, v, j, m, r) p =
        let s = split u v n (subst (λ x. Paid x n) j p) in
        passed_on n (part_site q) (part_site (suc q)) (plus_one q 0 0 o none_span e)
        (let t = paid_part o (suc q) ((parts_by_number g).in_plus q o e) f u s.0 m s.3 in
        (t.0, let z = s.2 in let y = t.1 in omega arith, t.2))

    -- a word of a sequence from a member on
    paid_all : (qs : PlainParts) (q : ℕ) (o : PlainPart) (ps : PlainParts) → qs ≡ part o ps → rest_at g q ≡ Some (part o ps) → AreFullParts qs →
        (w : List ℕ) (n : ℕ) → MatchesAll qs w → Paid w n → Within n (rest_site q)
    paid_all no_parts q o ps i e f w n m p = absurd cc
    paid_all (part a no_parts) q o ps i e f w n (u, v, j, m, r) p =
        let s = split u v n (subst (λ x. Paid x n) j p) in
        let h : rest_at g q ≡ Some (part a no_parts) = rw i e in
        passed_on n (rest_site q) (part_site q) (rest_last q 0 0 a none_span h)
        (let t = paid_part a q ((parts_by_number g).member q a no_parts h) f.0 u s.0 m s.3 in
        (t.0, let z = s.2 in let y = t.1 in omega arith, t.2))
    paid_all (part a (part b bs)) q o ps i e f w n (u, v, j, m, r) p =
        let s = split u v n (subst (λ x. Paid x n) j p) in
        let h : rest_at g q ≡ Some (part a (part b bs)) = rw i e in
        let t = paid_part a q ((parts_by_number g).member q a (part b bs) h) f.0 u s.0 m s.3 in
        let x = paid_all (part b bs) (q + parts_in a) b bs refl ((parts_by_number g).next q a b bs h) f.1 v s.1 r s.4 in (
          t.0 + x.0,
          (let z = s.2 in let y = t.1 in let c = x.1 in omega arith),
          by_two t.0 x.0 (rest_site q) (part_site q) (rest_site (q + parts_in a)) (rest_then q 0 0 0 a b bs (omega arith) (omega arith) (omega arith) h) t.2 x.2,
        )

    -- a word of some member
    paid_some : (ps : PlainParts) (q : ℕ) → ((p : PlainPart) (r : ℕ) → IsMemberAt p r q ps → part_at g r ≡ Some p) → AreFullParts ps →
        (w : List ℕ) (n : ℕ) → MatchesSome ps w → Paid w n → Member q ps n
    paid_some no_parts q a f w n m p = absurd m
    paid_some (part o ps) q a f w n (inl m) p =
        (o, q, here q ps refl, paid_part o q (a o q (here q ps refl)) f.0 w n m p)
    paid_some (part o ps) q a f w n (inr m) p =
        later_member q n o ps (paid_some ps (q + parts_in o) (are_parts q o ps a) f.1 w n m p)

  module _ (proper : IsProperDtd g) where
    -- content that fits, where its elements have derivations
    paid_content : (y : ℕ) (k : Hedge) (m : PlainModel) → model_of g y ≡ Some m → Allows (declared g) m (word g k) →
        ((u : List ℕ) → word g k ≡ map named u → Paid u (elements k)) → Within (elements k) (content_site y)
    paid_content y k empty e a p = (0, omega arith, by_none (content_site y) (empty_none y 0 (omega arith) e))
    paid_content y k any e a p = (0, omega arith, by_none (content_site y) (any_none y 0 (omega arith) e))
    paid_content y k (mixed ys) e a p = (0, omega arith, by_none (content_site y) (mixed_none y 0 ys (omega arith) e))
    paid_content y k (children o) e (u, w, m) p =
        let h = (parts_by_number g).outermost y o e in
        let f = full_children g proper y o e in
        passed_on (elements k) (content_site y) (part_site (first_part g y)) (children_part y 0 0 o none_span e)
        (paid_part o (first_part g y) h f u (elements k) m (p u w))

    -- an element whose content has a derivation
    paid_name : (y n : ℕ) → Within n (content_site y) → Within (suc n) (name_site y)
    paid_name y n (m, l, d) = (1 + m, omega arith, by_one 1 m (name_site y) (content_site y) (missing y 0 0 none_span) d)

    first_named : (o : Option ℕ) (y x : ℕ) (w v : List PlainToken) → o ≡ Some y → token o ∷ w ≡ named x ∷ v → (y ≡ x) × (w ≡ v)
    first_named None y x w v e f = absurd cc
    first_named (Some z) y x w v e f = (cc, cc)

    pub paid : (h : Hedge) → AreGood g h → (u : List ℕ) → word g h ≡ map named u → Paid u (elements h)
    paid done a [] e = tt
    paid done a (y ∷ u) e = absurd cc
    paid (leaf (white b) h) a u e = paid h a u e
    paid (leaf (data_unit b) h) a [] e = tt
    paid (leaf (data_unit b) h) a (y ∷ u) e = absurd cc
    paid (leaf (cdata b) h) a [] e = tt
    paid (leaf (cdata b) h) a (y ∷ u) e = absurd cc
    paid (leaf (misc b) h) a u e = paid h a u e
    paid (elem x t k h) a [] e = tt
    paid (elem x t k h) (y, i, f, ak, ah) (z ∷ u) e =
        let s = first_named (number_of g x) y z (word g h) (map named u) i e in
        let d = paid_name y (elements k) (paid_content y k f.model f.is_model f.allowed (λ v j. paid k ak v j)) in
        (d.0, elements h, (let l = d.1 in omega arith), subst (λ o. Nothing d.0 (name_site o)) s.0 d.2, paid h ah u s.1)

    -- an element that may stand has a derivation that weighs no more than its elements
    pub derived : (y : ℕ) (k : Hedge) → Fits g y k → AreGood g k → Within (elements k) (content_site y)
    derived y k f a = paid_content y k f.model f.is_model f.allowed (λ v j. paid k a v j)
