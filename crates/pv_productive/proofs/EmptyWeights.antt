-- Each site has a weight over no tokens, wherever weights are cut; so what merely has a derivation has one.
use Rattle.std.specs.Coded.{le_prop}
use Rattle.std.proofs.Common.{List, None, Option, Some, [], arith, ap, inl, inr, refl, subst, suc, zero, ℕ, ◌+◌, ◌<◌, ◌∷◌, ◌≡◌, ◌≤◌, ◌⊎◌}
use Rattle.std.proofs.Math.Logic.{∥∥₁_elim}
use Rattle.std.proofs.lemmas.Bool.{cases_lt}
use Rattle.pv_model.specs.Plain.{PlainModel, PlainPart, PlainParts, any, children, choice, empty, mixed, name, no_parts, opt, part, plus, seq, star}
use Rattle.pv_dtd.specs.Plain.{PlainDtd, model_of, parts_in}
use Rattle.pv_rules.specs.Derivations.{DeriveAll, by_rule, none_left, one_more}
use Rattle.pv_rules.specs.Kinds.{OfContent, OfName, OfPart, OfRest}
use Rattle.pv_rules.specs.Numbering.{IsMemberAt, first_part, here, later, part_at, rest_at}
use Rattle.pv_rules.specs.Rules.{Goal, Rule, any_none, children_part, empty_none, missing, mixed_none, opt_none, over, part_choice, part_name, part_seq, plus_one, rest_last, rest_then, star_none}
use Rattle.pv_rules.specs.Sites.{PlainSite, content_site, name_site, part_site, rest_site}
use Rattle.pv_rules.proofs.RulesByKind.{by_kind}
use Rattle.pv_rules.proofs.Facts.{parts_by_number}
use Rattle.pv_productive.proofs.HedgeDerivations.{Nothing, by_none, by_one, by_two, none_span}

module _ (g : PlainDtd) where
  -- v is the least weight of a derivation of the site over no tokens, cut at c
  pub record CutWeight (c : ℕ) (s : PlainSite) (v : ℕ) : Type 0 where
    pub bounded : v ≤ c
    pub least : (n : ℕ) → Nothing g n s → v ≤ n
    pub reached : v < c → Nothing g v s

  abbrev HasWeight : ℕ → PlainSite → Type 0
  HasWeight c s = (v : ℕ) × CutWeight c s v

  -- no rule leads the site anywhere
  without : (c : ℕ) (s : PlainSite) → ((k : ℕ) (xs : List Goal) → Rule g [] (over s 0 0) k xs → ⊥) → HasWeight c s
  without c s norule = (c, record { bounded = omega arith; least = λ n d. absurd (none n d); reached = λ f. absurd (omega arith) })
    where
      none : (n : ℕ) → Nothing g n s → ⊥
      none n (by_rule _ k m _ xs e r d) = norule k xs r

  free : (c : ℕ) (s : PlainSite) → Rule g [] (over s 0 0) 0 [] → HasWeight c s
  free c s r = (0, record { bounded = omega arith; least = λ n d. omega arith; reached = λ f. by_none g s r })

  one_of : (n : ℕ) (o : PlainSite) → DeriveAll (Rule g []) n (over o 0 0 ∷ []) → Nothing g n o
  one_of n o (one_more _ a b _ _ e d (none_left _ f)) = let z : a ≡ n = omega arith in rw z at d

  two_of : (n : ℕ) (o t : PlainSite) → DeriveAll (Rule g []) n (over o 0 0 ∷ over t 0 0 ∷ []) → (a : ℕ) × (b : ℕ) × (n ≡ a + b) × Nothing g a o × Nothing g b t
  two_of n o t (one_more _ a b _ _ e d f) = (a, b, e, d, one_of b t f)

  -- each rule costs k, and has this one right side
  through : (c k : ℕ) (s o : PlainSite) → Rule g [] (over s 0 0) k (over o 0 0 ∷ []) →
      ((j : ℕ) (xs : List Goal) → Rule g [] (over s 0 0) j xs → (j ≡ k) × (xs ≡ over o 0 0 ∷ [])) → HasWeight c o → HasWeight (k + c) s
  through c k s o r all (v, w) = (
    k + v,
    record {
      bounded = let z = w.bounded in omega arith;
      least = least;
      reached = λ f. by_one g k v s o r (w.reached (omega arith));
    },
  )
    where
      least : (n : ℕ) → Nothing g n s → k + v ≤ n
      least n (by_rule _ j m _ xs e r' d) =
          let a = all j xs r' in let z = w.least m (one_of m o (subst (λ x. DeriveAll (Rule g []) m x) a.1 d)) in let y = a.0 in omega arith

  same_cut : (c : ℕ) (s : PlainSite) → HasWeight (0 + c) s → HasWeight c s
  same_cut c s h = let z : 0 + c ≡ c = omega arith in rw z at h

  -- each rule costs nothing, and has these two right sides
  both : (c : ℕ) (s o t : PlainSite) → Rule g [] (over s 0 0) 0 (over o 0 0 ∷ over t 0 0 ∷ []) →
      ((j : ℕ) (xs : List Goal) → Rule g [] (over s 0 0) j xs → (j ≡ 0) × (xs ≡ over o 0 0 ∷ over t 0 0 ∷ [])) → HasWeight c o → HasWeight c t → HasWeight c s
  both c s o t r all (v, w) (u, z) = elim (cases_lt (v + u) c) [
    | inl few ↦ (v + u, record { bounded = omega arith; least = least; reached = λ f. by_two g v u s o t r (w.reached (omega arith)) (z.reached (omega arith)) })
    | inr many ↦ (c, record { bounded = omega arith; least = λ n d. let l = least n d in omega arith; reached = λ f. absurd (omega arith) })
  ]
    where
      least : (n : ℕ) → Nothing g n s → v + u ≤ n
      least n (by_rule _ j m _ xs e r' d) =
          let a = all j xs r' in let p = two_of m o t (subst (λ x. DeriveAll (Rule g []) m x) a.1 d) in
          let x = w.least p.0 p.3 in let y = z.least p.1 p.4 in let i = p.2 in omega arith

  -- v is the least weight of the members from number q on, cut
  record Best (c q : ℕ) (ps : PlainParts) (v : ℕ) : Type 0 where
    pub bounded : v ≤ c
    pub least : (p : PlainPart) (r : ℕ) → IsMemberAt p r q ps → (n : ℕ) → Nothing g n (part_site r) → v ≤ n
    pub reached : v < c → (p : PlainPart) × (r : ℕ) × IsMemberAt p r q ps × Nothing g v (part_site r)

  no_best : (c q : ℕ) → (v : ℕ) × Best c q no_parts v
  no_best c q = (c, record { bounded = omega arith; least = λ p r m. elim m [ ]; reached = λ f. absurd (omega arith) })

  better : (c q : ℕ) (o : PlainPart) (ps : PlainParts) → HasWeight c (part_site q) → (v : ℕ) × Best c (q + parts_in o) ps v → (v : ℕ) × Best c q (part o ps) v
  better c q o ps (v, w) (u, b) = elim (cases_lt v u) [
    | inl lt ↦ (v, record { bounded = w.bounded; least = λ p r m n d. least v (omega arith) (omega arith) p r m n d; reached = λ f. (o, q, here q ps refl, w.reached f) })
    | inr le ↦ (
      u,
      record {
        bounded = b.bounded;
        least = λ p r m n d. least u (omega arith) (omega arith) p r m n d;
        reached = λ f. let z = b.reached f in (z.0, z.1, later q o ps z.2, z.3);
      },
    )
  ]
    where
      least : (k : ℕ) → k ≤ v → k ≤ u → (p : PlainPart) (r : ℕ) → IsMemberAt p r q (part o ps) → (n : ℕ) → Nothing g n (part_site r) → k ≤ n
      least k a e p r (here _ _ i) n d = let z = w.least n (rw i d) in omega arith
      least k a e p r (later _ _ _ m) n d = let z = b.least p r m n d in omega arith

  of_choice : (c q : ℕ) (ps : PlainParts) → part_at g q ≡ Some (choice ps) → (v : ℕ) × Best c (suc q) ps v → HasWeight c (part_site q)
  of_choice c q ps e (v, b) = (
    v,
    record {
      bounded = b.bounded;
      least = least;
      reached = λ f. let z = b.reached f in let i : 0 + v ≡ v = omega arith in
          rw i at (by_one g 0 v (part_site q) (part_site z.1) (part_choice q z.1 0 0 z.0 ps (none_span g) e z.2) z.3);
    },
  )
    where
      least : (n : ℕ) → Nothing g n (part_site q) → v ≤ n
      least n (by_rule _ j m _ xs f r d) =
          let k : OfPart g [] 0 0 j xs q (part_at g q) = by_kind g [] (part_site q) 0 0 j xs r in
          let h : OfPart g [] 0 0 j xs q (Some (choice ps)) = rw e at k in
          let a = h.3 in
          let z = b.least h.0 h.1 h.2 m (one_of m (part_site h.1) (subst (λ x. DeriveAll (Rule g []) m x) a.2 d)) in omega arith

  pub part_rules : (q : ℕ) (o : Option PlainPart) → part_at g q ≡ o → (j : ℕ) (xs : List Goal) → Rule g [] (over (part_site q) 0 0) j xs → OfPart g [] 0 0 j xs q o
  part_rules q o e j xs r = let k : OfPart g [] 0 0 j xs q (part_at g q) = by_kind g [] (part_site q) 0 0 j xs r in rw e at k

  pub rest_rules : (q : ℕ) (o : Option PlainParts) → rest_at g q ≡ o → (j : ℕ) (xs : List Goal) → Rule g [] (over (rest_site q) 0 0) j xs → OfRest g [] 0 0 j xs q o
  rest_rules q o e j xs r = let k : OfRest g [] 0 0 j xs q (rest_at g q) = by_kind g [] (rest_site q) 0 0 j xs r in rw e at k

  pub content_rules : (x : ℕ) (o : Option PlainModel) → model_of g x ≡ o → (j : ℕ) (xs : List Goal) → Rule g [] (over (content_site x) 0 0) j xs → OfContent g [] 0 0 j xs x o
  content_rules x o e j xs r = let k : OfContent g [] 0 0 j xs x (model_of g x) = by_kind g [] (content_site x) 0 0 j xs r in rw e at k

  pub name_rules : (x j : ℕ) (xs : List Goal) → OfName g [] 0 0 j xs x → (j ≡ 1) × (xs ≡ over (content_site x) 0 0 ∷ [])
  name_rules x j xs (inl (f, z, e, i)) = absurd cc
  name_rules x j xs (inr (l, e, i)) = (e, i)

  pub plus_rules : (q j : ℕ) (xs : List Goal) (p : PlainPart) → OfPart g [] 0 0 j xs q (Some (plus p)) → (j ≡ 0) × (xs ≡ over (part_site (suc q)) 0 0 ∷ [])
  plus_rules q j xs p (inl (l, e, i)) = (e, i)
  plus_rules q j xs p (inr (k, a, b, t)) = absurd (omega arith)

  pub then_rules : (q j : ℕ) (xs : List Goal) (p r : PlainPart) (ps : PlainParts) → OfRest g [] 0 0 j xs q (Some (part p (part r ps))) →
      (j ≡ 0) × (xs ≡ over (part_site q) 0 0 ∷ over (rest_site (q + parts_in p)) 0 0 ∷ [])
  then_rules q j xs p r ps (k, a, (b, l, e, i)) = let z : k ≡ 0 = omega arith in (e, rw z at i)

  module _ (c : ℕ) (names : (y : ℕ) → HasWeight c (name_site y)) where
    mutual
      weigh_part : (p : PlainPart) (q : ℕ) → part_at g q ≡ Some p → HasWeight c (part_site q)
      weigh_part (name y) q e =
          same_cut c (part_site q) (through c 0 (part_site q) (name_site y) (part_name q y 0 0 (none_span g) e)
          (λ j xs r. let k = part_rules q (Some (name y)) e j xs r in (k.1, k.2)) (names y))
      weigh_part (seq no_parts) q e = without c (part_site q) (λ k xs r. part_rules q (Some (seq no_parts)) e k xs r)
      weigh_part (seq (part o ps)) q e =
          same_cut c (part_site q) (through c 0 (part_site q) (rest_site (suc q)) (part_seq q 0 0 o ps (none_span g) e)
          (λ j xs r. let k = part_rules q (Some (seq (part o ps))) e j xs r in (k.1, k.2))
          (weigh_all (part o ps) (suc q) ((parts_by_number g).in_seq q o ps e)))
      weigh_part (choice ps) q e = of_choice c q ps e (weigh_some ps (suc q) (λ o r a. (parts_by_number g).in_choice q r o ps e a))
      weigh_part (opt p) q e = free c (part_site q) (opt_none q 0 p (omega arith) e)
      weigh_part (star p) q e = free c (part_site q) (star_none q 0 p (omega arith) e)
      weigh_part (plus p) q e =
          same_cut c (part_site q) (through c 0 (part_site q) (part_site (suc q)) (plus_one q 0 0 p (none_span g) e)
          (λ j xs r. plus_rules q j xs p (part_rules q (Some (plus p)) e j xs r)) (weigh_part p (suc q) ((parts_by_number g).in_plus q p e)))

      weigh_all : (ps : PlainParts) (q : ℕ) → rest_at g q ≡ Some ps → HasWeight c (rest_site q)
      weigh_all no_parts q e = without c (rest_site q) (λ k xs r. rest_rules q (Some no_parts) e k xs r)
      weigh_all (part p no_parts) q e =
          same_cut c (rest_site q) (through c 0 (rest_site q) (part_site q) (rest_last q 0 0 p (none_span g) e)
          (λ j xs r. let k = rest_rules q (Some (part p no_parts)) e j xs r in (k.1, k.2)) (weigh_part p q ((parts_by_number g).member q p no_parts e)))
      weigh_all (part p (part r ps)) q e =
          both c (rest_site q) (part_site q) (rest_site (q + parts_in p)) (rest_then q 0 0 0 p r ps (omega arith) (omega arith) (omega arith) e)
          (λ j xs k. then_rules q j xs p r ps (rest_rules q (Some (part p (part r ps))) e j xs k))
          (weigh_part p q ((parts_by_number g).member q p (part r ps) e)) (weigh_all (part r ps) (q + parts_in p) ((parts_by_number g).next q p r ps e))

      weigh_some : (ps : PlainParts) (q : ℕ) → ((p : PlainPart) (r : ℕ) → IsMemberAt p r q ps → part_at g r ≡ Some p) → (v : ℕ) × Best c q ps v
      weigh_some no_parts q a = no_best c q
      weigh_some (part o ps) q a = better c q o ps (weigh_part o q (a o q (here q ps refl))) (weigh_some ps (q + parts_in o) (λ p r m. a p r (later q o ps m)))

    weigh_model : (x : ℕ) (m : Option PlainModel) → model_of g x ≡ m → HasWeight c (content_site x)
    weigh_model x None e = without c (content_site x) (λ k xs r. content_rules x None e k xs r)
    weigh_model x (Some empty) e = free c (content_site x) (empty_none x 0 (omega arith) e)
    weigh_model x (Some any) e = free c (content_site x) (any_none x 0 (omega arith) e)
    weigh_model x (Some (mixed ys)) e = free c (content_site x) (mixed_none x 0 ys (omega arith) e)
    weigh_model x (Some (children p)) e =
        same_cut c (content_site x) (through c 0 (content_site x) (part_site (first_part g x)) (children_part x 0 0 p (none_span g) e)
        (λ j xs r. let k = content_rules x (Some (children p)) e j xs r in (k.1, k.2)) (weigh_part p (first_part g x) ((parts_by_number g).outermost x p e)))

  pub weigh : (c y : ℕ) → HasWeight c (name_site y)
  weigh zero y = (0, record { bounded = omega arith; least = λ n d. omega arith; reached = λ f. absurd (omega arith) })
  weigh (suc c) y =
      let h = through c 1 (name_site y) (content_site y) (missing y 0 0 (none_span g)) (λ j xs r. name_rules y j xs (by_kind g [] (name_site y) 0 0 j xs r))
      (weigh_model c (λ z. weigh c z) y (model_of g y) refl) in
      let z : 1 + c ≡ suc c = omega arith in rw z at h

-- the first number that isn't below its value
abbrev First : (ℕ → ℕ) → ℕ → Type 0
First w n = (w n ≤ n) × ((m : ℕ) → m < n → m < w m)

first_prop : (w : ℕ → ℕ) (n : ℕ) → IsProp (First w n)
first_prop w n = hlevel le_prop

one_first : (w : ℕ → ℕ) (a b : ℕ) → First w a → First w b → a ≡ b
one_first w a b p q = elim (cases_lt a b) [
  | inl lt ↦ absurd (let z = q.1 a lt in let y = p.0 in omega arith)
  | inr le ↦ elim (cases_lt b a) [ inl lt ↦ absurd (let z = p.1 b lt in let y = q.0 in omega arith) | inr ge ↦ omega arith ]
]

abbrev SomeFirst : (ℕ → ℕ) → Type 0
SomeFirst w = (n : ℕ) × First w n

some_first_prop : (w : ℕ → ℕ) → IsProp (SomeFirst w)
some_first_prop w (a, p) (b, q) =
    subst (λ z. (r : First w z) → ◌≡◌ {A = SomeFirst w} (a, p) (z, r)) (one_first w a b p q) (λ r. ap (λ x. let y : SomeFirst w = (a, x) in y) (first_prop w a p r)) q

scan : (w : ℕ → ℕ) (k : ℕ) → ((m : ℕ) → m < k → m < w m) ⊎ SomeFirst w
scan w zero = inl (λ m lt. absurd (omega arith))
scan w (suc k) = elim (scan w k) [
  | inr f ↦ inr f
  | inl below ↦ elim (cases_lt k (w k)) [
    | inl lt ↦ inl (λ m h. elim (cases_lt m k) [ inl l ↦ below m l | inr g ↦ (let z : m ≡ k = omega arith in rw z lt) ])
    | inr le ↦ inr (k, (le, below))
  ]
]

find_first : (w : ℕ → ℕ) (n : ℕ) → w n ≤ n → SomeFirst w
find_first w n le = elim (scan w (suc n)) [ inr f ↦ f | inl below ↦ absurd (let z = below n (omega arith) in omega arith) ]

-- what merely has a derivation over no tokens has one
pub derivation : (g : PlainDtd) (y : ℕ) → ∥ ((n : ℕ) × Nothing g n (name_site y)) ∥₁ → (n : ℕ) × Nothing g n (name_site y)
derivation g y d =
    let w : ℕ → ℕ = λ n. (weigh g (suc n) y).0 in
    let f = ∥∥₁_elim d (some_first_prop w) (λ e. find_first w e.0 ((weigh g (suc e.0) y).1.least e.0 e.1)) in
    let l = f.1 in (w f.0, (weigh g (suc f.0) y).1.reached (let z = l.0 in omega arith))
