-- What the positions after one more name say: the particle was entered and begins with the name, or the name goes on from an old position.
use Rattle.std.proofs.Common.{◌≡◌, ℕ, Bool, ◌&&◌, ◌||◌, ◌==◌, ◌⊎◌, inl, inr, ◌↔◌, List, [], ◌∷◌, ◌++◌, IsTrue, refl, ap, eqb-true, eq-eqb}
use Rattle.std.proofs.lemmas.Bool.{and_from, and_parts}
use Rattle.pv_model.specs.Plain.{PlainPart, name, seq, choice, opt, star, plus, PlainParts, no_parts, part}
use Rattle.pv_model.specs.Models.{Rounds, round, Matches, MatchesAll, MatchesSome}
use Rattle.pv_model.specs.Positions.{may_be_empty}
use Rattle.pv_model.proofs.Joins.{or-cases, or-left, or-right, joined-first, first_round}
use Rattle.pv_model.proofs.ReachedPositions.{Positions, AllPositions, Continues, ContinuesInOrder, ContinuesSome, ends, after, after_in_order, after_in_each}
use Rattle.pv_model.proofs.EmptyWords.{may_be_empty-means, ends-means}

mutual
  after_from : (p : PlainPart) (e : Bool) (y : ℕ) (m : Positions p) (w : List ℕ) → Continues p (after p e y m) w → (IsTrue e × Matches p (y ∷ w)) ⊎ Continues p m (y ∷ w)
  after_from (name x) e y m w c =
      let both = and_parts e (x == y) c.0 in
      let same : x ≡ y = eqb-true x y both.1 in
      let none : w ≡ [] = c.1 in
      inl (both.0, cc)
  after_from (seq ps) e y m w c = after_in_order_from ps e y m w c
  after_from (choice ps) e y m w c = after_in_each_from ps e y m w c
  after_from (opt p) e y m w c = elim (after_from p e y m w c) [ inl both ↦ inl (both.0, inr both.1) | inr k ↦ inr k ]
  after_from (star p) e y m w c =
      let eq = ap (λ z. y ∷ z) c.2 in
      elim (after_from p (e || ends p m) y m c.0 c.3) [
        | inl both ↦ elim (or-cases e (ends p m) both.0) [
          | inl b ↦ inl (b, round (y ∷ c.0) c.1 (y ∷ w) eq both.1 c.4)
          | inr n ↦ inr ([], y ∷ w, refl, (ends-means p m).0 n, round (y ∷ c.0) c.1 (y ∷ w) eq both.1 c.4)
        ]
        | inr k ↦ inr (y ∷ c.0, c.1, eq, k, c.4)
      ]
  after_from (plus p) e y m w c =
      let eq = ap (λ z. y ∷ z) c.2 in
      elim (after_from p (e || ends p m) y m c.0 c.3) [
        | inl both ↦ elim (or-cases e (ends p m) both.0) [
          | inl b ↦ inl (b, (y ∷ c.0, c.1, eq, both.1, c.4))
          | inr n ↦ inr ([], y ∷ w, refl, (ends-means p m).0 n, round (y ∷ c.0) c.1 (y ∷ w) eq both.1 c.4)
        ]
        | inr k ↦ inr (y ∷ c.0, c.1, eq, k, c.4)
      ]

  after_in_order_from : (ps : PlainParts) (e : Bool) (y : ℕ) (m : AllPositions ps) (w : List ℕ) → ContinuesInOrder ps (after_in_order ps e y m) w →
      (IsTrue e × MatchesAll ps (y ∷ w)) ⊎ ContinuesInOrder ps m (y ∷ w)
  after_in_order_from no_parts e y m w c = absurd c
  after_in_order_from (part p ps) e y m w c = elim c [
    | inl one ↦
        let eq = ap (λ z. y ∷ z) one.2 in
        elim (after_from p e y m.0 one.0 one.3) [
          | inl both ↦ inl (both.0, (y ∷ one.0, one.1, eq, both.1, one.4))
          | inr k ↦ inr (inl (y ∷ one.0, one.1, eq, k, one.4))
        ]
    | inr rest ↦ elim (after_in_order_from ps (ends p m.0 || e && may_be_empty p) y m.1 w rest) [
      | inl both ↦ elim (or-cases (ends p m.0) (e && may_be_empty p) both.0) [
        | inl n ↦ inr (inl ([], y ∷ w, refl, (ends-means p m.0).0 n, both.1))
        | inr b ↦ let r = and_parts e (may_be_empty p) b in inl (r.0, ([], y ∷ w, refl, (may_be_empty-means p).0 r.1, both.1))
      ]
      | inr k ↦ inr (inr k)
    ]
  ]

  after_in_each_from : (ps : PlainParts) (e : Bool) (y : ℕ) (m : AllPositions ps) (w : List ℕ) → ContinuesSome ps (after_in_each ps e y m) w →
      (IsTrue e × MatchesSome ps (y ∷ w)) ⊎ ContinuesSome ps m (y ∷ w)
  after_in_each_from no_parts e y m w c = absurd c
  after_in_each_from (part p ps) e y m w c = elim c [
    | inl one ↦ elim (after_from p e y m.0 w one) [ inl both ↦ inl (both.0, inl both.1) | inr k ↦ inr (inl k) ]
    | inr rest ↦ elim (after_in_each_from ps e y m.1 w rest) [ inl both ↦ inl (both.0, inr both.1) | inr k ↦ inr (inr k) ]
  ]

-- a round that the name begins, where the next step for its member is known
next_round : (p : PlainPart) (e : Bool) (y : ℕ) (m : Positions p) (w : List ℕ) → IsTrue (e || ends p m) → Rounds (Matches p) (y ∷ w) →
    ((u : List ℕ) → (IsTrue (e || ends p m) × Matches p (y ∷ u)) ⊎ Continues p m (y ∷ u) → Continues p (after p (e || ends p m) y m) u) →
    (u : List ℕ) × (v : List ℕ) × (w ≡ u ++ v) × Continues p (after p (e || ends p m) y m) u × Rounds (Matches p) v
next_round p e y m w h r step =
    let f = first_round (Matches p) y w (y ∷ w) r refl in
    (f.0, f.1, f.2, step f.0 (inl (h, f.3)), f.4)

mutual
  after_to : (p : PlainPart) (e : Bool) (y : ℕ) (m : Positions p) (w : List ℕ) → (IsTrue e × Matches p (y ∷ w)) ⊎ Continues p m (y ∷ w) → Continues p (after p e y m) w
  after_to (name x) e y m w c = elim c [
    | inl both ↦
        let is : y ∷ w ≡ x ∷ [] = both.1 in
        let same : x ≡ y = cc in
        let none : w ≡ [] = cc in
        (and_from e (x == y) both.0 (eq-eqb x y same), none)
    | inr k ↦ let none : y ∷ w ≡ [] = k.1 in absurd cc
  ]
  after_to (seq ps) e y m w c = after_in_order_to ps e y m w c
  after_to (choice ps) e y m w c = after_in_each_to ps e y m w c
  after_to (opt p) e y m w c = after_to p e y m w (elim c [
    | inl both ↦ inl (both.0, elim both.1 [ inl none ↦ absurd cc | inr is ↦ is ])
    | inr k ↦ inr k
  ])
  after_to (star p) e y m w c = elim c [
    | inl both ↦ next_round p e y m w (or-left e (ends p m) both.0) both.1 (λ u k. after_to p (e || ends p m) y m u k)
    | inr k ↦ elim (joined-first (Continues p m) (Rounds (Matches p)) k.0 k.1 y w k.2 k.3 k.4) [
      | inl split ↦ next_round p e y m w (or-right e (ends p m) ((ends-means p m).1 split.0)) split.1 (λ u k. after_to p (e || ends p m) y m u k)
      | inr more ↦ (more.0, k.1, more.1, after_to p (e || ends p m) y m more.0 (inr more.2), k.4)
    ]
  ]
  after_to (plus p) e y m w c = elim c [
    | inl both ↦ elim (joined-first (Matches p) (Rounds (Matches p)) both.1.0 both.1.1 y w both.1.2 both.1.3 both.1.4) [
      | inl split ↦ next_round p e y m w (or-left e (ends p m) both.0) split.1 (λ u k. after_to p (e || ends p m) y m u k)
      | inr more ↦ (more.0, both.1.1, more.1, after_to p (e || ends p m) y m more.0 (inl (or-left e (ends p m) both.0, more.2)), both.1.4)
    ]
    | inr k ↦ elim (joined-first (Continues p m) (Rounds (Matches p)) k.0 k.1 y w k.2 k.3 k.4) [
      | inl split ↦ next_round p e y m w (or-right e (ends p m) ((ends-means p m).1 split.0)) split.1 (λ u k. after_to p (e || ends p m) y m u k)
      | inr more ↦ (more.0, k.1, more.1, after_to p (e || ends p m) y m more.0 (inr more.2), k.4)
    ]
  ]

  after_in_order_to : (ps : PlainParts) (e : Bool) (y : ℕ) (m : AllPositions ps) (w : List ℕ) → (IsTrue e × MatchesAll ps (y ∷ w)) ⊎ ContinuesInOrder ps m (y ∷ w) →
      ContinuesInOrder ps (after_in_order ps e y m) w
  after_in_order_to no_parts e y m w c = elim c [ inl both ↦ let none : y ∷ w ≡ [] = both.1 in absurd cc | inr k ↦ absurd k ]
  after_in_order_to (part p ps) e y m w c = elim c [
    | inl both ↦ elim (joined-first (Matches p) (MatchesAll ps) both.1.0 both.1.1 y w both.1.2 both.1.3 both.1.4) [
      | inl split ↦ inr (after_in_order_to ps (ends p m.0 || e && may_be_empty p) y m.1 w
          (inl (or-right (ends p m.0) (e && may_be_empty p) (and_from e (may_be_empty p) both.0 ((may_be_empty-means p).1 split.0)), split.1)))
      | inr more ↦ inl (more.0, both.1.1, more.1, after_to p e y m.0 more.0 (inl (both.0, more.2)), both.1.4)
    ]
    | inr k ↦ elim k [
      | inl one ↦ elim (joined-first (Continues p m.0) (MatchesAll ps) one.0 one.1 y w one.2 one.3 one.4) [
        | inl split ↦ inr (after_in_order_to ps (ends p m.0 || e && may_be_empty p) y m.1 w
            (inl (or-left (ends p m.0) (e && may_be_empty p) ((ends-means p m.0).1 split.0), split.1)))
        | inr more ↦ inl (more.0, one.1, more.1, after_to p e y m.0 more.0 (inr more.2), one.4)
      ]
      | inr rest ↦ inr (after_in_order_to ps (ends p m.0 || e && may_be_empty p) y m.1 w (inr rest))
    ]
  ]

  after_in_each_to : (ps : PlainParts) (e : Bool) (y : ℕ) (m : AllPositions ps) (w : List ℕ) → (IsTrue e × MatchesSome ps (y ∷ w)) ⊎ ContinuesSome ps m (y ∷ w) →
      ContinuesSome ps (after_in_each ps e y m) w
  after_in_each_to no_parts e y m w c = elim c [ inl both ↦ absurd both.1 | inr k ↦ absurd k ]
  after_in_each_to (part p ps) e y m w c = elim c [
    | inl both ↦ elim both.1 [
      | inl one ↦ inl (after_to p e y m.0 w (inl (both.0, one)))
      | inr rest ↦ inr (after_in_each_to ps e y m.1 w (inl (both.0, rest)))
    ]
    | inr k ↦ elim k [ inl one ↦ inl (after_to p e y m.0 w (inr one)) | inr rest ↦ inr (after_in_each_to ps e y m.1 w (inr rest)) ]
  ]

pub after-means : (p : PlainPart) (e : Bool) (y : ℕ) (m : Positions p) (w : List ℕ) → Continues p (after p e y m) w ↔ ((IsTrue e × Matches p (y ∷ w)) ⊎ Continues p m (y ∷ w))
after-means p e y m w = (after_from p e y m w, after_to p e y m w)
