-- What the places that a word has reached in a laid-out particle say of the rest of it.
use Rattle.std.proofs.Common.{◌≡◌, ℕ, Bool, ◌&&◌, ◌||◌, ◌==◌, ◌⊎◌, inl, inr, ◌↔◌, List, [], ◌∷◌, ◌++◌, IsTrue, refl, sym, ap, ◌∙◌, eqb-true, eq-eqb}
use Rattle.std.proofs.lemmas.Bool.{and_from, and_parts}
use Rattle.pv_model.specs.Models.{Rounds, no_round, round}
use Rattle.pv_model.specs.Layouts.{PlainLayout, nothing, blank, one, in_order, either, optional, repeated, HasWord, has_empty_word, IsNumbered, Reach, ends, after}
use Rattle.pv_model.proofs.Joins.{or-cases, or-left, or-right, joined-none, joined-first, first_round}

-- what is left of a word of the particle, after one of the names reached
abbrev pub GoesOn : (g : PlainLayout) → Reach g → List ℕ → Type 0
GoesOn nothing m w = ⊥
GoesOn blank m w = ⊥
GoesOn (one place y) m w = IsTrue m × (w ≡ [])
GoesOn (in_order middle f s g h) m w = ((u : List ℕ) × (v : List ℕ) × (w ≡ u ++ v) × GoesOn g m.0 u × HasWord h v) ⊎ GoesOn h m.1 w
GoesOn (either middle g h) m w = GoesOn g m.0 w ⊎ GoesOn h m.1 w
GoesOn (optional g) m w = GoesOn g m w
GoesOn (repeated place g) m w = (u : List ℕ) × (v : List ℕ) × (w ≡ u ++ v) × GoesOn g m u × Rounds (HasWord g) v

-- the empty word
empty_from : (g : PlainLayout) (a b : ℕ) → IsNumbered g a b → IsTrue (has_empty_word g) → HasWord g []
empty_from nothing a b n h = absurd cc
empty_from blank a b n h = refl
empty_from (one place y) a b n h = absurd cc
empty_from (in_order middle f s g h) a b n t =
    let both = and_parts f s t in
    ([], [], refl, empty_from g a middle n.2 (sym n.0 ∙ both.0), empty_from h middle b n.3 (sym n.1 ∙ both.1))
empty_from (either middle g h) a b n t =
    elim (or-cases (has_empty_word g) (has_empty_word h) t) [ inl x ↦ inl (empty_from g a middle n.0 x) | inr x ↦ inr (empty_from h middle b n.1 x) ]
empty_from (optional g) a b n t = inl refl
empty_from (repeated place g) a b n t = ([], [], refl, empty_from g a place n.0 t, no_round)

empty_to : (g : PlainLayout) (a b : ℕ) → IsNumbered g a b → HasWord g [] → IsTrue (has_empty_word g)
empty_to nothing a b n h = absurd h
empty_to blank a b n h = refl
empty_to (one place y) a b n h = absurd cc
empty_to (in_order middle f s g h) a b n t =
    let parts = joined-none (HasWord g) (HasWord h) t.0 t.1 t.2 t.3 t.4 in
    and_from f s (n.0 ∙ empty_to g a middle n.2 parts.0) (n.1 ∙ empty_to h middle b n.3 parts.1)
empty_to (either middle g h) a b n t = elim t [
  | inl x ↦ or-left (has_empty_word g) (has_empty_word h) (empty_to g a middle n.0 x)
  | inr x ↦ or-right (has_empty_word g) (has_empty_word h) (empty_to h middle b n.1 x)
]
empty_to (optional g) a b n t = refl
empty_to (repeated place g) a b n t = let parts = joined-none (HasWord g) (Rounds (HasWord g)) t.0 t.1 t.2 t.3 t.4 in empty_to g a place n.0 parts.0

pub has_empty_word-means : (g : PlainLayout) (a b : ℕ) → IsNumbered g a b → IsTrue (has_empty_word g) ↔ HasWord g []
has_empty_word-means g a b n = (empty_from g a b n, empty_to g a b n)

-- the end
ends_from : (g : PlainLayout) (a b : ℕ) → IsNumbered g a b → (m : Reach g) → IsTrue (ends g m) → GoesOn g m []
ends_from nothing a b n m h = absurd cc
ends_from blank a b n m h = absurd cc
ends_from (one place y) a b n m h = (h, refl)
ends_from (in_order middle f s g h) a b n m t =
    elim (or-cases (ends h m.1) (ends g m.0 && s) t) [
      | inl x ↦ inr (ends_from h middle b n.3 m.1 x)
      | inr x ↦ let both = and_parts (ends g m.0) s x in inl ([], [], refl, ends_from g a middle n.2 m.0 both.0, empty_from h middle b n.3 (sym n.1 ∙ both.1))
    ]
ends_from (either middle g h) a b n m t =
    elim (or-cases (ends g m.0) (ends h m.1) t) [ inl x ↦ inl (ends_from g a middle n.0 m.0 x) | inr x ↦ inr (ends_from h middle b n.1 m.1 x) ]
ends_from (optional g) a b n m t = ends_from g a b n m t
ends_from (repeated place g) a b n m t = ([], [], refl, ends_from g a place n.0 m t, no_round)

ends_to : (g : PlainLayout) (a b : ℕ) → IsNumbered g a b → (m : Reach g) → GoesOn g m [] → IsTrue (ends g m)
ends_to nothing a b n m c = absurd c
ends_to blank a b n m c = absurd c
ends_to (one place y) a b n m c = c.0
ends_to (in_order middle f s g h) a b n m c = elim c [
  | inl x ↦
      let parts = joined-none (GoesOn g m.0) (HasWord h) x.0 x.1 x.2 x.3 x.4 in
      or-right (ends h m.1) (ends g m.0 && s) (and_from (ends g m.0) s (ends_to g a middle n.2 m.0 parts.0) (n.1 ∙ empty_to h middle b n.3 parts.1))
  | inr x ↦ or-left (ends h m.1) (ends g m.0 && s) (ends_to h middle b n.3 m.1 x)
]
ends_to (either middle g h) a b n m c = elim c [
  | inl x ↦ or-left (ends g m.0) (ends h m.1) (ends_to g a middle n.0 m.0 x)
  | inr x ↦ or-right (ends g m.0) (ends h m.1) (ends_to h middle b n.1 m.1 x)
]
ends_to (optional g) a b n m c = ends_to g a b n m c
ends_to (repeated place g) a b n m c = let parts = joined-none (GoesOn g m) (Rounds (HasWord g)) c.0 c.1 c.2 c.3 c.4 in ends_to g a place n.0 m parts.0

pub ends-means : (g : PlainLayout) (a b : ℕ) → IsNumbered g a b → (m : Reach g) → IsTrue (ends g m) ↔ GoesOn g m []
ends-means g a b n m = (ends_from g a b n m, ends_to g a b n m)

-- the particle was entered and begins with y, or y goes on from a name reached before
after_from : (g : PlainLayout) (a b : ℕ) → IsNumbered g a b → (e : Bool) (y : ℕ) (m : Reach g) (w : List ℕ) → GoesOn g (after g e y m) w →
    (IsTrue e × HasWord g (y ∷ w)) ⊎ GoesOn g m (y ∷ w)
after_from nothing a b n e y m w c = absurd c
after_from blank a b n e y m w c = absurd c
after_from (one place x) a b n e y m w c =
    let both = and_parts e (x == y) c.0 in
    let same : x ≡ y = eqb-true x y both.1 in
    let none : w ≡ [] = c.1 in
    inl (both.0, cc)
after_from (in_order middle f s g h) a b n e y m w c = elim c [
  | inl x ↦
      let eq = ap (λ z. y ∷ z) x.2 in
      elim (after_from g a middle n.2 e y m.0 x.0 x.3) [
        | inl both ↦ inl (both.0, (y ∷ x.0, x.1, eq, both.1, x.4))
        | inr k ↦ inr (inl (y ∷ x.0, x.1, eq, k, x.4))
      ]
  | inr rest ↦ elim (after_from h middle b n.3 (ends g m.0 || e && f) y m.1 w rest) [
    | inl both ↦ elim (or-cases (ends g m.0) (e && f) both.0) [
      | inl z ↦ inr (inl ([], y ∷ w, refl, ends_from g a middle n.2 m.0 z, both.1))
      | inr z ↦ let r = and_parts e f z in inl (r.0, ([], y ∷ w, refl, empty_from g a middle n.2 (sym n.0 ∙ r.1), both.1))
    ]
    | inr k ↦ inr (inr k)
  ]
]
after_from (either middle g h) a b n e y m w c = elim c [
  | inl x ↦ elim (after_from g a middle n.0 e y m.0 w x) [ inl both ↦ inl (both.0, inl both.1) | inr k ↦ inr (inl k) ]
  | inr x ↦ elim (after_from h middle b n.1 e y m.1 w x) [ inl both ↦ inl (both.0, inr both.1) | inr k ↦ inr (inr k) ]
]
after_from (optional g) a b n e y m w c = elim (after_from g a b n e y m w c) [ inl both ↦ inl (both.0, inr both.1) | inr k ↦ inr k ]
after_from (repeated place g) a b n e y m w c =
    let eq = ap (λ z. y ∷ z) c.2 in
    elim (after_from g a place n.0 (e || ends g m) y m c.0 c.3) [
      | inl both ↦ elim (or-cases e (ends g m) both.0) [
        | inl t ↦ inl (t, (y ∷ c.0, c.1, eq, both.1, c.4))
        | inr t ↦ inr ([], y ∷ w, refl, ends_from g a place n.0 m t, round (y ∷ c.0) c.1 (y ∷ w) eq both.1 c.4)
      ]
      | inr k ↦ inr (y ∷ c.0, c.1, eq, k, c.4)
    ]

-- a round that the name begins, where the next step for its member is known
next_round : (g : PlainLayout) (e : Bool) (y : ℕ) (m : Reach g) (w : List ℕ) → IsTrue (e || ends g m) → Rounds (HasWord g) (y ∷ w) →
    ((u : List ℕ) → (IsTrue (e || ends g m) × HasWord g (y ∷ u)) ⊎ GoesOn g m (y ∷ u) → GoesOn g (after g (e || ends g m) y m) u) →
    (u : List ℕ) × (v : List ℕ) × (w ≡ u ++ v) × GoesOn g (after g (e || ends g m) y m) u × Rounds (HasWord g) v
next_round g e y m w h r step =
    let f = first_round (HasWord g) y w (y ∷ w) r refl in
    (f.0, f.1, f.2, step f.0 (inl (h, f.3)), f.4)

after_to : (g : PlainLayout) (a b : ℕ) → IsNumbered g a b → (e : Bool) (y : ℕ) (m : Reach g) (w : List ℕ) → (IsTrue e × HasWord g (y ∷ w)) ⊎ GoesOn g m (y ∷ w) →
    GoesOn g (after g e y m) w
after_to nothing a b n e y m w c = elim c [ inl both ↦ both.1 | inr k ↦ k ]
after_to blank a b n e y m w c = elim c [ inl both ↦ let none : y ∷ w ≡ [] = both.1 in absurd cc | inr k ↦ k ]
after_to (one place x) a b n e y m w c = elim c [
  | inl both ↦
      let is : y ∷ w ≡ x ∷ [] = both.1 in
      let same : x ≡ y = cc in
      let none : w ≡ [] = cc in
      (and_from e (x == y) both.0 (eq-eqb x y same), none)
  | inr k ↦ let none : y ∷ w ≡ [] = k.1 in absurd cc
]
after_to (in_order middle f s g h) a b n e y m w c = elim c [
  | inl both ↦ elim (joined-first (HasWord g) (HasWord h) both.1.0 both.1.1 y w both.1.2 both.1.3 both.1.4) [
    | inl split ↦ inr (after_to h middle b n.3 (ends g m.0 || e && f) y m.1 w
        (inl (or-right (ends g m.0) (e && f) (and_from e f both.0 (n.0 ∙ empty_to g a middle n.2 split.0)), split.1)))
    | inr more ↦ inl (more.0, both.1.1, more.1, after_to g a middle n.2 e y m.0 more.0 (inl (both.0, more.2)), both.1.4)
  ]
  | inr k ↦ elim k [
    | inl x ↦ elim (joined-first (GoesOn g m.0) (HasWord h) x.0 x.1 y w x.2 x.3 x.4) [
      | inl split ↦ inr (after_to h middle b n.3 (ends g m.0 || e && f) y m.1 w
          (inl (or-left (ends g m.0) (e && f) (ends_to g a middle n.2 m.0 split.0), split.1)))
      | inr more ↦ inl (more.0, x.1, more.1, after_to g a middle n.2 e y m.0 more.0 (inr more.2), x.4)
    ]
    | inr rest ↦ inr (after_to h middle b n.3 (ends g m.0 || e && f) y m.1 w (inr rest))
  ]
]
after_to (either middle g h) a b n e y m w c = elim c [
  | inl both ↦ elim both.1 [
    | inl x ↦ inl (after_to g a middle n.0 e y m.0 w (inl (both.0, x)))
    | inr x ↦ inr (after_to h middle b n.1 e y m.1 w (inl (both.0, x)))
  ]
  | inr k ↦ elim k [ inl x ↦ inl (after_to g a middle n.0 e y m.0 w (inr x)) | inr x ↦ inr (after_to h middle b n.1 e y m.1 w (inr x)) ]
]
after_to (optional g) a b n e y m w c = after_to g a b n e y m w (elim c [
  | inl both ↦ inl (both.0, elim both.1 [ inl none ↦ absurd cc | inr is ↦ is ])
  | inr k ↦ inr k
])
after_to (repeated place g) a b n e y m w c = elim c [
  | inl both ↦ elim (joined-first (HasWord g) (Rounds (HasWord g)) both.1.0 both.1.1 y w both.1.2 both.1.3 both.1.4) [
    | inl split ↦ next_round g e y m w (or-left e (ends g m) both.0) split.1 (λ u k. after_to g a place n.0 (e || ends g m) y m u k)
    | inr more ↦ (more.0, both.1.1, more.1, after_to g a place n.0 (e || ends g m) y m more.0 (inl (or-left e (ends g m) both.0, more.2)), both.1.4)
  ]
  | inr k ↦ elim (joined-first (GoesOn g m) (Rounds (HasWord g)) k.0 k.1 y w k.2 k.3 k.4) [
    | inl split ↦ next_round g e y m w (or-right e (ends g m) (ends_to g a place n.0 m split.0)) split.1 (λ u k. after_to g a place n.0 (e || ends g m) y m u k)
    | inr more ↦ (more.0, k.1, more.1, after_to g a place n.0 (e || ends g m) y m more.0 (inr more.2), k.4)
  ]
]

pub after-means : (g : PlainLayout) (a b : ℕ) → IsNumbered g a b → (e : Bool) (y : ℕ) (m : Reach g) (w : List ℕ) →
    GoesOn g (after g e y m) w ↔ ((IsTrue e × HasWord g (y ∷ w)) ⊎ GoesOn g m (y ∷ w))
after-means g a b n e y m w = (after_from g a b n e y m w, after_to g a b n e y m w)
