-- Content particles and their layouts have the same words.
use Rattle.std.proofs.Common.{◌≡◌, ℕ, zero, suc, ◌+◌, ◌≤◌, ◌<◌, Bool, ◌⊎◌, inl, inr, ◌↔◌, List, [], ◌∷◌, ◌++◌, length, take, drop, refl, sym, ap, ◌∙◌, subst, arith, append_assoc, length-drop}
use Rattle.std.proofs.lemmas.List.{length-take-le}
use Rattle.pv_model.specs.Plain.{PlainPart, name, seq, choice, opt, star, plus, PlainParts, no_parts, part}
use Rattle.pv_model.specs.Models.{Rounds, no_round, round, Matches, MatchesAll, MatchesSome}
use Rattle.pv_model.specs.PlainForms.{plain_part, plain_parts}
use Rattle.pv_model.specs.Layouts.{PlainLayout, in_order, either, optional, repeated, HasWord}
use Rattle.pv_model.specs.Layouts.{has_empty_word, places_of}
use Rattle.pv_model.specs.LaidOut.{listed, IsLaidOut}
use Rattle.pv_model.specs.declared.models.Part.{Part}
use Rattle.pv_model.specs.declared.places.Places.{Places}

-- how many parts, what stands in them included
abbrev mutual
  pub weight : PlainPart → ℕ
  weight (name y) = 1
  weight (seq ps) = suc (weights ps)
  weight (choice ps) = suc (weights ps)
  weight (opt p) = suc (weight p)
  weight (star p) = suc (weight p)
  weight (plus p) = suc (weight p)

  pub weights : PlainParts → ℕ
  weights no_parts = 0
  weights (part p ps) = weight p + weights ps

weight-some : (p : PlainPart) → 1 ≤ weight p
weight-some (name y) = omega arith
weight-some (seq ps) = omega arith
weight-some (choice ps) = omega arith
weight-some (opt p) = omega arith
weight-some (star p) = omega arith
weight-some (plus p) = omega arith

pub weights-some : (ps : List Part) → length ps ≤ weights (plain_parts ps)
weights-some [] = omega arith
weights-some (p ∷ ps) = omega (arith, weights-some ps, weight-some (plain_part p))

-- of two runs of parts side by side
pub weights-halves : (k : ℕ) (ps : List Part) → weights (plain_parts ps) ≡ weights (plain_parts (take k ps)) + weights (plain_parts (drop k ps))
weights-halves zero ps = omega arith
weights-halves (suc k) [] = refl
weights-halves (suc k) (p ∷ ps) = omega (arith, weights-halves k ps)

pub first_half-< : (k : ℕ) (ps : List Part) → k < length ps → weights (plain_parts (take k ps)) < weights (plain_parts ps)
first_half-< k ps h = omega (arith, weights-halves k ps, weights-some (drop k ps), length-drop k ps)

pub second_half-< : (k : ℕ) (ps : List Part) → 0 < k → k < length ps → weights (plain_parts (drop k ps)) < weights (plain_parts ps)
second_half-< k ps some h = omega (arith, weights-halves k ps, weights-some (take k ps), length-take-le k ps (omega arith))

all_from : (k : ℕ) (ps : List Part) (w : List ℕ) → MatchesAll (plain_parts ps) w →
    (u : List ℕ) × (v : List ℕ) × (w ≡ u ++ v) × MatchesAll (plain_parts (take k ps)) u × MatchesAll (plain_parts (drop k ps)) v
all_from zero ps w m = ([], w, refl, refl, m)
all_from (suc k) [] w m = ([], w, refl, refl, m)
all_from (suc k) (p ∷ ps) w m =
    let r = all_from k ps m.1 m.4 in
    (m.0 ++ r.0, r.1, m.2 ∙ ap (λ z. m.0 ++ z) r.2 ∙ sym (append_assoc m.0 r.0 r.1), (m.0, r.0, refl, m.3, r.3), r.4)

none_first : (w u v : List ℕ) → w ≡ u ++ v → u ≡ [] → w ≡ v
none_first w u v e n = e ∙ ap (λ z. z ++ v) n

all_to : (k : ℕ) (ps : List Part) (w u v : List ℕ) → w ≡ u ++ v → MatchesAll (plain_parts (take k ps)) u → MatchesAll (plain_parts (drop k ps)) v → MatchesAll (plain_parts ps) w
all_to zero ps w u v e a b = subst (MatchesAll (plain_parts ps)) (sym (none_first w u v e a)) b
all_to (suc k) [] w u v e a b = none_first w u v e a ∙ b
all_to (suc k) (p ∷ ps) w u v e a b =
    (a.0, a.1 ++ v, e ∙ ap (λ z. z ++ v) a.2 ∙ append_assoc a.0 a.1 v, a.3, all_to k ps (a.1 ++ v) a.1 v refl a.4 b)

some_from : (k : ℕ) (ps : List Part) (w : List ℕ) → MatchesSome (plain_parts ps) w → MatchesSome (plain_parts (take k ps)) w ⊎ MatchesSome (plain_parts (drop k ps)) w
some_from zero ps w m = inr m
some_from (suc k) [] w m = absurd m
some_from (suc k) (p ∷ ps) w m = elim m [ inl x ↦ inl (inl x) | inr x ↦ elim (some_from k ps w x) [ inl z ↦ inl (inr z) | inr z ↦ inr z ] ]

some_to : (k : ℕ) (ps : List Part) (w : List ℕ) → MatchesSome (plain_parts (take k ps)) w ⊎ MatchesSome (plain_parts (drop k ps)) w → MatchesSome (plain_parts ps) w
some_to zero ps w m = elim m [ inl x ↦ absurd x | inr x ↦ x ]
some_to (suc k) [] w m = elim m [ inl x ↦ absurd x | inr x ↦ absurd x ]
some_to (suc k) (p ∷ ps) w m = elim m [
  | inl x ↦ elim x [ inl z ↦ inl z | inr z ↦ inr (some_to k ps w (inl z)) ]
  | inr x ↦ inr (some_to k ps w (inr x))
]

-- rounds of the same words
rounds_map : (R S : List ℕ → Type 0) → ((w : List ℕ) → R w → S w) → (w : List ℕ) → Rounds R w → Rounds S w
rounds_map R S f _ no_round = no_round
rounds_map R S f _ (round u v w e a r) = round u v w e (f u a) (rounds_map R S f v r)

rounds_to : (p : PlainPart) (g : PlainLayout) → ((w : List ℕ) → HasWord g w ↔ Matches (plus p) w) → (w : List ℕ) → Rounds (Matches p) w → (w ≡ []) ⊎ HasWord g w
rounds_to p g words _ no_round = inl refl
rounds_to p g words _ (round u v w e a r) = inr ((words w).1 (u, v, e, a, r))

rounds_from : (p : PlainPart) (w : List ℕ) → (w ≡ []) ⊎ Matches (plus p) w → Rounds (Matches p) w
rounds_from p w h = elim h [ inl x ↦ subst (Rounds (Matches p)) (sym x) no_round | inr x ↦ round x.0 x.1 w x.2 x.3 x.4 ]

pub IsLaidOut-star : (p : PlainPart) (g : PlainLayout) (old new : Places) → IsLaidOut (plus p) g old new → IsLaidOut (star p) (optional g) old new
IsLaidOut-star p g old new l = record {
  words = λ w. (λ h. rounds_from p w (elim h [ inl x ↦ inl x | inr x ↦ inr ((l.words w).0 x) ]), λ h. rounds_to p g l.words w h);
  numbers = l.numbers;
  places = l.places;
}

pub IsLaidOut-plus : (p : PlainPart) (g : PlainLayout) (place : ℕ) (old mid new : Places) → IsLaidOut p g old mid → place ≡ mid.count → new.count ≡ mid.count + 1 →
    ((y : ℕ) → listed new y ≡ listed mid y) → IsLaidOut (plus p) (repeated place g) old new
IsLaidOut-plus p g place old mid new l at count others =
    let to : (w : List ℕ) → HasWord g w → Matches p w = λ w h. (l.words w).0 h in
    let from : (w : List ℕ) → Matches p w → HasWord g w = λ w h. (l.words w).1 h in
    record {
      words = λ w. (λ h. (h.0, h.1, h.2, to h.0 h.3, rounds_map (HasWord g) (Matches p) to h.1 h.4), λ h. (h.0, h.1, h.2, from h.0 h.3, rounds_map (Matches p) (HasWord g) from h.1 h.4));
      numbers = (rw at l.numbers, count ∙ rw at);
      places = λ y. others y ∙ l.places y;
    }

module _ (k : ℕ) (ps : List Part) (g h : PlainLayout) (middle : ℕ) (old mid new : Places) (at : middle ≡ mid.count) where
  joined : ((y : ℕ) → listed mid y ≡ listed old y ++ places_of g y) → ((y : ℕ) → listed new y ≡ listed mid y ++ places_of h y) → (y : ℕ) →
      listed new y ≡ listed old y ++ (places_of g y ++ places_of h y)
  joined one two y = two y ∙ ap (λ z. z ++ places_of h y) (one y) ∙ append_assoc (listed old y) (places_of g y) (places_of h y)

  pub IsLaidOut-in_order : (f s : Bool) → f ≡ has_empty_word g → s ≡ has_empty_word h → IsLaidOut (seq (plain_parts (take k ps))) g old mid → IsLaidOut (seq (plain_parts (drop k ps))) h mid new →
      IsLaidOut (seq (plain_parts ps)) (in_order middle f s g h) old new
  IsLaidOut-in_order f s e1 e2 one two = record {
    words = λ w. (
      (λ x. all_to k ps w x.0 x.1 x.2 ((one.words x.0).0 x.3) ((two.words x.1).0 x.4)),
      (λ x. let r = all_from k ps w x in (r.0, r.1, r.2, (one.words r.0).1 r.3, (two.words r.1).1 r.4)),
    );
    numbers = (e1, e2, rw at one.numbers, rw at two.numbers);
    places = joined one.places two.places;
  }

  pub IsLaidOut-either : IsLaidOut (choice (plain_parts (take k ps))) g old mid → IsLaidOut (choice (plain_parts (drop k ps))) h mid new →
      IsLaidOut (choice (plain_parts ps)) (either middle g h) old new
  IsLaidOut-either one two = record {
    words = λ w. (
      (λ x. some_to k ps w (elim x [ inl z ↦ inl ((one.words w).0 z) | inr z ↦ inr ((two.words w).0 z) ])),
      (λ x. elim (some_from k ps w x) [ inl z ↦ inl ((one.words w).1 z) | inr z ↦ inr ((two.words w).1 z) ]),
    );
    numbers = (rw at one.numbers, rw at two.numbers);
    places = joined one.places two.places;
  }
