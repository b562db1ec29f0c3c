-- The sections of a drill while its lines are answered.
use Rattle.std.specs.Prelude.{◌==◌}
use Rattle.std.proofs.Common.{Bool, List, [], ap, arith, false, length, refl, suc, true, zero, ℕ, ◌%◌, ◌++◌, ◌/◌, ◌∙◌, ◌∷◌, ◌≡◌}
use Rattle.std.proofs.lemmas.Bool.{eqb-false, eqb-true}
use Rattle.std.proofs.lemmas.List.{append_assoc, length-append}
use Rattle.pv_tree.specs.Plain.{Tree}
use Rattle.law_drill_tree.proofs.Sections.{open_in-join, trees-join}
use Rattle.law_drill_tree.specs.Sections.{Section, ahead, bare, open_in, section_tree, trees, wrapped}

-- a section whose lines were answered, by whether it is a third one
abbrev pub answered : Bool → ℕ → Section
answered true k = bare k
answered false k = wrapped k

-- the sections up to number k, their lines answered
abbrev pub behind : ℕ → List Section
behind zero = []
behind (suc k) = behind k ++ answered (suc k % 3 == 0) (suc k) ∷ []

pub length_behind : (k : ℕ) → length (behind k) ≡ k
length_behind zero = refl
length_behind (suc k) = omega (arith, length-append (behind k) (answered (suc k % 3 == 0) (suc k) ∷ []), length_behind k)

open_next : (k : ℕ) (third : Bool) → (suc k % 3 == 0) ≡ third → open_in (behind k) ≡ k / 3 → open_in (behind k ++ answered third (suc k) ∷ []) ≡ suc k / 3
open_next k true e h = let m = eqb-true (suc k % 3) 0 e in omega (arith, open_in-join (behind k) (bare (suc k) ∷ []), h, m)
open_next k false e h = let m = eqb-false (suc k % 3) 0 e in omega (arith, open_in-join (behind k) (wrapped (suc k) ∷ []), h, m)

pub open_behind : (k : ℕ) → open_in (behind k) ≡ k / 3
open_behind zero = refl
open_behind (suc k) = open_next k (suc k % 3 == 0) refl (open_behind k)

-- the sections while the lines of the first j are answered and m more are ahead
abbrev pub state : ℕ → ℕ → List (Tree Unit)
state j m = trees (behind j) ++ trees (ahead j m)

pub length_ahead : (k m : ℕ) → length (ahead k m) ≡ m
length_ahead k zero = refl
length_ahead k (suc m) = omega (arith, length_ahead (suc k) m)

-- the next state
pub state_next : (j m : ℕ) (third : Bool) → (suc j % 3 == 0) ≡ third → state (suc j) m ≡ trees (behind j) ++ section_tree (answered third (suc j)) ∷ trees (ahead (suc j) m)
state_next j m third e =
    let x : Section = answered third (suc j) in
    ap (λ b. trees (behind j ++ answered b (suc j) ∷ []) ++ trees (ahead (suc j) m)) e
    ∙ ap (λ l. l ++ trees (ahead (suc j) m)) (trees-join (behind j) (x ∷ []))
    ∙ append_assoc (trees (behind j)) (section_tree x ∷ []) (trees (ahead (suc j) m))
