-- What the tokens before a place of a word have reached in a content particle.
use Rattle.std.specs.Prelude.{◌≡◌, Bool, true, List, ◌++◌, length}
use Rattle.pv_model.specs.Plain.{PlainPart, PlainToken}
use Rattle.pv_model.specs.Positions.{position_count, may_be_empty, unreached_positions, reads}
use Rattle.pv_rematch.specs.declared.states.State.{State}

-- elements alone, of which the names are a word of the particle
abbrev pub is_word : PlainPart → List PlainToken → Bool
is_word p u = reads p true (may_be_empty p) (unreached_positions p) u

-- these tokens have reached this: each continuation that goes on from there makes a word of the
-- particle of them, and no other does
pub record IsAfter (p : PlainPart) (u : List PlainToken) (s : State) : Type 0 where
  pub count : length s.positions.items ≡ position_count p
  pub goes_on : (v : List PlainToken) →
      reads p s.is_start s.is_end s.positions.items v ≡ is_word p (u ++ v)
