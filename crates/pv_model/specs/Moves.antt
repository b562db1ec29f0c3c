-- What one more name of a word does in a particle, by what the program finds.
use Rattle.std.specs.Prelude.{◌≡◌, ℕ, ◌+◌, Bool, List, drop}
use Rattle.pv_model.specs.Plain.{PlainPart}
use Rattle.pv_model.specs.Positions.{position_count, may_be_empty, is_end, is_end_after}
use Rattle.pv_model.specs.Positions.{positions_after, any_reached, overwrite}
use Rattle.pv_model.specs.declared.positions.Moved.{Moved}

-- the particle's positions begin at a place, and a word of it may begin with y if it is entered
pub record Moves (p : PlainPart) (entered : Bool) (y at : ℕ) (old new : List Bool)
    (found : Moved) : Type 0 where
  pub next : found.next ≡ at + position_count p
  pub was_end : found.was_end ≡ is_end p (drop at old)
  pub is_end : found.is_end ≡ is_end_after p entered y (drop at old)
  pub is_reached : found.is_reached ≡ any_reached (positions_after p entered y (drop at old))
  pub may_be_empty : found.may_be_empty ≡ may_be_empty p
  pub positions : new ≡ overwrite at (positions_after p entered y (drop at old)) old
