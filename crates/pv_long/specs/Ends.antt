-- How far the fronts at a place may still go.
use Rattle.std.specs.Prelude.{List, [], ℕ, ◌+◌, ◌-◌, ◌^◌, ◌∷◌}
use Rattle.pv_long.specs.declared.making.ends.Ends.{Ends}

-- over how many places fronts with these ends may still go, since places are below 2 ^ 32
abbrev pub room_past : List ℕ → ℕ
room_past [] = 0
room_past (end ∷ ends) = (2 ^ 32 - end) + room_past ends

abbrev pub room_left : Ends → ℕ
room_left ends = room_past ends.ends.items
