-- How much work goals may still be, as pieces of a list are built.
use Rattle.std.specs.Prelude.{List, [], suc, zero, ℕ, ◌*◌, ◌+◌, ◌∷◌}
use Rattle.pv_long.specs.declared.making.building.Goal.{Goal}

-- The most work of a goal of a rank: it is built of two goals at most, of lower ranks.
abbrev pub work_of : ℕ → ℕ
work_of zero = 1
work_of (suc rank) = 3 * work_of rank

abbrev pub work_in : List Goal → ℕ
work_in [] = 0
work_in (goal ∷ goals) = work_of goal.rank + work_in goals
