-- How much work goals may be.
use Rattle.std.proofs.Common.{List, [], arith, refl, suc, zero, ℕ, ◌*◌, ◌++◌, ◌+◌, ◌<◌, ◌∷◌, ◌≡◌}
use Rattle.std.proofs.Common.{◌≤◌}
use Rattle.pv_long.specs.Goals.{work_in, work_of}
use Rattle.pv_long.specs.declared.making.building.Goal.{Goal}

first_work : work_of zero ≡ 1
first_work = refl

next_work : (rank : ℕ) → work_of (suc rank) ≡ 3 * work_of rank
next_work rank = refl

pub some_work : (rank : ℕ) → 0 < work_of rank
some_work zero = omega (arith, first_work)
some_work (suc rank) = let r = some_work rank in omega (arith, next_work rank, r)

-- a goal of a lower rank is at most a third of the work
pub lower_work : (low high : ℕ) → low < high → 3 * work_of low ≤ work_of high
lower_work low zero l = absurd (omega arith)
lower_work zero (suc high) l =
    let s = some_work high in omega (arith, first_work, next_work high, s)
lower_work (suc low) (suc high) l =
    let r = lower_work low high (omega arith) in omega (arith, next_work low, next_work high, r)

-- one more goal
pub more_work : (goals : List Goal) (goal : Goal) →
    work_in (goals ++ goal ∷ []) ≡ work_in goals + work_of goal.rank
more_work [] goal = omega arith
more_work (g ∷ goals) goal = let r = more_work goals goal in omega arith
