use Rattle.std.proofs.Common.{◌≡◌, ◌+◌, ◌≤◌, drop}
use Rattle.pv_cache.specs.ShownKids.{number_shown}
use Rattle.pv_cache.proofs.words.number_shown.Given as goal

-- those so far, and those that are left
abbrev pub invariant-loop-one : goal.invariant-loop-one
invariant-loop-one l = (l.number + number_shown (drop l.one-index l.shown) ≡ number_shown l.shown)
    × (l.number ≤ l.one-index)
