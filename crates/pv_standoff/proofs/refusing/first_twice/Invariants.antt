use Rattle.std.proofs.Common.{◌≤◌, take}
use Rattle.pv_standoff.specs.Ranges.{NoneTwice}
use Rattle.pv_standoff.specs.PlainForms.{seen}
use Rattle.pv_standoff.proofs.refusing.first_twice.Given as goal

abbrev pub invariant-loop-i : goal.invariant-loop-i
invariant-loop-i l = NoneTwice (take l.i (seen l.sorted)) × (1 ≤ l.i)
