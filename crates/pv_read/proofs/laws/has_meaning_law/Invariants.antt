use Rattle.std.proofs.Common.{length}
use Rattle.pv_read.specs.DocumentLaws.{HasOneMeaning}
use Rattle.pv_read.specs.Limits.{TextLimits}
use Rattle.pv_read.specs.Steps.{MeansSomething}
use Rattle.pv_read.proofs.laws.has_meaning_law.Given as goal

abbrev pub invariant-items : goal.invariant-items
invariant-items l = MeansSomething l.root l.rest → (limits : TextLimits) → HasOneMeaning limits l.root l.bytes

abbrev pub decreases-items : goal.decreases-items
decreases-items l = length l.rest
