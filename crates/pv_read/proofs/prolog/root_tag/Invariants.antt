use Rattle.std.proofs.Common.{length}
use Rattle.pv_read.specs.PlainPlaces.{plain_stage}
use Rattle.pv_read.specs.Prologs.{ReadsProlog}
use Rattle.pv_read.proofs.prolog.root_tag.Given as goal

abbrev pub invariant-items : goal.invariant-items
invariant-items l = ReadsProlog l.most_depth l.root l.text (plain_stage l.stage) l.rest l.count

abbrev pub decreases-items : goal.decreases-items
decreases-items l = length l.rest
