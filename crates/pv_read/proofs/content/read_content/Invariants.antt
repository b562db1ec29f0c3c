use Rattle.std.proofs.Common.{length}
use Rattle.pv_read.specs.Contents.{ReadsContent}
use Rattle.pv_read.proofs.content.read_content.Given as goal

abbrev pub invariant-items : goal.invariant-items
invariant-items l = ReadsContent l.most_depth l.root l.tag.name.now l.tag.attrs.now l.bytes l.first l.elements l.rest l.count

abbrev pub decreases-items : goal.decreases-items
decreases-items l = length l.rest
