use Rattle.std.proofs.Common.{length}
use Rattle.pv_lists.specs.Contents.{ReadsJudgedContent}
use Rattle.pv_lists.specs.Types.{AreTypes}
use Rattle.pv_lists.proofs.content.read_content.Given as goal

abbrev pub invariant-items : goal.invariant-items
invariant-items g l = ReadsJudgedContent l.most_depth (g.J.ListJudge.judgement l.judge) l.root l.tag.name.now l.tag.attrs.now l.bytes l.first l.lists l.rest l.count
    × AreTypes (g.J.ListJudge.judgement l.judge).dtd l.lists.types

abbrev pub decreases-items : goal.decreases-items
decreases-items g l = length l.rest
