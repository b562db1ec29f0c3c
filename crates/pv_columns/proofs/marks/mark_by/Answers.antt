use Rattle.pv_columns.proofs.ClosedMarks.{bare_more, fewer_unmarked}
use Rattle.pv_columns.proofs.marks.mark_by.Goals as goal

pub returns-clause-bare : goal.returns-clause-bare
returns-clause-bare c = λ rules con bare.
    bare_more rules c.args.marks.now c.args.rule.now con (c.is_open.ensures.token c.if-not-is_open.false) (c.is_open.ensures.marked c.if-not-is_open.false) bare

pub returns-clause-fewer : goal.returns-clause-fewer
returns-clause-fewer c = λ _. fewer_unmarked c.args.marks.now c.args.rule.now.left c.requires c.if-marks-rule.false
