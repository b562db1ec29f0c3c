use Rattle.std.proofs.Common.{arith, inr}
use Rattle.pv_span.specs.DoneSpans.{rows_done}
use Rattle.pv_span.proofs.CutLines.{few_told, no_more, one_more}
use Rattle.pv_span.proofs.lines.extend_line.Goals as goal

pub add_cut-requires-clause-few : goal.add_cut-requires-clause-few
add_cut-requires-clause-few c = let s = c.args.last.now in few_told s.tokens (rows_done s.done.now) s.from s.to c.args.line.now c.requires

pub returns-then-before-lt-NO_SIZE : goal.returns-then-before-lt-NO_SIZE
returns-then-before-lt-NO_SIZE c =
    let s = c.args.last.now in
    one_more s.tokens (rows_done s.done.now) s.from s.to c.args.line.now c.add_cut.new.line c.value-before.result
    c.if-last.false c.add_cut.ensures.one c.add_cut.ensures.two c.add_cut.ensures.long c.value-before.ensures
    c.add_cut.ensures.each c.requires

pub returns-else-before-lt-NO_SIZE : goal.returns-else-before-lt-NO_SIZE
returns-else-before-lt-NO_SIZE c =
    let s = c.args.last.now in
    no_more s.tokens (rows_done s.done.now) s.from s.to c.args.line.now c.requires
    (inr (c.if-last.false, let e = c.value-before.ensures in let f = c.if-before-lt-NO_SIZE.false in omega arith))
