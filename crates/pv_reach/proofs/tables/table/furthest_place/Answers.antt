use Rattle.std.proofs.Common.{◌++◌, ◌-◌, arith}
use Rattle.pv_reach.proofs.ClosedCells.{past_reaches, past_beyond}
use Rattle.pv_reach.proofs.tables.table.furthest_place.Goals as goal

pub returns-in-0-clause-none : goal.returns-in-0-clause-none
returns-in-0-clause-none c = λ _ j d.
    let t = c.requires.table in
    let h = past_beyond (c.args.front.now ++ c.args.rules.now) c.args.word.now c.args.width
    c.args.table.now t.sized c.requires.missing 0 t.complete c.args.columns.now
    c.requires.in_range c.args.start j (omega arith) c.requires.start d in
    omega (arith, c.past_columns.ensures, c.in-0.is)

pub returns-in_default-clause-some : goal.returns-in_default-clause-some
returns-in_default-clause-some c =
    let t = c.requires.table in
    past_reaches (c.args.front.now ++ c.args.rules.now) c.args.word.now c.args.width
    c.args.table.now t.sized t.attained c.args.columns.now c.requires.in_range c.args.start
    (c.past_columns.result - 1) c.requires.start
    (let e = c.past_columns.ensures in omega arith)

pub returns-in_default-clause-most : goal.returns-in_default-clause-most
returns-in_default-clause-most c = λ k d.
    let t = c.requires.table in
    let h = past_beyond (c.args.front.now ++ c.args.rules.now) c.args.word.now c.args.width
    c.args.table.now t.sized c.requires.missing 0 t.complete c.args.columns.now
    c.requires.in_range c.args.start k (omega arith) c.requires.start d in
    let e = c.past_columns.ensures in omega arith
