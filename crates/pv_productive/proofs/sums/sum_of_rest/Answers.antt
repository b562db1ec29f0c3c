use Rattle.std.proofs.Common.{arith, sym}
use Rattle.pv_dtd.specs.PlainForms.{plain_dtd}
use Rattle.pv_rules.proofs.FlatKinds.{followed_at, last_at, no_rest, outside_at}
use Rattle.pv_productive.specs.PlainForms.{table_of}
use Rattle.pv_productive.proofs.LeastSums.{last_sum, no_rest_sum, then_sum}
use Rattle.pv_productive.proofs.sums.sum_of_rest.Goals as goal

pub returns-in_default : goal.returns-in_default
returns-in_default c =
    no_rest_sum (plain_dtd c.args.layout.now.dtd) (table_of c.args.sizes.now) c.args.number _
    (no_rest (plain_dtd c.args.layout.now.dtd) c.args.number (sym c.in_default.ensures))
    (let e = c.from.ensures in omega arith)

pub returns-in-Outside : goal.returns-in-Outside
returns-in-Outside c =
    no_rest_sum (plain_dtd c.args.layout.now.dtd) (table_of c.args.sizes.now) c.args.number _
    (outside_at (plain_dtd c.args.layout.now.dtd) c.args.number c.in-Some.part (sym c.in-Some.ensures) c.in-Outside.is)
    (let e = c.from-in-Outside.ensures in omega arith)

pub returns-in-Last : goal.returns-in-Last
returns-in-Last c =
    let a = last_at (plain_dtd c.args.layout.now.dtd) c.args.number c.in-Some.part (sym c.in-Some.ensures) c.in-Last.is in
    last_sum (plain_dtd c.args.layout.now.dtd) (table_of c.args.sizes.now) c.args.number _ a.0 a.1 (let e = c.from-own.ensures in let f = c.of_part.ensures in omega arith)

pub returns-in-Followed : goal.returns-in-Followed
returns-in-Followed c =
    let a = followed_at (plain_dtd c.args.layout.now.dtd) c.args.number c.in-Some.part (sym c.in-Some.ensures) c.in-Followed.is in
    let z = a.4 in let h = c.of_rest.ensures in
    then_sum (plain_dtd c.args.layout.now.dtd) (table_of c.args.sizes.now) c.args.number _ a.0 a.1 a.2 a.3
    (let e = c.from-own.ensures in let f = c.of_part.ensures in let i = c.from-in-Followed.ensures in let k = rw z at h in omega arith)
