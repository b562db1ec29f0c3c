use Rattle.std.proofs.Common.{arith}
use Rattle.pv_bounds.specs.Fronts.{front_list}
use Rattle.pv_bounds.proofs.SharedEnds.{front_length, fronts_more, none_more}
use Rattle.pv_bounds.proofs.covers.apart_after.Goals as goal

pub returns-then-ones-others-clause-rest : goal.returns-then-ones-others-clause-rest
returns-then-ones-others-clause-rest c =
    none_more (front_list c.args.ones.now) (front_list c.args.others.now) c.args.extra c.len.result
    c.len.ensures

pub returns-then-from-one-clause-rest : goal.returns-then-from-one-clause-rest
returns-then-from-one-clause-rest c =
    none_more (front_list c.args.ones.now) (front_list c.args.others.now) c.args.extra
    c.len-then-from-one.result
    c.len-then-from-one.ensures

pub returns-clause-within : goal.returns-clause-within
returns-clause-within c =
    let others = c.args.others.now in
    let l = front_length others others.within in
    let p = c.if-from-others.false in omega arith

pub returns-clause-rest : goal.returns-clause-rest
returns-clause-rest c = λ j.
    let ones = c.args.ones.now in
    let others = c.args.others.now in
    let from = c.shared_from-from in
    let p = c.if-from-one.false in
    let a = c.from.ensures in
    let b = c.from-2.ensures in
    let d = c.from-3.ensures in
    let e = c.from-4.ensures in
    let f = c.from-5.ensures in
    fronts_more ones others from.result c.args.extra c.requires c.if-ones-others.false
    from.ensures.ones
    from.ensures.others (omega arith) j
