use Rattle.std.proofs.Common.{arith, get_or, ◌+◌, ◌-◌, ◌/◌}
use Rattle.std.proofs.lemmas.Option.{slice_get-get_or, slice_get_within}
use Rattle.pv_table_check.proofs.EntryOrder.{step_down, step_up}
use Rattle.pv_table_check.proofs.lookup.count_before.Goals as goal

pub halves-init : goal.halves-init
halves-init c = record {
  rise = omega arith;
  within = omega arith;
  before = λ k e lt f. absurd
      (omega arith);
  behind = λ k e le f b. let l = slice_get_within c.args.entries.now k e f in
      absurd (omega arith);
}

pub halves-preserved-then-is_before : goal.halves-preserved-then-is_before
halves-preserved-then-is_before c =
    let es = c.args.entries.now in
    let m = c.halves.low + (c.halves.high - c.halves.low) / 2 in
    let w = c.halves.invariant.within in
    let e = get_or es m c.args.probe.now in
    let at = slice_get-get_or es m c.args.probe.now (omega arith) in
    step_up es c.requires c.args.probe.now c.halves.low c.halves.high m e c.halves.invariant (omega arith) (omega arith) at ((c.is_before.ensures e at).0 c.if-is_before.true)

pub halves-preserved : goal.halves-preserved
halves-preserved c =
    let es = c.args.entries.now in
    let m = c.halves.low + (c.halves.high - c.halves.low) / 2 in
    let w = c.halves.invariant.within in
    let e = get_or es m c.args.probe.now in
    let at = slice_get-get_or es m c.args.probe.now (omega arith) in
    step_down es c.requires c.args.probe.now c.halves.low c.halves.high m e c.halves.invariant
    (omega arith) (omega arith) at
    (λ b. let t = (c.is_before.ensures e at).1 b in let f = c.if-is_before.false in absurd cc)
