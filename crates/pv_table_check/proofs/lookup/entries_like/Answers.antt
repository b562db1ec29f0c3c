use Rattle.std.proofs.Common.{arith, get_or, length, ◌+◌, ◌-◌, ◌/◌, ◌≡◌}
use Rattle.std.proofs.lemmas.Option.{slice_get-get_or, slice_get_within}
use Rattle.pv_tables.specs.Tables.{Precedes}
use Rattle.pv_table_check.proofs.LikeEntries.{range_ascends, run_all, run_up_to}
use Rattle.pv_table_check.proofs.lookup.entries_like.Goals as goal

pub halves-init : goal.halves-init
halves-init c =
    let es = c.args.entries.now in
    let w = c.count_before-start.ensures.within in
    record {
      run = record { rise = omega arith; within = omega arith; like = λ k e le lt at. absurd (omega arith) };
      rise = omega arith;
      within = omega arith;
      stop = λ e at like. let l = slice_get_within es (length es) e at in absurd (omega arith);
    }

pub halves-preserved-then-is_like_at : goal.halves-preserved-then-is_like_at
halves-preserved-then-is_like_at c =
    let es = c.args.entries.now in
    let m = c.halves.end + c.min-ahead.result in
    let least = c.min-ahead.ensures in
    let w = c.halves.invariant.within in
    let e = get_or es m c.args.probe.now in
    let at = slice_get-get_or es m c.args.probe.now (omega arith) in
    record {
      run = run_up_to c.sites_law.ensures es c.args.anywhere c.args.probe.now e c.count_before-start.result c.halves.end m c.requires.ascend c.requires.least
          c.count_before-start.ensures.behind c.halves.invariant.run (omega arith) at ((c.is_like_at.ensures e at).0 c.if-is_like_at.true);
      rise = omega arith;
      within = omega arith;
      stop = c.halves.invariant.stop;
    }

pub halves-preserved : goal.halves-preserved
halves-preserved c =
    let es = c.args.entries.now in
    let m = c.halves.end + c.min-ahead.result in
    let least = c.min-ahead.ensures in
    let w = c.halves.invariant.within in
    record {
      run = c.halves.invariant.run;
      rise = omega arith;
      within = omega arith;
      stop = λ e at like. let t = (c.is_like_at.ensures e at).1 like in let f = c.if-is_like_at.false in absurd cc;
    }

pub returns-clause-like : goal.returns-clause-like
returns-clause-like c =
    let r = c.halves.invariant.rise in
    let same : c.halves.high ≡ c.halves.end = let f = c.halves-test.false in omega arith in
    run_all c.sites_law.ensures c.args.entries.now c.args.anywhere c.args.probe.now c.count_before-start.result c.halves.end c.requires.ascend c.requires.least
    c.count_before-start.ensures.before c.count_before-start.ensures.behind c.halves.invariant.run
    (λ lt e at. c.halves.invariant.stop e (rw same at))

pub returns-clause-ascend : goal.returns-clause-ascend
returns-clause-ascend c = range_ascends Precedes c.args.entries.now c.requires.ascend c.count_before-start.result c.halves.end c.halves.invariant.run.rise c.halves.invariant.run.within
