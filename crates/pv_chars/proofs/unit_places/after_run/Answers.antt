use Rattle.std.proofs.Common.{◌∙◌, ap, drop}
use Rattle.pv_chars.specs.Units.{units_in}
use Rattle.pv_chars.proofs.UnitPlaceLemmas.{run_passed, run_ends, reference_also}
use Rattle.pv_chars.proofs.unit_places.after_run.Goals as goal

pub returns-then-front-run-clause-passed : goal.returns-then-front-run-clause-passed
returns-then-front-run-clause-passed c =
    let bytes = c.args.bytes.now in
    ap (λ n. drop n (units_in bytes)) c.openings-passed.ensures.value
    ∙ run_passed bytes c.split_at.result.0.now c.before_ampersand-front.result.now
    c.split_at-2.result.1.now c.min.result c.split_at.ensures.front
    c.before_ampersand-front.ensures c.split_at-2.ensures.back

pub after_reference-requires : goal.after_reference-requires
after_reference-requires c =
    run_ends c.args.bytes.now c.split_at.result.0.now c.before_ampersand-front.result.now
    c.split_at-2.result.1.now c.min.result c.split_at.ensures.front
    c.before_ampersand-front.ensures c.if-front-run.false c.split_at-2.ensures.back

pub returns-clause-passed : goal.returns-clause-passed
returns-clause-passed c =
    let bytes = c.args.bytes.now in
    let rest = c.split_at-2.result.1.now in
    let run = run_passed bytes c.split_at.result.0.now c.before_ampersand-front.result.now rest c.min.result c.split_at.ensures.front c.before_ampersand-front.ensures c.split_at-2.ensures.back in
    reference_also bytes rest c.after_reference.result.now c.openings-passed.result (ap (λ n. drop n (units_in bytes)) c.openings-passed.ensures.value ∙ run) c.after_reference.ensures.passed
