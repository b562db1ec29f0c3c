use Rattle.std.proofs.Common.{get_or, take, drop, length, ◌-◌}
use Rattle.pv_chars.proofs.Arms.{cons_of}
use Rattle.pv_chars.proofs.ReferenceLemmas.{digit_read}
use Rattle.pv_chars.proofs.references.digits_at.Goals as goal

pub digits-preserved : goal.digits-preserved
digits-preserved c =
    let rest = c.digits.rest.now in
    digit_read c.args.base c.args.bytes.now rest (take (length rest - 1) (drop 1 rest)) c.digits.value c.in-Some.digit (get_or rest 0 0) c.from.result c.min-value.result
    c.requires.some c.digits.invariant (cons_of rest c.in-len1-up.len_at_least) c.from.ensures c.in-Some.ensures.value.0 c.in-Some.ensures.value.1 c.min-value.ensures
