use Rattle.std.proofs.Common.{◌∙◌, get_or, sym}
use Rattle.pv_chars.proofs.Arms.{cons_of}
use Rattle.pv_chars.proofs.UnitPlaceLemmas.{reference_begun, semicolon_ends, stays_in, never_ends, others_fit}
use Rattle.pv_chars.proofs.unit_places.after_reference.Goals as goal

pub bytes-preserved : goal.bytes-preserved
bytes-preserved c =
    let rest = c.bytes.rest.now in
    record {
      within = others_fit rest c.args.bytes.now c.bytes.invariant.within;
      left = sym (stays_in rest (get_or rest 0 0) _ (cons_of rest c.in-len1-up.len_at_least) c.if-b-eq59.false) ∙ c.bytes.invariant.left;
    }

pub returns-then-b-eq59-clause-passed : goal.returns-then-b-eq59-clause-passed
returns-then-b-eq59-clause-passed c =
    let rest = c.bytes.rest.now in
    reference_begun c.args.bytes.now c.requires ∙ sym c.bytes.invariant.left ∙ semicolon_ends rest (get_or rest 0 0) _ (cons_of rest c.in-len1-up.len_at_least) c.if-b-eq59.true

pub returns-clause-passed : goal.returns-clause-passed
returns-clause-passed c = reference_begun c.args.bytes.now c.requires ∙ sym c.bytes.invariant.left ∙ never_ends c.bytes.rest.now c.in_default.len_below
