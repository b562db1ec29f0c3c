use Rattle.std.proofs.Common.{refl}
use Rattle.std.specs.Prelude.{codes}
use Rattle.std.proofs.lemmas.Bool.{iff_false}
use Rattle.pv_chars.specs.Fronts.{Begins, BeginsNone}
use Rattle.pv_chars.specs.Declarations.{IsVersionNum, IsVersionInfo}
use Rattle.pv_chars.proofs.Options.{match_none}
use Rattle.pv_chars.proofs.PartLemmas.{no_part_of, no_value_of}
use Rattle.pv_chars.proofs.declarations.after_version.Goals as goal

pub returns-in_err-value : goal.returns-in_err-value
returns-in_err-value c =
    let bytes = c.args.bytes.now in
    match_none _ (BeginsNone IsVersionInfo bytes) (λ r. Begins IsVersionInfo bytes r.now) c.from_residual.ensures (no_part_of (codes "version") bytes IsVersionNum c.in_err-value.ensures)

pub returns-then-not-is_version_num : goal.returns-then-not-is_version_num
returns-then-not-is_version_num c =
    no_value_of (codes "version") c.args.bytes.now IsVersionNum (λ none. cc) refl
    c.in_ok-value.value.now c.in_ok-value.rest.now c.in_ok-value.ensures
    (iff_false c.is_version_num.ensures c.if-not-is_version_num.true)
