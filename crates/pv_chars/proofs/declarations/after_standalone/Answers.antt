use Rattle.std.proofs.Common.{refl}
use Rattle.std.specs.Prelude.{codes}
use Rattle.std.proofs.lemmas.Bool.{iff_false}
use Rattle.pv_chars.specs.Fronts.{Begins, BeginsNone}
use Rattle.pv_chars.specs.Declarations.{IsYesOrNo, IsStandaloneDecl}
use Rattle.pv_chars.proofs.Options.{match_none}
use Rattle.pv_chars.proofs.PartLemmas.{no_part_of, no_value_of}
use Rattle.pv_chars.proofs.declarations.after_standalone.Goals as goal

pub returns-in_err-value : goal.returns-in_err-value
returns-in_err-value c =
    let bytes = c.args.bytes.now in
    match_none _ (BeginsNone IsStandaloneDecl bytes) (λ r. Begins IsStandaloneDecl bytes r.now) c.from_residual.ensures (no_part_of (codes "standalone") bytes IsYesOrNo c.in_err-value.ensures)

pub returns-then-not-is_yes_or_no : goal.returns-then-not-is_yes_or_no
returns-then-not-is_yes_or_no c =
    no_value_of (codes "standalone") c.args.bytes.now IsYesOrNo (λ none. cc) refl
    c.in_ok-value.value.now c.in_ok-value.rest.now c.in_ok-value.ensures
    (iff_false c.is_yes_or_no.ensures c.if-not-is_yes_or_no.true)
