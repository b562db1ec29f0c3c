use Rattle.std.proofs.Common.{refl}
use Rattle.std.specs.Prelude.{codes}
use Rattle.std.proofs.lemmas.Bool.{iff_false}
use Rattle.pv_chars.specs.Fronts.{Begins, BeginsNone}
use Rattle.pv_chars.specs.Declarations.{IsEncName, IsEncodingDecl}
use Rattle.pv_chars.proofs.Options.{match_none}
use Rattle.pv_chars.proofs.PartLemmas.{no_part_of, no_value_of}
use Rattle.pv_chars.proofs.declarations.after_encoding.Goals as goal

pub returns-in_err-value : goal.returns-in_err-value
returns-in_err-value c =
    let bytes = c.args.bytes.now in
    match_none _ (BeginsNone IsEncodingDecl bytes) (λ r. Begins IsEncodingDecl bytes r.now) c.from_residual.ensures (no_part_of (codes "encoding") bytes IsEncName c.in_err-value.ensures)

pub returns-then-not-is_enc_name : goal.returns-then-not-is_enc_name
returns-then-not-is_enc_name c =
    no_value_of (codes "encoding") c.args.bytes.now IsEncName (λ none. cc) refl
    c.in_ok-value.value.now c.in_ok-value.rest.now c.in_ok-value.ensures
    (iff_false c.is_enc_name.ensures c.if-not-is_enc_name.true)
