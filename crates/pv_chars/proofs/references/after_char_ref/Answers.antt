use Rattle.std.specs.Prelude.{codes}
use Rattle.pv_chars.specs.Fronts.{Begins, BeginsNone}
use Rattle.pv_chars.specs.References.{IsCharRefIn, IsCharRef}
use Rattle.pv_chars.proofs.Options.{match_same}
use Rattle.pv_chars.proofs.ReferenceLemmas.{begins_decimal, begins_neither}
use Rattle.pv_chars.proofs.references.after_char_ref.Goals as goal

pub returns-in-None : goal.returns-in-None
returns-in-None c =
    let bytes = c.args.bytes.now in
    match_same _ (BeginsNone (IsCharRefIn 10 (codes "&#")) bytes) (BeginsNone IsCharRef bytes) (λ r. Begins (IsCharRefIn 10 (codes "&#")) bytes r.now) (λ r. Begins IsCharRef bytes r.now)
    (begins_neither bytes c.in-None.ensures) (λ r b. begins_decimal bytes r.now b) c.after_ref_in-in-None.ensures
