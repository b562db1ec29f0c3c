use Rattle.std.proofs.lemmas.Bool.{iff_false}
use Rattle.pv_chars.specs.Fronts.{Begins, BeginsNone}
use Rattle.pv_read.specs.PlainReferences.{IsReferenceOf}
use Rattle.pv_chars.proofs.Options.{match_none}
use Rattle.pv_read.proofs.KnownReferences.{none_of_sort, none_of_name}
use Rattle.pv_read.proofs.forms.references.after_reference.Goals as goal

pub returns-in_err-name : goal.returns-in_err-name
returns-in_err-name c =
    let sort = c.args.references in
    let bytes = c.args.bytes.now in
    match_none _ (BeginsNone (IsReferenceOf sort) bytes) (λ r. Begins (IsReferenceOf sort) bytes r.now) c.from_residual.ensures (none_of_sort sort bytes c.in_default.ensures c.in_err-name.ensures)

pub returns-then-not-may_be_named : goal.returns-then-not-may_be_named
returns-then-not-may_be_named c =
    none_of_name c.args.references c.args.bytes.now c.in_ok-name.name.now c.in_ok-name.rest.now c.in_default.ensures c.in_ok-name.ensures (iff_false c.may_be_named.ensures c.if-not-may_be_named.true)
