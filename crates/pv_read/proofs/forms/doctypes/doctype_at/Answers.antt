use Rattle.pv_chars.proofs.Options.{match_none}
use Rattle.pv_read.specs.Items.{BeginsItem}
use Rattle.pv_read.specs.PlainItems.{plain_item, BeginsNoneOf}
use Rattle.pv_read.specs.declared.forms.sorts.Sort.TheVariants as sort
use Rattle.pv_read.proofs.DoctypeLemmas.{doctype_by, no_doctype_front, no_doctype_end}
use Rattle.pv_read.proofs.forms.doctypes.doctype_at.Goals as goal

pub returns-in_err-name : goal.returns-in_err-name
returns-in_err-name c =
    let bytes = c.args.bytes.now in
    match_none _ (BeginsNoneOf sort.Doctype bytes) (λ r. BeginsItem (plain_item r.0) bytes r.1.now) c.from_residual.ensures (no_doctype_front bytes c.in_err-name.ensures)

pub returns-in_err-rest : goal.returns-in_err-rest
returns-in_err-rest c =
    let bytes = c.args.bytes.now in
    match_none _ (BeginsNoneOf sort.Doctype bytes) (λ r. BeginsItem (plain_item r.0) bytes r.1.now) c.from_residual-in_err-rest.ensures
    (no_doctype_end bytes c.in_ok-name.name.now c.in_ok-name.end.now c.in_ok-name.ensures c.in_err-rest.ensures.found)

pub returns : goal.returns
returns c = doctype_by c.args.bytes.now c.in_ok-name.name.now c.in_ok-name.end.now
    c.in_ok-rest.rest.now c.split_at.result.0.now c.in_ok-name.ensures c.in_ok-rest.ensures.found
    c.split_at.ensures.front
