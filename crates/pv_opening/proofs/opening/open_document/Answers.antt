use Rattle.std.proofs.Common.{refl}
use Rattle.pv_dtd.specs.PlainForms.{plain_dtd}
use Rattle.pv_opening.specs.Documents.{OpensDocument, RefusesDocument}
use Rattle.pv_opening.proofs.Stages.{refusal_stops}
use Rattle.pv_opening.proofs.opening.open_document.Goals as goal

pub returns-in-Ok-clause-returns : goal.returns-in-Ok-clause-returns
returns-in-Ok-clause-returns c =
    let text = rw c.deref.ensures.value at c.in-Ok.ensures.read in
    (record { is_dtd = refl; are_bytes = refl; is_text = text }, refl)

pub returns-in-Ok-clause-means : goal.returns-in-Ok-clause-means
returns-in-Ok-clause-means c = rw c.deref.ensures.value at c.in-Ok.ensures.means

pub returns-in-Err-clause-returns : goal.returns-in-Err-clause-returns
returns-in-Err-clause-returns c =
    let root = c.args.root.now in
    let bytes = c.args.fetched.bytes.items in
    refusal_stops (OpensDocument root (plain_dtd c.args.fetched.dtd) bytes) (RefusesDocument root bytes) c.refuse_document.result
    (c.refuse_document.ensures root bytes (rw c.deref.ensures.value at c.in-Err.ensures.refused))
