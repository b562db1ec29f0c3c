use Rattle.std.proofs.Common.{◌≡◌, ℕ, List, codes}
use Rattle.pv_tree.specs.Marks.{blank_mark}
use Rattle.pv_read.specs.Kinds.{Kind, subset, syntax, entity, mismatch, doctype_name, deep}
use Rattle.pv_read.specs.Meaning.{faulty, DocumentMeans}
use Rattle.pv_opening.specs.Documents.{RefusesDocument, no_document, too_many_bytes, document_refusal}
use Rattle.pv_opening.specs.declared.status.Status.TheVariants.{Limit}
use Rattle.pv_opening.specs.Response.{with_line}
use Rattle.pv_opening.specs.Returns.{RefusesWith}
use Rattle.pv_opening.specs.declared.stop.Stop.{Stop}
use Rattle.pv_opening.proofs.Stages.{stops_as}
use Rattle.pv_opening.proofs.opening.refuse_document.Goals as goal

-- a stop with the response to the text's first fault
refused : (root bytes : List ℕ) (kind : Kind) (k : ℕ) (stop : Stop) →
    DocumentMeans blank_mark root bytes (faulty kind k) →
    RefusesWith (λ r. r ≡ document_refusal kind k) stop → RefusesWith (RefusesDocument root bytes) stop
refused root bytes kind k stop means stops = stops_as (λ r. r ≡ document_refusal kind k) (RefusesDocument root bytes) stop (λ r e. no_document kind k means e) stops

pub returns-in-Syntax : goal.returns-in-Syntax
returns-in-Syntax c = λ root bytes means. refused root bytes syntax c.in-Syntax.item _ (rw c.in-Syntax.is at means) c.refuse_item.ensures

pub returns-in-Mismatch : goal.returns-in-Mismatch
returns-in-Mismatch c = λ root bytes means. refused root bytes mismatch c.in-Mismatch.item _ (rw c.in-Mismatch.is at means) c.refuse_item-in-Mismatch.ensures

pub returns-in-Entity : goal.returns-in-Entity
returns-in-Entity c = λ root bytes means. refused root bytes entity c.in-Entity.item _ (rw c.in-Entity.is at means) c.refuse_item-in-Entity.ensures

pub returns-in-Deep : goal.returns-in-Deep
returns-in-Deep c = λ root bytes means. refused root bytes deep c.in-Deep.item _ (rw c.in-Deep.is at means) c.refuse_item-in-Deep.ensures

pub returns-in-Subset : goal.returns-in-Subset
returns-in-Subset c = λ root bytes means.
    let fault = rw c.in-Subset.is at means in
    refused root bytes subset fault.0 _ fault.1 c.refuse.ensures

pub returns-in-DoctypeName : goal.returns-in-DoctypeName
returns-in-DoctypeName c = λ root bytes means.
    let fault = rw c.in-DoctypeName.is at means in
    refused root bytes doctype_name fault.0 _ fault.1 c.refuse-in-DoctypeName.ensures

pub returns-in-Limit : goal.returns-in-Limit
returns-in-Limit c = λ root bytes means.
    stops_as (λ r. r ≡ with_line Limit (codes "limit document-file")) (RefusesDocument root bytes) _ (λ r e. too_many_bytes (rw c.in-Limit.is at means) e) c.refuse-in-Limit.ensures
