-- What is promised of a change that has been made ready, of an edit and of an inverse.
use Rattle.std.proofs.Common.{◌≡◌, ◌<◌, ◌∙◌, ap, refl, sym, true, false, None, Option, arith, subst}
use Rattle.pv_tree.specs.Legal.{MAX_NODES}
use Rattle.pv_tree.specs.Marks.{blank_mark, unmarked_doc}
use Rattle.pv_tree.specs.Plain.{Tree, PlainDoc, is_element, nodes_in}
use Rattle.pv_tree.specs.PlainDocs.{plain_doc}
use Rattle.pv_tree.specs.PlainForms.{plain}
use Rattle.pv_tree.specs.declared.document.Doc.{Doc}
use Rattle.pv_tree.specs.declared.nodes.Mark.{Mark}
use Rattle.pv_edit.specs.BroughtElements.{BringsBare}
use Rattle.pv_edit.specs.Changes.{Change, doc_after, root_after}
use Rattle.pv_edit.specs.Effects.{change_of}
use Rattle.pv_edit.specs.FittingChanges.{CanChange, plain_change, plain_filling}
use Rattle.pv_edit.specs.Inverses.{IsKept, LeadsBack, change_back, inverse_of}
use Rattle.pv_edit.specs.Preparations.{IsPreparation, IsTask}
use Rattle.pv_edit.specs.Reasons.{edit_outcome, gives, is_top, outcome, reason_of}
use Rattle.pv_edit.specs.declared.edits.Edit.{Edit}
use Rattle.pv_edit.specs.declared.edits.Edit.TheVariants.{Wrap, Insert, Unwrap, Rename, Split, Join, SetText, AddText, DelText}
use Rattle.pv_edit.specs.declared.inverses.Inverse.{Inverse}
use Rattle.pv_edit.specs.declared.inverses.Inverse.TheVariants.{TakeOut, PutBack, Name, Merge, Divide, Text, Discard, Restore}
use Rattle.pv_edit.specs.declared.tasks.Preparation.{Preparation}
use Rattle.pv_edit.specs.declared.tasks.Task.{Task}
use Rattle.pv_edit.specs.declared.reasons.Reason.{Reason}
use Rattle.pv_edit.proofs.DocumentFacts.{edit-can, edit-kept}
use Rattle.pv_edit.proofs.RemarkedReasons.{made-leads}
use Rattle.pv_edit.proofs.RevertedDocuments.{backs, back-doc, back-kept}

-- what a document keeps
pub doc-kept : (doc : Doc) → IsKept (plain doc.root)
doc-kept doc = record {
  rooted = doc.rooted;
  formed = doc.formed;
  shallow = doc.shallow;
  small = doc.small;
  named = doc.named;
  units = doc.units;
  legal = doc.legal;
  no_close_mark = doc.no_close_mark;
}

-- what an edit brings
pub edit-bare : {M : Type 0} (blank : M) (root : Tree M) (edit : Edit) → BringsBare (change_of blank root edit).filling
edit-bare blank root (Wrap path from to name) = tt
edit-bare blank root (Insert path at name) = ((refl, tt), λ h. refl)
edit-bare blank root (Unwrap path) = tt
edit-bare blank root (Rename path name) = tt
edit-bare blank root (Split path at) = ((refl, (refl, tt)), λ h. absurd cc)
edit-bare blank root (Join path) = ((refl, tt), λ h. refl)
edit-bare blank root (SetText path text) = ((refl, tt), λ h. refl)
edit-bare blank root (AddText path at text) = ((refl, tt), λ h. refl)
edit-bare blank root (DelText path) = (tt, λ h. absurd cc)

pub edit-unshort : {M : Type 0} (blank : M) (root : Tree M) (edit : Edit) → (change_of blank root edit).shorten ≡ false
edit-unshort blank root (Wrap path from to name) = refl
edit-unshort blank root (Insert path at name) = refl
edit-unshort blank root (Unwrap path) = refl
edit-unshort blank root (Rename path name) = refl
edit-unshort blank root (Split path at) = refl
edit-unshort blank root (Join path) = refl
edit-unshort blank root (SetText path text) = refl
edit-unshort blank root (AddText path at text) = refl
edit-unshort blank root (DelText path) = refl

-- what an inverse brings
pub back-bare : {M : Type 0} (blank : M) (root : Tree M) (inverse : Inverse) → BringsBare (change_back blank root inverse).filling
back-bare blank root (TakeOut path shorten) = tt
back-bare blank root (PutBack path from to name attrs e) = tt
back-bare blank root (Name path name) = tt
back-bare blank root (Merge path) = ((refl, tt), λ h. refl)
back-bare blank root (Divide path at) = ((refl, (refl, tt)), λ h. absurd cc)
back-bare blank root (Text path units) = ((refl, tt), λ h. refl)
back-bare blank root (Discard path shorten) = (tt, λ h. absurd cc)
back-bare blank root (Restore path units) = ((refl, tt), λ h. refl)

module _ (root : Tree Mark) (edit : Edit) (ready : Preparation) (p : IsPreparation root edit ready) where
  pub prepared-can : is_element root ≡ true → reason_of blank_mark root edit ≡ None → CanChange ready.task.list (plain_change ready.task.list ready.task.change) root
  prepared-can r given = subst (λ (d : Change Mark). CanChange d.list d root) (sym p.change) (edit-can blank_mark blank_mark root edit r given)

  pub prepared-kept : IsKept root → nodes_in root < MAX_NODES → reason_of blank_mark root edit ≡ None → IsKept (root_after ready.task.list (plain_change ready.task.list ready.task.change) root)
  prepared-kept k n given = subst (λ (d : Change Mark). IsKept (root_after d.list d root)) (sym p.change) (edit-kept blank_mark blank_mark root edit k (omega arith) given)

  pub prepared-unshort : is_top ready.task.list ≡ true → ready.task.change.shorten ≡ false
  prepared-unshort h = subst (λ (d : Change Mark). d.shorten ≡ false) (sym p.change) (edit-unshort blank_mark root edit)

  pub prepared-bare : BringsBare (plain_filling ready.task.change.filling)
  prepared-bare = subst (λ (d : Change Mark). BringsBare d.filling) (sym p.change) (edit-bare blank_mark root edit)

-- from each document that differs in marks alone
pub leads-on : (inverse : Inverse) (made now : PlainDoc Mark) (before : PlainDoc Unit) → unmarked_doc now ≡ unmarked_doc made → LeadsBack inverse made before → LeadsBack inverse now before
leads-on inverse made now before h l = record { edit = l.edit; kept = l.kept; is_edited = l.is_edited ∙ ap gives (sym h); is_inverse = l.is_inverse }

-- the inverse of a prepared edit leads back from the document of its change
pub prepared-leads : (doc : Doc) (edit : Edit) (ready : Preparation) → IsPreparation (plain doc.root) edit ready → reason_of blank_mark (plain doc.root) edit ≡ None → (made : PlainDoc Mark)
    → unmarked_doc made ≡ unmarked_doc (doc_after (plain_change ready.task.list ready.task.change) (plain_doc doc)) → LeadsBack ready.inverse made (unmarked_doc (plain_doc doc))
prepared-leads doc edit ready p reason made h =
    let old = plain_doc doc in
    let c = change_of blank_mark (plain doc.root) edit in
    let given : edit_outcome blank_mark old edit ≡ gives (doc_after c old) = ap (λ (r : Option Reason). outcome r (doc_after c old)) reason in
    let same : unmarked_doc made ≡ unmarked_doc (doc_after c old) = h ∙ ap (λ (d : Change Mark). unmarked_doc (doc_after d old)) p.change in
    subst (λ (i : Inverse). LeadsBack i made (unmarked_doc old)) (sym p.inverse)
    (leads-on (inverse_of (plain doc.root) edit) (doc_after c old) made (unmarked_doc old) same (made-leads blank_mark old (doc_after c old) edit (doc-kept doc) given))

module _ (doc : PlainDoc Mark) (inverse : Inverse) (task : Task) (t : IsTask doc.root inverse task) where
  pub task-bare : BringsBare (plain_filling task.change.filling)
  task-bare = subst (λ (d : Change Mark). BringsBare d.filling) (sym t) (back-bare blank_mark doc.root inverse)

  module _ (before : PlainDoc Unit) (l : LeadsBack inverse doc before) where
    pub task-can : CanChange task.list (plain_change task.list task.change) doc.root
    task-can = subst (λ (d : Change Mark). CanChange d.list d doc.root) (sym t) (backs blank_mark inverse doc before l).can

    pub task-kept : IsKept (root_after task.list (plain_change task.list task.change) doc.root)
    task-kept = subst (λ (d : Change Mark). IsKept (root_after d.list d doc.root)) (sym t) (back-kept blank_mark inverse doc before l)

    pub task-unshort : is_top task.list ≡ true → task.change.shorten ≡ false
    task-unshort = subst (λ (d : Change Mark). is_top d.list ≡ true → d.shorten ≡ false) (sym t) (backs blank_mark inverse doc before l).unshort

    pub task-led : (made : PlainDoc Mark) → unmarked_doc made ≡ unmarked_doc (doc_after (plain_change task.list task.change) doc) → unmarked_doc made ≡ before
    task-led made h = h ∙ ap (λ (d : Change Mark). unmarked_doc (doc_after d doc)) t ∙ back-doc blank_mark inverse doc before l
