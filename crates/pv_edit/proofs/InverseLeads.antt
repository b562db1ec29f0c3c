-- Where an inverse leads.
use Rattle.std.proofs.Common.{◌≡◌, ◌∙◌, ap, refl, Option, Some, None, subst, List, ℕ}
use Rattle.pv_tree.specs.Plain.{Tree, PlainDoc}
use Rattle.pv_tree.specs.Marks.{unmarked_doc}
use Rattle.pv_edit.specs.Changes.{doc_after, root_after}
use Rattle.pv_edit.specs.Effects.{change_of}
use Rattle.pv_edit.specs.Inverses.{LeadsBack, change_back, inverse_of, doc_back}
use Rattle.pv_edit.specs.Reasons.{gives, outcome, reason_of}
use Rattle.pv_edit.specs.declared.reasons.Reason.{Reason}
use Rattle.pv_edit.specs.declared.inverses.Inverse.{Inverse}
use Rattle.pv_edit.proofs.UndoneEdits.{inverse-returns}
use Rattle.pv_edit.proofs.UndoneEdits.{edited as edited_root}

pub given-reason : {M : Type 0} (o : Option Reason) (doc made : PlainDoc M) → outcome o doc ≡ gives made → o ≡ None
given-reason None doc made h = refl
given-reason (Some r) doc made h = absurd cc

pub given-doc : {M : Type 0} (o : Option Reason) (doc made : PlainDoc M) → outcome o doc ≡ gives made → doc ≡ made
given-doc None doc made h = cc
given-doc (Some r) doc made h = absurd cc

pub leads : {M : Type 0} (inverse : Inverse) (edited : PlainDoc M) (before : PlainDoc Unit) → LeadsBack inverse edited before → doc_back tt (unmarked_doc edited) inverse ≡ before
leads inverse edited before l =
    let reason = given-reason (reason_of tt before.root l.edit) _ _ l.is_edited in
    let doc = given-doc (reason_of tt before.root l.edit) _ _ l.is_edited in
    let r = inverse-returns before.root l.edit l.kept.rooted l.kept.formed l.kept.units reason in
    subst (λ (d : PlainDoc Unit). doc_back tt d inverse ≡ before) doc
    (subst (λ (i : Inverse). doc_back tt (doc_after (change_of tt before.root l.edit) before) i ≡ before) l.is_inverse
    (ap (λ (t : Tree Unit). record before { root = t }) (ap (λ (p : List ℕ). root_after p
    (change_back tt (edited_root before.root l.edit) (inverse_of before.root l.edit))
    (edited_root before.root l.edit)) r.same ∙ r.back)))
