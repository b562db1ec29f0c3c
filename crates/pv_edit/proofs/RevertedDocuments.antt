-- An inverse can be made where it leads back, and makes the document that it leads to.
use Rattle.std.proofs.Common.{true, false, ◌≡◌, ◌∙◌, ap, sym, ℕ, ◌<◌, List, length, subst}
use Rattle.pv_tree.specs.Plain.{Tree, PlainDoc, map_marks, without_marks}
use Rattle.pv_tree.specs.Marks.{unmarked_doc}
use Rattle.pv_edit.specs.Changes.{Change, doc_after, root_after}
use Rattle.pv_edit.specs.Effects.{change_of, next_of}
use Rattle.pv_edit.specs.FittingChanges.{CanChange}
use Rattle.pv_edit.specs.Inverses.{IsKept, LeadsBack, change_back, doc_back}
use Rattle.pv_edit.specs.Preparations.{HasTexts}
use Rattle.pv_edit.specs.Reasons.{is_top, reason_of}
use Rattle.pv_edit.specs.declared.inverses.Inverse.{Inverse}
use Rattle.pv_edit.specs.declared.inverses.Inverse.TheVariants.{TakeOut, PutBack, Name, Merge, Divide, Text, Discard, Restore}
use Rattle.pv_edit.proofs.InverseLeads.{given-reason, given-doc}
use Rattle.pv_edit.proofs.RemarkedChanges.{units-as, text-as, root-as, can-as, back-as}
use Rattle.pv_edit.proofs.RemarkedFacts.{kept-from}
use Rattle.pv_edit.proofs.UndoneEdits.{Returns, edited, inverse-returns}
use Rattle.pv_edit.proofs.DocumentAsElement.{can-change}

-- The inverse can be made on this root, and leads to that one.
pub record Backs {M : Type 0} (blank : M) (root : Tree M) (inverse : Inverse) (before : Tree Unit) : Type 0 where
  pub can : CanChange (change_back blank root inverse).list (change_back blank root inverse) root
  pub same : map_marks (λ _. tt) (root_after (change_back blank root inverse).list (change_back blank root inverse) root) ≡ before
  pub ready : HasTexts root inverse
  pub unshort : is_top (change_back blank root inverse).list ≡ true → (change_back blank root inverse).shorten ≡ false

ready-as : {M N : Type 0} (f : M → N) (root : Tree M) (inverse : Inverse) → HasTexts (map_marks f root) inverse → HasTexts root inverse
ready-as f root (TakeOut path shorten) h = tt
ready-as f root (PutBack path from to name attrs e) h = tt
ready-as f root (Name path name) h = tt
ready-as f root (Merge path) h = (sym (text-as f path root) ∙ h.0, sym (text-as f (next_of path) root) ∙ h.1)
ready-as f root (Divide path at) h = (sym (text-as f path root) ∙ h.0, h.1, subst (λ (us : List (List ℕ)). at < length us) (units-as f path root) h.2)
ready-as f root (Text path units) h = tt
ready-as f root (Discard path shorten) h = tt
ready-as f root (Restore path units) h = tt

-- whatever the marks are
marked-backs : {M : Type 0} (blank : M) (root : Tree M) (inverse : Inverse) (before : Tree Unit)
    → CanChange (change_back tt (without_marks root) inverse).list (change_back tt (without_marks root) inverse) (without_marks root)
    → root_after (change_back tt (without_marks root) inverse).list (change_back tt (without_marks root) inverse) (without_marks root) ≡ before → HasTexts (without_marks root) inverse
    → (is_top (change_back tt (without_marks root) inverse).list ≡ true → (change_back tt (without_marks root) inverse).shorten ≡ false) → Backs blank root inverse before
marked-backs {M = M} blank root inverse before can back ready unshort =
    let f : M → Unit = λ _. tt in
    let d = change_back blank root inverse in
    let e = back-as f blank root inverse in
    record {
      can = can-as f d.list d root (subst (λ (c : Change Unit). CanChange c.list c (without_marks root)) (sym e) can);
      same = sym (root-as f d.list d root) ∙ ap (λ (c : Change Unit). root_after c.list c (without_marks root)) e ∙ back;
      ready = ready-as f root inverse ready;
      unshort = subst (λ (c : Change Unit). is_top c.list ≡ true → c.shorten ≡ false) (sym e) unshort;
    }

edited-returns : {M : Type 0} (inverse : Inverse) (doc : PlainDoc M) (before : PlainDoc Unit) (l : LeadsBack inverse doc before) → Returns before.root l.edit inverse
edited-returns inverse doc before l =
    subst (λ (i : Inverse). Returns before.root l.edit i) l.is_inverse
    (inverse-returns before.root l.edit l.kept.rooted l.kept.formed l.kept.units (given-reason (reason_of tt before.root l.edit) _ _ l.is_edited))

pub doc-edited : {M : Type 0} (inverse : Inverse) (doc : PlainDoc M) (before : PlainDoc Unit) (l : LeadsBack inverse doc before) → doc_after (change_of tt before.root l.edit) before ≡ unmarked_doc doc
doc-edited inverse doc before l = given-doc (reason_of tt before.root l.edit) _ _ l.is_edited

pub backs : {M : Type 0} (blank : M) (inverse : Inverse) (doc : PlainDoc M) (before : PlainDoc Unit) → LeadsBack inverse doc before → Backs blank doc.root inverse before.root
backs blank inverse doc before l =
    let r = edited-returns inverse doc before l in
    let e : edited before.root l.edit ≡ without_marks doc.root = ap (λ (d : PlainDoc Unit). d.root) (doc-edited inverse doc before l) in
    let d = change_back tt (edited before.root l.edit) inverse in
    marked-backs blank doc.root inverse before.root
    (subst (λ (t : Tree Unit). CanChange (change_back tt t inverse).list (change_back tt t inverse)
    t) e (subst (λ (p : List ℕ). CanChange p d (edited before.root l.edit)) (sym r.same)
    (can-change r.path d (edited before.root l.edit) r.ts r.made)))
    (subst (λ (t : Tree Unit). root_after (change_back tt t inverse).list (change_back tt t inverse)
    t ≡ before.root) e (ap (λ (p : List ℕ). root_after p d (edited before.root l.edit)) r.same ∙ r.back))
    (subst (λ (t : Tree Unit). HasTexts t inverse) e r.ready)
    (subst (λ (t : Tree Unit). is_top (change_back tt t inverse).list ≡ true → (change_back tt t inverse).shorten ≡ false) e (λ t. r.made.unshort (ap is_top (sym r.same) ∙ t)))

pub back-kept : {M : Type 0} (blank : M) (inverse : Inverse) (doc : PlainDoc M)
    (before : PlainDoc Unit) → LeadsBack inverse doc before →
    IsKept (root_after (change_back blank doc.root inverse).list (change_back blank doc.root
    inverse) doc.root)
back-kept blank inverse doc before l = kept-from (λ _. tt) _ (subst (λ (t : Tree Unit). IsKept t) (sym (backs blank inverse doc before l).same) l.kept)

pub back-doc : {M : Type 0} (blank : M) (inverse : Inverse) (doc : PlainDoc M) (before : PlainDoc Unit) → LeadsBack inverse doc before → unmarked_doc (doc_back blank doc inverse) ≡ before
back-doc blank inverse doc before l =
    ap (λ (t : Tree Unit). record (unmarked_doc doc) { root = t }) (backs blank inverse doc before
    l).same ∙ sym (ap (λ (d : PlainDoc Unit). record d { root = before.root })
    (doc-edited inverse doc before l))
