-- Edits one after the other, and the ways back.
use Rattle.std.proofs.Common.{List, None, Option, Some, [], ap, refl, subst, sym, ◌++◌, ◌∙◌, ◌∷◌, ◌≡◌, ℕ}
use Rattle.pv_dtd.specs.Plain.{PlainDtd}
use Rattle.pv_edit.specs.Inverses.{LeadsBack}
use Rattle.pv_edit.specs.Changes.{doc_after}
use Rattle.pv_edit.specs.Effects.{change_of}
use Rattle.pv_edit.specs.Reasons.{edit_outcome, gives, outcome, reason_of}
use Rattle.pv_edit.specs.declared.edits.Edit.{Edit}
use Rattle.pv_edit.specs.declared.inverses.Inverse.{Inverse}
use Rattle.pv_edit.specs.declared.reasons.Reason.{Reason}
use Rattle.pv_cache.specs.AcceptedEdits.{IsAccepted, IsHoldable}
use Rattle.pv_session.specs.SessionFacts.{IsEditMade, LeadsOn, LeadsTo}
use Rattle.pv_session.specs.Sessions.{Replays}
use Rattle.pv_tree.specs.Marks.{unmarked_doc}
use Rattle.pv_tree.specs.Plain.{PlainDoc}

-- ---- replays
pub one_replay : (doc after other : PlainDoc Unit) (edits : List Edit) → Replays doc edits after → Replays doc edits other → after ≡ other
one_replay doc after other [] a b = a ∙ sym b
one_replay doc after other (edit ∷ edits) (next, e, a) (last, f, b) =
    let same : gives next ≡ gives last = sym e ∙ f in
    let n : next ≡ last = cc in
    one_replay last after other edits (subst (λ (d : PlainDoc Unit). Replays d edits after) n a) b

pub replays_more : (doc last after : PlainDoc Unit) (edits : List Edit) (edit : Edit) → Replays doc edits last → edit_outcome tt last edit ≡ gives after → Replays doc (edits ++ edit ∷ []) after
replays_more doc last after [] edit r a = (after, subst (λ (d : PlainDoc Unit). edit_outcome tt d edit ≡ gives after) r a, refl)
replays_more doc last after (e ∷ edits) edit (next, f, r) a = (next, f, replays_more next last after edits edit r a)

-- edits leave what stands before the root
given_before : (o : Option Reason) (doc next : PlainDoc Unit) → outcome o doc ≡ gives next → doc.before ≡ next.before
given_before None doc next e = let same : doc ≡ next = cc in ap (λ (d : PlainDoc Unit). d.before) same
given_before (Some reason) doc next e = cc

pub same_before : (doc after : PlainDoc Unit) (edits : List Edit) → Replays doc edits after → doc.before ≡ after.before
same_before doc after [] r = ap (λ (d : PlainDoc Unit). d.before) (sym r)
same_before doc after (edit ∷ edits) (next, e, r) =
    given_before (reason_of tt doc.root edit) (doc_after (change_of tt doc.root edit) doc) next e ∙ same_before next after edits r

module _ (g : PlainDtd) (root : List ℕ) where
  pub replays : (doc after : PlainDoc Unit) (edits : List Edit) (ways : List Inverse) → LeadsTo g root doc edits ways after → Replays doc edits after
  replays doc after [] [] l = l
  replays doc after [] (way ∷ ways) l = absurd l
  replays doc after (edit ∷ edits) [] l = absurd l
  replays doc after (edit ∷ edits) (way ∷ ways) (next, holdable, made, l) = (next, made.accepted.is_edited, replays next after edits ways l)

  -- ---- the past
  -- one more edit
  pub leads_more : (doc last after : PlainDoc Unit) (edits : List Edit) (ways : List Inverse)
      (edit : Edit) (way : Inverse) → LeadsTo g root doc edits ways last → IsHoldable g last →
      IsEditMade g root last edit way after →
      LeadsTo g root doc (edits ++ edit ∷ []) (ways ++ way ∷ []) after
  leads_more doc last after [] [] edit way l holdable made =
      (after, subst (IsHoldable g) l holdable, subst (λ (d : PlainDoc Unit). IsEditMade g root d edit way after) l made, refl)
  leads_more doc last after [] (w ∷ ways) edit way l holdable made = absurd l
  leads_more doc last after (e ∷ edits) [] edit way l holdable made = absurd l
  leads_more doc last after (e ∷ edits) (w ∷ ways) edit way (next, g1, m, l) holdable made = (next, g1, m, leads_more next last after edits ways edit way l holdable made)

  -- the last edit and its way back
  pub record IsLast (doc : PlainDoc Unit) (edits : List Edit) (ways : List Inverse) (edit : Edit) (way : Inverse) (after : PlainDoc Unit) : Type 0 where
    pub before : PlainDoc Unit
    pub led : LeadsTo g root doc edits ways before
    pub holdable : IsHoldable g before
    pub made : IsEditMade g root before edit way after

  pub last_edit : (doc after : PlainDoc Unit) (edits : List Edit) (ways : List Inverse)
      (edit : Edit) (way : Inverse) → LeadsTo g root doc (edits ++ edit ∷ []) (ways
      ++ way ∷ []) after → IsLast doc edits ways edit way after
  last_edit doc after [] [] edit way (next, holdable, made, l) = record { before = doc; led = refl; holdable = holdable; made = subst (IsEditMade g root doc edit way) (sym l) made }
  last_edit doc after [] (w ∷ []) edit way (next, holdable, made, l) = absurd l
  last_edit doc after [] (w ∷ v ∷ ways) edit way (next, holdable, made, l) = absurd l
  last_edit doc after (e ∷ []) [] edit way (next, holdable, made, l) = absurd l
  last_edit doc after (e ∷ f ∷ edits) [] edit way (next, holdable, made, l) = absurd l
  last_edit doc after (e ∷ edits) (w ∷ ways) edit way (next, holdable, made, l) =
      let rest = last_edit next after edits ways edit way l in
      record { before = rest.before; led = (next, holdable, made, rest.led); holdable = rest.holdable; made = rest.made }

  -- there are as many ways back as edits
  pub both_empty : (doc after : PlainDoc Unit) (edits : List Edit) (ways : List Inverse) → LeadsTo g root doc edits ways after → ways ≡ [] → edits ≡ []
  both_empty doc after [] ways l e = refl
  both_empty doc after (edit ∷ edits) [] l e = absurd l
  both_empty doc after (edit ∷ edits) (way ∷ ways) l e = absurd cc

  pub empty_both : (doc after : PlainDoc Unit) (edits : List Edit) (ways : List Inverse) → LeadsTo g root doc edits ways after → edits ≡ [] → ways ≡ []
  empty_both doc after edits [] l e = refl
  empty_both doc after [] (way ∷ ways) l e = absurd l
  empty_both doc after (edit ∷ edits) (way ∷ ways) l e = absurd cc

  -- the way back leads back from a document whatever its marks are
  abbrev pub goes_back : {M : Type 0} (before : PlainDoc Unit) (edit : Edit) (way : Inverse)
      (edited : PlainDoc M) → IsEditMade g root before edit way (unmarked_doc edited) →
      LeadsBack way edited before
  goes_back before edit way edited made = record { edit = edit; kept = made.kept; is_edited = made.accepted.is_edited; is_inverse = made.is_inverse }

  -- ---- undone edits
  pub leads_on_more : (doc next after : PlainDoc Unit) (edits : List Edit) (edit : Edit) →
      LeadsOn g root next edits after → IsAccepted tt g root doc edit next →
      LeadsOn g root doc (edits ++ edit ∷ []) after
  leads_on_more doc next after [] edit l a = (doc, refl, subst (IsAccepted tt g root doc edit) (sym l) a)
  leads_on_more doc next after (e ∷ edits) edit (last, l, b) a = (last, leads_on_more doc next last edits edit l a, b)

  pub record IsNext (doc : PlainDoc Unit) (edits : List Edit) (edit : Edit) (after : PlainDoc Unit) : Type 0 where
    pub next : PlainDoc Unit
    pub accepted : IsAccepted tt g root doc edit next
    pub leads : LeadsOn g root next edits after

  pub next_undone : (doc after : PlainDoc Unit) (edits : List Edit) (edit : Edit) → LeadsOn g root doc (edits ++ edit ∷ []) after → IsNext doc edits edit after
  next_undone doc after [] edit (last, l, a) = record { next = after; accepted = subst (λ (d : PlainDoc Unit). IsAccepted tt g root d edit after) l a; leads = refl }
  next_undone doc after (e ∷ edits) edit (last, l, a) =
      let rest = next_undone doc last edits edit l in
      record { next = rest.next; accepted = rest.accepted; leads = (last, rest.leads, a) }
