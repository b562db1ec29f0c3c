-- What each session keeps.
use Rattle.std.specs.Prelude.{◌≡◌, List, [], ℕ, ◌∷◌}
use Rattle.pv_cache.specs.AcceptedEdits.{IsAccepted, IsHoldable}
use Rattle.pv_dtd.specs.Plain.{PlainDtd}
use Rattle.pv_edit.specs.Inverses.{IsKept, inverse_of, doc_back}
use Rattle.pv_edit.specs.declared.edits.Edit.{Edit}
use Rattle.pv_edit.specs.declared.inverses.Inverse.{Inverse}
use Rattle.pv_session.specs.Sessions.{PlainSession, Replays}
use Rattle.pv_tree.specs.Marks.{unmarked_doc}
use Rattle.pv_tree.specs.Plain.{PlainDoc}

-- The past edits lead from the opened document to the present one, which has the same before its
-- root, and is a document that a session can be on.
pub record IsSession (s : PlainSession) : Type 0 where
  pub replays : Replays s.opened s.past (unmarked_doc s.doc)
  pub holdable : IsHoldable s.dtd s.doc
  pub kept : IsKept s.doc.root
  pub same_before : s.doc.before ≡ s.opened.before

-- an edit is accepted and makes one document of another, and this is its inverse
pub record IsEditMade (g : PlainDtd) (root : List ℕ) (before : PlainDoc Unit) (edit : Edit)
    (way_back : Inverse) (after : PlainDoc Unit) : Type 0 where
  pub kept : IsKept before.root
  pub accepted : IsAccepted tt g root before edit after
  pub is_inverse : inverse_of before.root edit ≡ way_back

-- edits in order lead from one document to another, and these are the ways back
abbrev pub LeadsTo : PlainDtd → List ℕ → PlainDoc Unit → List Edit → List Inverse → PlainDoc Unit →
    Type 0
LeadsTo g root doc [] [] after = after ≡ doc
LeadsTo g root doc [] (way_back ∷ ways_back) after = ⊥
LeadsTo g root doc (edit ∷ edits) [] after = ⊥
LeadsTo g root doc (edit ∷ edits) (way_back ∷ ways_back) after =
    (next : PlainDoc Unit) × IsHoldable g doc × IsEditMade g root doc edit way_back next ×
    LeadsTo g root next edits ways_back after

-- Undone edits, the last of them first, lead on from one document to another: each of them is
-- accepted where it is made again.
abbrev pub LeadsOn : PlainDtd → List ℕ → PlainDoc Unit → List Edit → PlainDoc Unit → Type 0
LeadsOn g root doc [] after = after ≡ doc
LeadsOn g root doc (edit ∷ edits) after =
    (last : PlainDoc Unit) × LeadsOn g root doc edits last × IsAccepted tt g root last edit after

-- the document that ways back lead to, the last of them first
abbrev pub opened_doc : List Inverse → PlainDoc Unit → PlainDoc Unit
opened_doc [] doc = doc
opened_doc (way_back ∷ ways_back) doc = doc_back tt (opened_doc ways_back doc) way_back

-- what a session keeps with its ways back
pub record KeepsWays (s : PlainSession) (ways_back : List Inverse) : Type 0 where
  pub holdable : IsHoldable s.dtd s.doc
  pub kept : IsKept s.doc.root
  pub past : LeadsTo s.dtd s.root s.opened s.past ways_back (unmarked_doc s.doc)
  pub last : PlainDoc Unit
  pub undone : LeadsOn s.dtd s.root (unmarked_doc s.doc) s.undone last
