-- What a session is at.
use Rattle.std.specs.Prelude.{◌≡◌, List, [], min, suc, ℕ, ◌∷◌}
use Rattle.pv_cache.specs.Stamps.{StampedDoc, doc_as}
use Rattle.pv_dtd.specs.Plain.{PlainDtd}
use Rattle.pv_edit.specs.Reasons.{edit_outcome, gives}
use Rattle.pv_edit.specs.declared.edits.Edit.{Edit}
use Rattle.pv_tree.specs.Plain.{PlainDoc}

-- A session on a document, for a DTD and a root's name: the document that was opened, the edits
-- that were made on it, the edits that were undone, the number of moves so far (edits, undos and
-- redos that were made), and the document as it is now, each list marked with its stamp: the number
-- of the move that changed it last. Of both lists of edits the last is the one that was made, or
-- undone, last.
pub record PlainSession : Type 0 where
  pub dtd : PlainDtd
  pub root : List ℕ
  pub opened : PlainDoc Unit
  pub past : List Edit
  pub undone : List Edit
  pub moves : ℕ
  pub doc : PlainDoc ℕ

-- the document of a session, with the stamps
abbrev pub stamped_document : PlainSession → StampedDoc
stamped_document s = record { dtd = s.dtd; root = s.root; doc = s.doc }

-- these edits, made one after the other, lead from one document to another
abbrev pub Replays : PlainDoc Unit → List Edit → PlainDoc Unit → Type 0
Replays doc [] after = after ≡ doc
Replays doc (edit ∷ edits) after =
    (next : PlainDoc Unit) × (edit_outcome tt doc edit ≡ gives next) × Replays next edits after

-- the number of the next move; the greatest number that can be told stays
abbrev pub next_move : ℕ → ℕ
next_move moves = min (suc moves) 18446744073709551615

-- the session on a document as it was opened; no list has been changed
abbrev pub session_on : PlainDtd → List ℕ → PlainDoc Unit → PlainSession
session_on g root doc = record {
  dtd = g;
  root = root;
  opened = doc;
  past = [];
  undone = [];
  moves = 0;
  doc = doc_as (λ _. 0) doc;
}
