-- The text of a document with tags of new elements in it: by the pieces of its lists, whatever
-- these are.
use Rattle.std.specs.Prelude.{List, [], codes, false, ℕ, ◌+◌, ◌++◌, ◌∷◌, ◌≡◌}
use Rattle.pv_dtd.specs.Plain.{PlainDtd, spelling_of}
use Rattle.pv_tree.specs.Plain.{Ending, Forest, PlainDoc, Tree, element, is_element, no_trees}
use Rattle.pv_tree.specs.Plain.{short, tagged, tree}
use Rattle.pv_tree.specs.declared.nodes.Mark.{Mark}
use Rattle.pv_write.specs.Events.{Event, events_text, marks_from, new_end, new_start, old_bytes}
use Rattle.pv_write.specs.Events.{old_start, opens}
use Rattle.pv_write.specs.Pieces.{AwaitsNode, PlainPiece, TakesNext, after_node, finish, is_token}
use Rattle.pv_write.specs.Pieces.{others_of, start}
use Rattle.pv_write.specs.Text.{tree_text}

-- the bytes between the name of an element's end tag and its `>`; a new one has none
abbrev pub gap_of : Ending → List ℕ
gap_of short = []
gap_of (tagged gap) = gap

-- The events of nodes side by side, by the pieces of their list and those of the lists below it, up
-- to the lists that are left. A tag is written where it comes next among the pieces. An
-- empty-element tag stays one where there are no kids and no tag comes next.
pub data PutsIn {M : Type 0} (g : PlainDtd) : List PlainPiece → Forest M →
    List (List PlainPiece) → List (List PlainPiece) → List Event → Type 0 where
  put_end : (ps : List PlainPiece) (qs rs : List (List PlainPiece)) → AwaitsNode ps → rs ≡ qs →
      PutsIn g ps no_trees qs rs []
  put_start : (y : ℕ) (k : Forest M) (ps : List PlainPiece) (qs rs : List (List PlainPiece))
      (es all : List Event) → all ≡ new_start (spelling_of g y) ∷ es → PutsIn g ps k qs rs es →
      PutsIn g (start y ∷ ps) k qs rs all
  put_finish : (y : ℕ) (k : Forest M) (ps : List PlainPiece) (qs rs : List (List PlainPiece))
      (es all : List Event) → all ≡ new_end (spelling_of g y) ∷ es → PutsIn g ps k qs rs es →
      PutsIn g (finish y ∷ ps) k qs rs all
  put_leaf : (t : Tree M) (k : Forest M) (ps : List PlainPiece) (qs rs : List (List PlainPiece))
      (es all : List Event) → is_element t ≡ false → AwaitsNode ps →
      all ≡ old_bytes (tree_text t) ∷ es → PutsIn g (after_node (is_token t) ps) k qs rs es →
      PutsIn g ps (tree t k) qs rs all
  put_bare : (x attrs : List ℕ) (m : M) (k : Forest M) (ps inside : List PlainPiece)
      (qs below rs : List (List PlainPiece)) (es all : List Event) → AwaitsNode ps →
      TakesNext qs inside below → AwaitsNode inside →
      all ≡ old_start (codes "<" ++ x ++ attrs ++ codes "/>") ∷ es →
      PutsIn g (others_of ps) k below rs es →
      PutsIn g ps (tree (element x attrs short no_trees m) k) qs rs all
  put_tags : (x attrs : List ℕ) (e : Ending) (kids k : Forest M) (m : M)
      (ps inside : List PlainPiece) (qs below after rs : List (List PlainPiece))
      (within es all : List Event) → AwaitsNode ps → TakesNext qs inside below →
      (e ≡ short → kids ≡ no_trees → AwaitsNode inside → ⊥) →
      all ≡ old_start (codes "<" ++ x ++ attrs ++ codes ">") ∷
      (within ++ old_bytes (codes "</" ++ x ++ gap_of e ++ codes ">") ∷ es) →
      PutsIn g inside kids below after within → PutsIn g (others_of ps) k after rs es →
      PutsIn g ps (tree (element x attrs e kids m) k) qs rs all

-- The body is written as the document is, with tags of new elements in it, by the pieces of its
-- lists, in document order. The marks are the numbers of these elements in document order, the root
-- having the number 0.
pub record IsTaggedText {M : Type 0} (g : PlainDtd) (doc : PlainDoc M)
    (lists : List (List PlainPiece)) (marks body : List ℕ) : Type 0 where
  pub pieces : List PlainPiece
  pub below : List (List PlainPiece)
  pub left : List (List PlainPiece)
  pub events : List Event
  pub takes : TakesNext lists pieces below
  pub fills : PutsIn g pieces (tree doc.root no_trees) below left events
  pub are_marks : marks ≡ marks_from 0 events
  pub is_body : body ≡ doc.before ++ events_text events ++ doc.after

-- the text so far, the numbers of the new elements, how many elements have begun, and the pieces of
-- the lists that are to come
pub record PlainWriting : Type 0 where
  pub body : List ℕ
  pub marks : List ℕ
  pub begun : ℕ
  pub lists : List (List PlainPiece)

-- these events are written next
pub record Appends (old new : PlainWriting) (es : List Event) : Type 0 where
  pub body : new.body ≡ old.body ++ events_text es
  pub marks : new.marks ≡ old.marks ++ marks_from old.begun es
  pub begun : new.begun ≡ old.begun + opens es

-- Pieces and nodes are written, up to others that follow them.
pub record WritesUpTo (g : PlainDtd) (ps : List PlainPiece) (from : Forest Mark)
    (qs : List PlainPiece) (to : Forest Mark) (old new : PlainWriting) : Type 0 where
  pub events : List Event
  pub appends : Appends old new events
  pub goes_on : (rs : List (List PlainPiece)) (es : List Event) → PutsIn g qs to new.lists rs es →
      PutsIn g ps from old.lists rs (events ++ es)

-- all of them are
pub record WritesAll (g : PlainDtd) (ps : List PlainPiece) (kids : Forest Mark)
    (old new : PlainWriting) : Type 0 where
  pub events : List Event
  pub appends : Appends old new events
  pub fills : PutsIn g ps kids old.lists new.lists events
