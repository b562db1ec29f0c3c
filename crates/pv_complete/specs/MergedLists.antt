-- A list completed: the pieces of its completion, and its nodes, each completed by itself.
use Rattle.std.specs.Prelude.{List, [], ℕ, ◌+◌, ◌++◌, ◌∷◌, ◌≡◌}
use Rattle.pv_model.specs.Plain.{PlainToken}
use Rattle.pv_dtd.specs.Hedge.{Hedge}
use Rattle.pv_dtd.specs.Plain.{PlainDtd, number_of, spelling_of}
use Rattle.pv_tree.specs.Lists.{IsOwnValid}
use Rattle.pv_tree.specs.Plain.{Forest, Tree, cdata_node, element, misc_node, no_trees, text_node}
use Rattle.pv_tree.specs.Plain.{tree}
use Rattle.pv_tree.specs.View.{view_before}
use Rattle.pv_tree.specs.Words.{node_before, word_of}
use Rattle.pv_write.specs.Text.{forest_text, tree_text}
use Rattle.pv_missing.specs.Completions.{LeavesOut}
use Rattle.pv_write.specs.Events.{Event, events_text, marks_from, new_end, new_start, news}
use Rattle.pv_write.specs.Events.{opens}
use Rattle.pv_complete.specs.GrownTrees.{trees_and}
use Rattle.pv_write.specs.Pieces.{PlainPiece, finish, kept, start}
use Rattle.pv_complete.specs.Writable.{KeepsWritable}

-- the hedge that a forest shows, before another
abbrev pub view_beside : {M : Type 0} → Forest M → Hedge → Hedge
view_beside no_trees h = h
view_beside (tree t a) h = view_before t (view_beside a h)

-- the list of each element is valid by itself, at all depths
abbrev mutual
  pub IsValidTree : {M : Type 0} → PlainDtd → Tree M → Type 0
  IsValidTree g (element x attrs ending kids mark) = IsOwnValid g (number_of g x) kids ×
      AreValidTrees g kids
  IsValidTree g (text_node units) = Unit {0}
  IsValidTree g (cdata_node bytes) = Unit {0}
  IsValidTree g (misc_node bytes) = Unit {0}

  pub AreValidTrees : {M : Type 0} → PlainDtd → Forest M → Type 0
  AreValidTrees g no_trees = Unit {0}
  AreValidTrees g (tree t rest) = IsValidTree g t × AreValidTrees g rest

-- The second tree is the first with elements inserted in it; the events are what it is written as,
-- and number what is new.
pub record IsCompletedTree {M : Type 0} (g : PlainDtd) (t new : Tree M) (es : List Event) :
    Type 0 where
  pub text : tree_text new ≡ events_text es
  pub tags : (m e : ℕ) (more : List ℕ) (h h' : Hedge) → LeavesOut (m + opens es) e more h h' →
      LeavesOut m e (marks_from m es ++ more) (view_before t h) (view_before new h')
  pub valid : IsValidTree g new
  pub head : (u : List PlainToken) → node_before g new u ≡ node_before g t u
  pub keeps : (f f' : Forest M) → KeepsWritable f f' → KeepsWritable (tree t f) (tree new f')

-- The events of a list, by its pieces and by those of its nodes, of which k elements are new within
-- the nodes. Nodes that are no token go before the next token, or stay at the end.
pub data Merges {M : Type 0} (g : PlainDtd) : List PlainPiece → Forest M → List Event → ℕ →
    Type 0 where
  merge_end : (k : ℕ) → k ≡ 0 → Merges g [] no_trees [] k
  merge_left : (t new : Tree M) (rest : Forest M) (one two es : List Event) (k a : ℕ) →
      es ≡ one ++ two → k ≡ news one + a → IsCompletedTree g t new one →
      Merges g [] rest two a → Merges g [] (tree t rest) es k
  merge_along : (t new : Tree M) (rest : Forest M) (ps : List PlainPiece) (one two es : List Event)
      (k a : ℕ) → es ≡ one ++ two → k ≡ news one + a → IsCompletedTree g t new one →
      ((u : List PlainToken) → node_before g t u ≡ u) → Merges g (kept ∷ ps) rest two a →
      Merges g (kept ∷ ps) (tree t rest) es k
  merge_kept : (t new : Tree M) (rest : Forest M) (ps : List PlainPiece) (one two es : List Event)
      (token : PlainToken) (k a : ℕ) → es ≡ one ++ two → k ≡ news one + a →
      IsCompletedTree g t new one →
      ((u : List PlainToken) → node_before g t u ≡ token ∷ u) → Merges g ps rest two a →
      Merges g (kept ∷ ps) (tree t rest) es k
  merge_start : (y k : ℕ) (kids : Forest M) (ps : List PlainPiece) (es all : List Event) →
      all ≡ new_start (spelling_of g y) ∷ es → Merges g ps kids es k →
      Merges g (start y ∷ ps) kids all k
  merge_finish : (y k : ℕ) (kids : Forest M) (ps : List PlainPiece) (es all : List Event) →
      all ≡ new_end (spelling_of g y) ∷ es → Merges g ps kids es k →
      Merges g (finish y ∷ ps) kids all k

-- The second forest is the first with elements inserted in it, so that its word is u; n of them at
-- this level, and k within its nodes.
pub record IsCompletedList {M : Type 0} (g : PlainDtd) (kids new : Forest M) (u : List PlainToken)
    (es : List Event) (n k : ℕ) : Type 0 where
  pub text : forest_text new ≡ events_text es
  pub tags : (m e : ℕ) (more : List ℕ) (h h' : Hedge) → LeavesOut (m + opens es) e more h h' →
      LeavesOut m e (marks_from m es ++ more) (view_beside kids h) (view_beside new h')
  pub valid : AreValidTrees g new
  pub word : word_of g new ≡ u
  pub count : news es ≡ n + k
  pub none : kids ≡ no_trees → u ≡ [] → new ≡ no_trees
  pub keeps : (f f' : Forest M) → KeepsWritable f f' →
      KeepsWritable (trees_and kids f) (trees_and new f')
