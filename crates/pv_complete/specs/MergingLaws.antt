-- Laws of completed lists and trees, each a statement. M is the type of marks.
use Rattle.std.specs.Prelude.{List, Some, [], codes, false, ℕ, ◌++◌, ◌∷◌, ◌≡◌}
use Rattle.pv_model.specs.Plain.{PlainToken, empty}
use Rattle.pv_dtd.specs.Plain.{PlainDtd, model_of, number_of}
use Rattle.pv_dtd.specs.Proper.{IsProperDtd}
use Rattle.pv_tree.specs.Plain.{Ending, Forest, Tree, element, is_element, no_trees, short, tagged}
use Rattle.pv_tree.specs.Words.{word_of}
use Rattle.pv_write.specs.Text.{tree_text}
use Rattle.pv_write.specs.Events.{Event, old_bytes, old_start}
use Rattle.pv_complete.specs.MergedLists.{IsCompletedList, IsCompletedTree, Merges}
use Rattle.pv_write.specs.TaggedTexts.{gap_of}
use Rattle.pv_write.specs.Pieces.{PlainPiece}
use Rattle.pv_complete.specs.Pieces.{Writes, WritesContent}
use Rattle.pv_complete.specs.Writable.{HasNames}

-- Pieces that make the word of some nodes into u, merged with the nodes, each completed by itself,
-- are a completed list whose word is u. New elements get this mark.
abbrev pub MergedIsCompleted : (M : Type 0) → Type 0
MergedIsCompleted M = (mark : M) (g : PlainDtd) (n k : ℕ) (u : List PlainToken)
    (ps : List PlainPiece) (kids : Forest M) (es : List Event) → IsProperDtd g → HasNames g →
    Writes g n u (word_of g kids) ps → Merges g ps kids es k →
    (new : Forest M) × IsCompletedList g kids new u es n k

-- a text, a CDATA section, a comment or processing instruction is completed as it is
abbrev pub LeafIsCompleted : (M : Type 0) → Type 0
LeafIsCompleted M = (g : PlainDtd) (t : Tree M) → is_element t ≡ false →
    IsCompletedTree g t t (old_bytes (tree_text t) ∷ [])

-- An element whose content is a completed list, into which the pieces make it, is completed. It
-- ends by an end tag, so an empty-element tag has got content, or had it.
abbrev pub ElementIsCompleted : (M : Type 0) → Type 0
ElementIsCompleted M = (blank : M) (g : PlainDtd) (x attrs gap : List ℕ) (y n k : ℕ)
    (ending : Ending) (kids : Forest M) (mark : M) (ps : List PlainPiece) (es : List Event) →
    IsProperDtd g → HasNames g →
    gap ≡ gap_of ending → (ending ≡ short → kids ≡ no_trees → ps ≡ [] → ⊥) →
    number_of g x ≡ Some y → (model_of g y ≡ Some empty → kids ≡ no_trees) →
    WritesContent g y n (word_of g kids) ps → Merges g ps kids es k →
    (new : Forest M) × IsCompletedTree g (element x attrs ending kids mark)
    (element x attrs (tagged gap) new mark)
    (old_start (codes "<" ++ x ++ attrs ++ codes ">") ∷
    (es ++ old_bytes (codes "</" ++ x ++ gap ++ codes ">") ∷ []))

-- so is one without content, of which nothing is missing
abbrev pub BareIsCompleted : (M : Type 0) → Type 0
BareIsCompleted M = (g : PlainDtd) (x attrs : List ℕ) (y n : ℕ) (mark : M) →
    number_of g x ≡ Some y → WritesContent g y n [] [] →
    IsCompletedTree g (element x attrs short no_trees mark) (element x attrs short no_trees mark)
    (old_start (codes "<" ++ x ++ attrs ++ codes "/>") ∷ [])
