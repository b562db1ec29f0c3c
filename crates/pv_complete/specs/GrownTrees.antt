-- Trees with new elements put in, as they are written.
use Rattle.std.specs.Prelude.{IsTrue, List, [], false, length, ℕ, ◌*◌, ◌+◌, ◌≡◌, ◌≢◌, ◌≤◌, ◌⊎◌}
use Rattle.std.specs.List.{list_all}
use Rattle.pv_dtd.specs.Facts.{is_short_name}
use Rattle.pv_dtd.specs.Plain.{PlainDtd}
use Rattle.pv_tree.specs.Plain.{Ending, Forest, PlainDoc, Tree, element, is_element, no_trees}
use Rattle.pv_tree.specs.Plain.{short, tagged, tree}
use Rattle.pv_write.specs.Text.{doc_text}

-- the trees of one forest and then those of another
abbrev pub trees_and : {M : Type 0} → Forest M → Forest M → Forest M
trees_and no_trees b = b
trees_and (tree t a) b = tree t (trees_and a b)

-- an element ends as before, but an empty-element tag that gets content becomes a pair of tags
abbrev pub KeepsEnding : {M : Type 0} → Ending → Forest M → Ending → Type 0
KeepsEnding e kids f = (f ≡ e) ⊎ ((e ≡ short) × (kids ≢ no_trees) × (f ≡ tagged []))

-- New elements stand round trees of the first forest, with the tags `<NAME>` and `</NAME>`; all
-- else is as it was, marks aside.
pub data Grows {M : Type 0} : Forest M → Forest M → Type 0 where
  grows_none : Grows no_trees no_trees
  grows_leaf : (t : Tree M) (a b : Forest M) → is_element t ≡ false → Grows a b →
      Grows (tree t a) (tree t b)
  grows_kept : (x attrs : List ℕ) (e f : Ending) (k l a b : Forest M) (m n : M) →
      KeepsEnding e l f → Grows k l → Grows a b →
      Grows (tree (element x attrs e k m) a) (tree (element x attrs f l n) b)
  grows_new : (x : List ℕ) (all k l a b : Forest M) (m : M) → all ≡ trees_and k a → Grows k l →
      Grows a b → Grows all (tree (element x [] (tagged []) l m) b)

-- The body is what the document is written as with new elements in it.
pub record IsGrownText {M : Type 0} (doc : PlainDoc M) (body : List ℕ) : Type 0 where
  pub root : Tree M
  pub grows : Grows (tree doc.root no_trees) (tree root no_trees)
  pub text : body ≡ doc_text (record doc { root = root })

-- each name of the DTD has at most 256 bytes
abbrev pub HasShortNames : PlainDtd → Type 0
HasShortNames g = IsTrue (list_all is_short_name g.names)

-- the most bytes of both tags of a new element: `<`, `>`, `</` and `>`, and its name twice
abbrev pub most_tag_bytes : ℕ
most_tag_bytes = 517

-- A body of n new elements is at most twice as long as the document, in which each element may get
-- an end tag, and as long as the tags of n new elements may be.
abbrev pub IsBounded : {M : Type 0} → PlainDoc M → ℕ → List ℕ → Type 0
IsBounded doc n body = length body ≤ 2 * length (doc_text doc) + most_tag_bytes * n
