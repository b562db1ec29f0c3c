-- The text of a completion is that of the document, with tags of new elements in it.
use Rattle.std.specs.Prelude.{List, Some, [], codes, length, slice_get, ℕ, ◌++◌, ◌<◌, ◌≡◌, ◌≢◌}
use Rattle.std.specs.List.{AllByRecursion}
use Rattle.pv_dtd.specs.Plain.{PlainDtd}
use Rattle.pv_tree.specs.Plain.{Ending, Forest, PlainDoc, Tree, element, no_trees, short, tree}
use Rattle.pv_write.specs.Pieces.{PlainPiece, finish, kept, start}
use Rattle.pv_write.specs.TaggedTexts.{gap_of}
use Rattle.pv_write.specs.Text.{tree_text}

-- The bytes are the text of trees side by side, as it was, with tags of new elements in it,
-- `<NAME>` and `</NAME>`, whose names the DTD has. An empty-element tag that gets content becomes a
-- pair of tags: of `<a/>` comes `<a>`, and after the content `</a>`.
pub data HasNewTags {M : Type 0} (g : PlainDtd) : Forest M → List ℕ → Type 0 where
  no_more : (bytes : List ℕ) → bytes ≡ [] → HasNewTags g no_trees bytes
  new_start : (k : Forest M) (y : ℕ) (x more bytes : List ℕ) → slice_get g.names y ≡ Some x →
      bytes ≡ codes "<" ++ x ++ codes ">" ++ more → HasNewTags g k more → HasNewTags g k bytes
  new_end : (k : Forest M) (y : ℕ) (x more bytes : List ℕ) → slice_get g.names y ≡ Some x →
      bytes ≡ codes "</" ++ x ++ codes ">" ++ more → HasNewTags g k more → HasNewTags g k bytes
  same_text : (t : Tree M) (k : Forest M) (more bytes : List ℕ) → bytes ≡ tree_text t ++ more →
      HasNewTags g k more → HasNewTags g (tree t k) bytes
  same_tags : (x attrs : List ℕ) (e : Ending) (kids k : Forest M) (m : M)
      (content more bytes : List ℕ) → (e ≡ short → content ≢ []) →
      bytes ≡ codes "<" ++ x ++ attrs ++ codes ">" ++ content
      ++ (codes "</" ++ x ++ gap_of e ++ codes ">") ++ more →
      HasNewTags g kids content → HasNewTags g k more →
      HasNewTags g (tree (element x attrs e kids m) k) bytes

-- The body is written as the document is, with tags of new elements in it.
pub record IsWrittenWithTags {M : Type 0} (g : PlainDtd) (doc : PlainDoc M) (body : List ℕ)
    : Type 0 where
  pub text : List ℕ
  pub has_tags : HasNewTags g (tree doc.root no_trees) text
  pub is_body : body ≡ doc.before ++ text ++ doc.after

-- the DTD has the name of a tag
abbrev pub HasNameOf : PlainDtd → PlainPiece → Type 0
HasNameOf g kept = Unit {0}
HasNameOf g (start y) = y < length g.names
HasNameOf g (finish y) = y < length g.names

-- it has those of all tags
abbrev pub HasNamesOf : PlainDtd → List PlainPiece → Type 0
HasNamesOf g ps = AllByRecursion (HasNameOf g) ps
