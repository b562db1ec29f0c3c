-- The lists of a document in document order, each with the mark that it carries.
use Rattle.std.specs.Prelude.{ℕ, suc, List, [], ◌∷◌, ◌++◌}
use Rattle.pv_tree.specs.Plain.{Tree, element, text_node, cdata_node, misc_node, Forest, no_trees}
use Rattle.pv_tree.specs.Plain.{tree, PlainDoc}
use Rattle.pv_tree.specs.Lists.{Listed, an_element, the_document}

-- a list and its mark
pub record MarkedList (M : Type 0) : Type 0 where
  pub list : Listed M
  pub mark : M

-- the list without its mark
abbrev pub list_alone : {M : Type 0} → MarkedList M → Listed M
list_alone marked = marked.list

-- the lists below a path, as `lists_at`, with their marks
abbrev mutual
  pub marked_at : {M : Type 0} → List ℕ → Tree M → List (MarkedList M)
  marked_at path (element x attrs ending kids mark) =
      record { list = record { path = path; owner = an_element x; kids = kids }; mark = mark }
      ∷ marked_from path 0 kids
  marked_at path (text_node units) = []
  marked_at path (cdata_node bytes) = []
  marked_at path (misc_node bytes) = []

  pub marked_from : {M : Type 0} → List ℕ → ℕ → Forest M → List (MarkedList M)
  marked_from path i no_trees = []
  marked_from path i (tree t rest) = marked_at (path ++ i ∷ []) t ++ marked_from path (suc i) rest

-- all lists of a document, as `lists_of`, with their marks
abbrev pub marked_of : {M : Type 0} → PlainDoc M → List (MarkedList M)
marked_of doc =
    record {
      list = record { path = []; owner = the_document; kids = tree doc.root no_trees };
      mark = doc.mark;
    } ∷ marked_at (0 ∷ []) doc.root
