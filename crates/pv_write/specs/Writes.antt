-- What may be written, and what the bytes of a document say.
use Rattle.std.specs.Prelude.{◌≡◌, ℕ, List, IsTrue}
use Rattle.pv_tree.specs.Plain.{Tree, PlainDoc, depth_of, is_element}
use Rattle.pv_tree.specs.Legal.{has_names, is_formed, IsLegal, has_no_close_mark}
use Rattle.pv_tree.specs.Units.{HasUnits}
use Rattle.pv_tree.specs.Prolog.{IsProlog, IsEpilog}
use Rattle.pv_tree.specs.View.{view}
use Rattle.pv_read.specs.Grammar.{SpellsDocument}

-- What a document has to be, at any depth and size: its root is an element, each element's name is
-- a Name, an empty-element tag stands only where there are no kids, each text has a unit, all
-- other bytes are legal, no run of texts spells `]]>`, and a prolog and an epilog stand around the
-- root. A document type declaration names this root.
pub record IsLegalDocument {M : Type 0} (root : List ℕ) (doc : PlainDoc M) : Type 0 where
  pub rooted : IsTrue (is_element doc.root)
  pub named : IsTrue (has_names doc.root)
  pub formed : IsTrue (is_formed doc.root)
  pub units : HasUnits doc.root
  pub legal : IsLegal doc.root
  pub no_close_mark : IsTrue (has_no_close_mark doc.root)
  pub prolog : IsProlog root doc.before
  pub epilog : IsEpilog doc.after

-- The bytes are a document text of a tree with the same view and depth, and with the same bytes
-- before and after it.
pub record SpellsView {M : Type 0} (root bytes : List ℕ) (doc : PlainDoc M) : Type 0 where
  pub tree : Tree M
  pub spelled : SpellsDocument root bytes (record doc { root = tree })
  pub same_view : view tree ≡ view doc.root
  pub same_depth : depth_of tree ≡ depth_of doc.root
