-- A document for a DTD and a root's name, with its marks.
use Rattle.std.specs.Prelude.{List, ℕ}
use Rattle.pv_cache.specs.declared.well_marked.WellMarked.{WellMarked}
use Rattle.pv_dtd.specs.Plain.{PlainDtd}
use Rattle.pv_tree.specs.Plain.{PlainDoc}
use Rattle.pv_tree.specs.PlainDocs.{plain_doc}
use Rattle.pv_tree.specs.declared.nodes.Mark.{Mark}

pub record PlainMarked : Type 0 where
  pub dtd : PlainDtd
  pub root : List ℕ
  pub doc : PlainDoc Mark

abbrev pub plain_marked : WellMarked → PlainMarked
plain_marked m = record { dtd = m.grammar; root = m.root; doc = plain_doc m.doc }
