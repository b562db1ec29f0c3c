-- The documents that a marked document of the program is.
use Rattle.pv_cache.specs.Stamps.{StampedDoc, stamped_doc_of}
use Rattle.pv_cache.specs.declared.marked.Marked.TheInside.{Inside}
use Rattle.pv_cache.specs.declared.well_marked.WellMarked.{WellMarked}
use Rattle.pv_tree.specs.PlainDocs.{plain_doc}

-- a document with the stamp of each list
abbrev pub stamped_doc : WellMarked → StampedDoc
stamped_doc m = stamped_doc_of m.grammar m.root (plain_doc m.doc)

-- the document with a stamp beside each list
abbrev pub stamped_inside : Inside → StampedDoc
stamped_inside m = stamped_doc m.document
