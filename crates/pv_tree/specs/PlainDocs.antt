-- The plain document that a document of the program is, and what stands at a path of it.
use Rattle.pv_tree.specs.Plain.{PlainDoc}
use Rattle.pv_tree.specs.Places.{Spot, at_document, at_node}
use Rattle.pv_tree.specs.PlainForms.{plain}
use Rattle.pv_tree.specs.declared.nodes.Mark.{Mark}
use Rattle.pv_tree.specs.declared.document.Doc.{Doc}
use Rattle.pv_tree.specs.declared.places.Found.{Found}
use Rattle.pv_tree.specs.declared.places.Found.TheVariants.{Document, Inner}

-- the plain form of a document
abbrev pub plain_doc : Doc → PlainDoc Mark
plain_doc d = record { before = d.before; root = plain d.root; after = d.after; mark = d.mark }

-- the plain form of what stands at a path
abbrev pub plain_found : Found → Spot Mark
plain_found Document = at_document
plain_found (Inner node) = at_node (plain node.now)
