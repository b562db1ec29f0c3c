-- What `valid` finds in the bytes of a document, without a tree.
use Rattle.std.specs.Prelude.{ℕ, List}
use Rattle.pv_dtd.specs.Plain.{PlainDtd}
use Rattle.pv_tree.specs.Plain.{PlainDoc}
use Rattle.pv_tree.specs.declared.nodes.Mark.{Mark}
use Rattle.pv_read.specs.Grammar.{IsDocumentText}
use Rattle.pv_opening.specs.Documents.{RefusesDocument}
use Rattle.pv_opening.specs.Response.{PlainResponse}
use Rattle.pv_opening.specs.Stage.{Stage, without_fetch}
use Rattle.pv_commands.specs.Valid.{TellsValidity}

-- such a response, of the document that the bytes are
pub record TellsValidityOf (root : List ℕ) (g : PlainDtd) (bytes : List ℕ) (r : PlainResponse) :
    Type 0 where
  pub doc : PlainDoc Mark
  pub is_text : IsDocumentText root bytes doc
  pub tells : TellsValidity root g doc r

-- reading a document and telling whether it is valid, at once
abbrev pub validity_stage : List ℕ → PlainDtd → List ℕ → Stage PlainResponse
validity_stage root g bytes =
    without_fetch (TellsValidityOf root g bytes) (RefusesDocument root bytes)
