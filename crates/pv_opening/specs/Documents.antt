-- Reading the document of a command.
use Rattle.std.specs.Prelude.{◌≡◌, ℕ, List, ◌++◌, codes, decimal}
use Rattle.pv_dtd.specs.Plain.{PlainDtd}
use Rattle.pv_tree.specs.Plain.{PlainDoc}
use Rattle.pv_tree.specs.Marks.{blank_mark}
use Rattle.pv_tree.specs.declared.nodes.Mark.{Mark}
use Rattle.pv_read.specs.Grammar.{IsDocumentText}
use Rattle.pv_read.specs.Kinds.{Kind, subset, syntax, entity, mismatch, doctype_name, deep}
use Rattle.pv_read.specs.Meaning.{faulty, too_long, DocumentMeans}
use Rattle.pv_opening.specs.declared.status.Status.TheVariants.{BadDocument, Limit}
use Rattle.pv_opening.specs.Response.{PlainResponse, with_line}
use Rattle.pv_opening.specs.Stage.{Stage, without_fetch}

-- what is opened: a DTD, and a document with its bytes
pub record PlainOpened : Type 0 where
  pub dtd : PlainDtd
  pub bytes : List ℕ
  pub doc : PlainDoc Mark

-- the response to a document whose first fault is of this kind, after so many whole items
abbrev pub document_refusal : Kind → ℕ → PlainResponse
document_refusal subset k = with_line BadDocument (codes "document subset")
document_refusal syntax k = with_line BadDocument (codes "document syntax " ++ decimal k)
document_refusal entity k = with_line BadDocument (codes "document entity " ++ decimal k)
document_refusal mismatch k = with_line BadDocument (codes "document mismatch " ++ decimal k)
document_refusal doctype_name k = with_line BadDocument (codes "document doctype")
document_refusal deep k = with_line Limit (codes "limit depth " ++ decimal k)

-- the response to bytes that are no document with this root
pub data RefusesDocument (root bytes : List ℕ) (r : PlainResponse) : Type 0 where
  no_document : (kind : Kind) (k : ℕ) → DocumentMeans blank_mark root bytes (faulty kind k) →
      r ≡ document_refusal kind k → RefusesDocument root bytes r
  too_many_bytes : DocumentMeans blank_mark root bytes too_long →
      r ≡ with_line Limit (codes "limit document-file") → RefusesDocument root bytes r

-- the bytes are the text of this document, which is handed on beside the DTD and its bytes
pub record OpensDocument (root : List ℕ) (g : PlainDtd) (bytes : List ℕ) (opened : PlainOpened) :
    Type 0 where
  pub is_dtd : opened.dtd ≡ g
  pub are_bytes : opened.bytes ≡ bytes
  pub is_text : IsDocumentText root bytes opened.doc

-- the bytes are the text of some document
pub record SpellsSome (root bytes : List ℕ) : Type 0 where
  pub doc : PlainDoc Mark
  pub is_text : IsDocumentText root bytes doc

-- the document has a text
pub record HasText (root : List ℕ) (doc : PlainDoc Mark) : Type 0 where
  pub bytes : List ℕ
  pub is_text : IsDocumentText root bytes doc

-- reading a document
abbrev pub document_stage : List ℕ → PlainDtd → List ℕ → Stage PlainOpened
document_stage root g bytes =
    without_fetch (OpensDocument root g bytes) (RefusesDocument root bytes)
