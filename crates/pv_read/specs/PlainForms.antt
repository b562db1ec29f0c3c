-- The answer to a text by what it means.
use Rattle.std.specs.Prelude.{◌≡◌, ◌⊎◌, ℕ, Result, Ok, Err}
use Rattle.pv_tree.specs.PlainDocs.{plain_doc}
use Rattle.pv_tree.specs.declared.nodes.Mark.{Mark}
use Rattle.pv_tree.specs.declared.document.Doc.{Doc}
use Rattle.pv_read.specs.Kinds.{Kind, subset, syntax, entity, mismatch, doctype_name, deep}
use Rattle.pv_read.specs.Meaning.{Outcome, is_document, faulty, too_long}
use Rattle.pv_read.specs.declared.errors.DocError.{DocError}
use Rattle.pv_read.specs.declared.errors.DocError.TheVariants.{Syntax, Mismatch, Entity, Subset}
use Rattle.pv_read.specs.declared.errors.DocError.TheVariants.{DoctypeName, Deep, Limit, NoMemory}

-- the refusal of a text whose first fault is of this kind, after so many items
abbrev pub refusal : Kind → ℕ → DocError
refusal subset k = Subset
refusal syntax k = Syntax k
refusal entity k = Entity k
refusal mismatch k = Mismatch k
refusal doctype_name k = DoctypeName
refusal deep k = Deep k

-- the answer to a text that means this, unless memory ran out
abbrev pub Answers : Outcome Mark → Result Doc DocError → Type 0
Answers (is_document d) (Ok doc) = plain_doc doc ≡ d
Answers (is_document d) (Err error) = error ≡ NoMemory
Answers (faulty kind k) (Ok doc) = ⊥
Answers (faulty kind k) (Err error) = (error ≡ refusal kind k) ⊎ (error ≡ NoMemory)
Answers too_long (Ok doc) = ⊥
Answers too_long (Err error) = (error ≡ Limit) ⊎ (error ≡ NoMemory)
