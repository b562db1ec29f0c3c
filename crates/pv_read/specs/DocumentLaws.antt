-- Laws on documents and their texts.
use Rattle.std.specs.Prelude.{◌≡◌, ◌↔◌, ℕ, List}
use Rattle.pv_tree.specs.Plain.{PlainDoc, map_marks}
use Rattle.pv_tree.specs.Marks.{HasMarks, blank_mark, unmarked_doc}
use Rattle.pv_tree.specs.declared.nodes.Mark.{Mark}
use Rattle.pv_read.specs.Limits.{TextLimits, AreWider}
use Rattle.pv_read.specs.Kinds.{deep}
use Rattle.pv_read.specs.Grammar.{SpellsDocument, IsDocumentTextWithin}
use Rattle.pv_read.specs.Meaning.{Outcome, is_document, faulty, too_long, DocumentMeansWithin}

-- Some bytes mean a document by their items exactly where they are its text by its tree, and all
-- its marks are the one that is given: within whatever limits.
abbrev pub GrammarsAgree : Type 0
GrammarsAgree = (limits : TextLimits) (m : Mark) (root bytes : List ℕ) (doc : PlainDoc Mark) →
    DocumentMeansWithin limits m root bytes (is_document doc)
    ↔ IsDocumentTextWithin limits root bytes doc × HasMarks m doc

-- a text means at most one thing
abbrev pub DocumentsMeanOne : Type 0
DocumentsMeanOne = (limits : TextLimits) (root bytes : List ℕ) (o p : Outcome Mark) →
    DocumentMeansWithin limits blank_mark root bytes o →
    DocumentMeansWithin limits blank_mark root bytes p → o ≡ p

-- a text means exactly one thing
pub record HasOneMeaning (limits : TextLimits) (root bytes : List ℕ) : Type 0 where
  pub outcome : Outcome Mark
  pub means : DocumentMeansWithin limits blank_mark root bytes outcome
  pub only : (other : Outcome Mark) → DocumentMeansWithin limits blank_mark root bytes other →
      other ≡ outcome

-- what a text means isn't that a limit is passed
abbrev pub PassesNoLimit : {M : Type 0} → Outcome M → Type 0
PassesNoLimit (is_document doc) = Unit {0}
PassesNoLimit (faulty kind k) = kind ≡ deep → ⊥
PassesNoLimit too_long = ⊥

-- What a text means within some limits, and isn't that one is passed, it means within wider ones:
-- the same document, or the same kind of fault at the same item.
abbrev pub MeansSameWithinWider : Type 0
MeansSameWithinWider = (limits wider : TextLimits) (m : Mark) (root bytes : List ℕ)
    (o : Outcome Mark) → AreWider limits wider → PassesNoLimit o →
    DocumentMeansWithin limits m root bytes o → DocumentMeansWithin wider m root bytes o

-- the document with other marks
abbrev pub with_marks : {M : Type 0} → M → PlainDoc M → PlainDoc M
with_marks m doc = record {
  before = doc.before;
  root = map_marks (λ _. m) doc.root;
  after = doc.after;
  mark = m;
}

-- the document that a text spells by its tree is what it means by its items, whatever the marks
abbrev pub MeansWhatItSpells : Type 0
MeansWhatItSpells = (limits : TextLimits) (m : Mark) (root bytes : List ℕ) (doc : PlainDoc Mark) →
    IsDocumentTextWithin limits root bytes doc →
    DocumentMeansWithin limits m root bytes (is_document (with_marks m doc))

-- some bytes spell at most one document, marks aside, of any depth and size
abbrev pub SpellsOneDocument : Type 0
SpellsOneDocument = (root bytes : List ℕ) (doc other : PlainDoc Mark) →
    SpellsDocument root bytes doc → SpellsDocument root bytes other → unmarked_doc doc
    ≡ unmarked_doc other
