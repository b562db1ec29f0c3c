-- What a text means as a document: a document, or its first item in fault. Mark m is given to each
-- element.
use Rattle.std.specs.Prelude.{◌≡◌, ◌≤◌, ◌<◌, ℕ, suc, List, [], length, Option, Some}
use Rattle.pv_chars.specs.ByteOrderMark.{TakesByteOrderMark}
use Rattle.pv_tree.specs.Plain.{Tree, PlainDoc}
use Rattle.pv_tree.specs.Legal.{MAX_DEPTH}
use Rattle.pv_read.specs.Limits.{TextLimits}
use Rattle.pv_read.specs.Items.{Item, BeginsItem}
use Rattle.pv_read.specs.Left.{Left, at_front, in_prolog, in_epilog, left_by}
use Rattle.pv_read.specs.Kinds.{Kind, HasFault, IsFirstFault}

abbrev pub MAX_DOC_BYTES : ℕ
MAX_DOC_BYTES = 67108864

-- the limits of a document: elements stand at most 512 deep
abbrev pub document_limits : TextLimits
document_limits = record { depth = Some MAX_DEPTH; bytes = MAX_DOC_BYTES }

-- a document; the kind of a text's first fault, and the number of whole items before it; or more
-- bytes than the limit
pub data Outcome (M : Type 0) : Type 0 where
  is_document : PlainDoc M → Outcome M
  faulty : Kind → ℕ → Outcome M
  too_long : Outcome M

-- after so many items, which leave this, the rest means this, where elements stand at most so
-- deep
pub data DocumentRestMeans {M : Type 0} (most : Option ℕ) (m : M) (root : List ℕ)
    : ℕ → Left M → List ℕ → Outcome M → Type 0 where
  ends : {k : ℕ} {before after rest : List ℕ} {t : Tree M} → rest ≡ [] →
      DocumentRestMeans most m root k (in_epilog before t after) rest
      (is_document (record { before = before; root = t; after = after; mark = m }))
  item : {k : ℕ} {left next : Left M} {rest more : List ℕ} {o : Outcome M} (i : Item) →
      BeginsItem i rest more → left_by m left i ≡ Some next →
      ((kind : Kind) → HasFault most m root left rest kind → ⊥) →
      DocumentRestMeans most m root (suc k) next more o →
      DocumentRestMeans most m root k left rest o
  fault : {k : ℕ} {left : Left M} {rest : List ℕ} (kind : Kind) →
      IsFirstFault most m root left rest kind →
      DocumentRestMeans most m root k left rest (faulty kind k)

-- The bytes mean this within these limits, where the root's name is this one.
pub data DocumentMeansWithin {M : Type 0} (limits : TextLimits) (m : M) (root bytes : List ℕ)
    : Outcome M → Type 0 where
  long : limits.bytes < length bytes → DocumentMeansWithin limits m root bytes too_long
  items : {mark rest : List ℕ} {o : Outcome M} → length bytes ≤ limits.bytes →
      TakesByteOrderMark bytes mark rest →
      DocumentRestMeans limits.depth m root 0 (in_prolog at_front mark) rest o →
      DocumentMeansWithin limits m root bytes o

-- The bytes mean this within the limits of a document, where the root's name is this one.
abbrev pub DocumentMeans : {M : Type 0} → M → List ℕ → List ℕ → Outcome M → Type 0
DocumentMeans m root bytes o = DocumentMeansWithin document_limits m root bytes o
