-- What a text means: a DTD, or its first item in fault.
use Rattle.std.specs.Prelude.{◌≡◌, ◌≤◌, ◌<◌, ℕ, not, Bool, false, List, [], ◌∷◌, ◌++◌, length}
use Rattle.std.specs.Prelude.{IsTrue}
use Rattle.pv_chars.specs.Spaces.{is_space, IsOptionalSpace}
use Rattle.pv_chars.specs.ByteOrderMark.{IsBehindByteOrderMark}
use Rattle.pv_dtd.specs.Plain.{PlainDtd}
use Rattle.pv_dtd.specs.Facts.{MAX_DTD_BYTES}
use Rattle.pv_dtd.specs.Items.{DtdItem}
use Rattle.pv_dtd.specs.Numbering.{dtd_of_items}
use Rattle.pv_dtd.specs.Spelling.{StandsAt}
use Rattle.pv_dtd.specs.Kinds.{Kind, limit, HasFault, IsFirstFault}

-- something other than white space stands in front
abbrev pub is_place : List ℕ → Bool
is_place [] = false
is_place (b ∷ bs) = not (is_space b)

-- the rest has this after its white space
pub record HasPlace (rest place : List ℕ) : Type 0 where
  pub space : List ℕ
  pub is_space : IsOptionalSpace space
  pub whole : rest ≡ space ++ place
  pub is_place : IsTrue (is_place place)

-- the place of this rest is the front of the text: no item and no white space stands before it
abbrev pub is_front : List DtdItem → List ℕ → Bool
is_front [] rest = is_place rest
is_front (i ∷ before) rest = false

-- a DTD, or the kind of a text's first fault and the number of items before it
pub data Outcome : Type 0 where
  is_dtd : PlainDtd → Outcome
  faulty : Kind → ℕ → Outcome

-- after these items, the rest means this
pub data DtdRestMeans : List DtdItem → List ℕ → Outcome → Type 0 where
  ends : {before : List DtdItem} {rest : List ℕ} → IsOptionalSpace rest →
      DtdRestMeans before rest (is_dtd (dtd_of_items before))
  item : {before : List DtdItem} {rest place more : List ℕ} {i : DtdItem} {o : Outcome} →
      HasPlace rest place → StandsAt (is_front before rest) place i more →
      ((kind : Kind) → HasFault before (is_front before rest) place kind → ⊥) →
      DtdRestMeans (before ++ i ∷ []) more o → DtdRestMeans before rest o
  fault : {before : List DtdItem} {rest place : List ℕ} {kind : Kind} →
      HasPlace rest place → IsFirstFault before (is_front before rest) place kind →
      DtdRestMeans before rest (faulty kind (length before))

-- A text means this. One that is too long passes a limit, whatever it holds.
pub data DtdTextMeans (bytes : List ℕ) : Outcome → Type 0 where
  too_long : MAX_DTD_BYTES < length bytes → DtdTextMeans bytes (faulty limit 0)
  items : {rest : List ℕ} {o : Outcome} → length bytes ≤ MAX_DTD_BYTES →
      IsBehindByteOrderMark bytes rest →
      DtdRestMeans [] rest o → DtdTextMeans bytes o
