-- What a text is expanded to, or its first fault.
use Rattle.std.specs.Prelude.{◌≡◌, ◌≢◌, ℕ, suc, ◌+◌, ◌||◌, nat_lt, Bool, true, false, List, [], ◌∷◌}
use Rattle.std.specs.Prelude.{◌++◌, length, codes, if◌then◌else◌, is_some, Option, Some, None}
use Rattle.std.specs.List.{list_any}
use Rattle.std.specs.Str.{bytes_eq}
use Rattle.pv_params.specs.Items.{Mode, file, between, inside, value, TextItem, puts, reference}
use Rattle.pv_params.specs.Items.{parameter, declaration}
use Rattle.pv_params.specs.Spelling.{StandsAt, IsInside, IsConditional, IsExternal, HasHead}

pub data Fault : Type 0 where
  conditional : Fault
  external : Fault
  undeclared : Fault
  recursive : Fault
  limit : Fault
  syntax : Fault

-- ---- what was read so far
-- an entity: its name, and its text (XML 1.0, 4.2)
pub record Entity : Type 0 where
  pub name : List ℕ
  pub text : List ℕ

-- The entities in order of declaration, each name once; how many references were read, how many
-- bytes their texts have together; the result.
pub record SoFar : Type 0 where
  pub declared : List Entity
  pub references : ℕ
  pub placed : ℕ
  pub result : List ℕ

-- the text of the first entity of this name (XML 1.0, 4.2)
abbrev pub text_of : List ℕ → List Entity → Option (List ℕ)
text_of name [] = None
text_of name (e ∷ es) = if bytes_eq name e.name then Some e.text else text_of name es

-- One more entity. Of two declarations of one name the first binds, and a later one isn't kept.
abbrev pub with_entity : List ℕ → List ℕ → List Entity → List Entity
with_entity name text es =
    if is_some (text_of name es) then es else es ++ record { name = name; text = text } ∷ []

-- the text of this name is being read
abbrev pub is_being_read : List ℕ → List (List ℕ) → Bool
is_being_read name reading = list_any (bytes_eq name) reading

abbrev pub MAX_REFERENCES : ℕ
MAX_REFERENCES = 65536

abbrev pub MAX_PLACED : ℕ
MAX_PLACED = 16777216

-- with one more reference, to this text, there are too many references, or too many bytes were put
-- in place
abbrev pub passes_limit : SoFar → List ℕ → Bool
passes_limit before text = nat_lt MAX_REFERENCES (suc before.references) ||
    nat_lt MAX_PLACED (before.placed + length text)

abbrev pub put : List ℕ → SoFar → SoFar
put bytes before = record before { result = before.result ++ bytes }

-- ---- a reference that is read
-- the first fault of a reference that is read (XML 1.0, 4.1, No Recursion, Entity Declared)
pub data RefusesReference (mode : Mode) (reading : List (List ℕ)) (before : SoFar) (name : List ℕ) :
    Fault → Type 0 where
  no_entity : text_of name before.declared ≡ None →
      RefusesReference mode reading before name undeclared
  being_read : {text : List ℕ} → text_of name before.declared ≡ Some text →
      is_being_read name reading ≡ true → RefusesReference mode reading before name recursive
  past_limit : {text : List ℕ} → text_of name before.declared ≡ Some text →
      is_being_read name reading ≡ false → passes_limit before text ≡ true →
      RefusesReference mode reading before name limit
  not_inside : {text : List ℕ} → text_of name before.declared ≡ Some text →
      is_being_read name reading ≡ false → passes_limit before text ≡ false →
      mode ≡ inside → (IsInside text → ⊥) → RefusesReference mode reading before name syntax

-- a reference that is read has no fault, and this is its text
pub record Enters (mode : Mode) (reading : List (List ℕ)) (before : SoFar) (name text : List ℕ) :
    Type 0 where
  pub is_text : text_of name before.declared ≡ Some text
  pub not_read : is_being_read name reading ≡ false
  pub within : passes_limit before text ≡ false
  pub judged : mode ≡ inside → IsInside text

-- ---- texts that are read within others
-- what is done after such a text: these bytes are put, or what it gave is declared, and the result
-- is again what it was
pub data EndOfText : Type 0 where
  closes : (bytes : List ℕ) → EndOfText
  declares : (name : List ℕ) → (result : List ℕ) → EndOfText

abbrev pub finish : EndOfText → SoFar → SoFar
finish (closes bytes) after = put bytes after
finish (declares name result) after =
    record after { declared = with_entity name after.result after.declared; result = result }

-- A text that is read within another: its mode, the names whose texts are being read, what was read
-- so far; and after it the ending, and
-- the mode and the rest of the other text.
pub record Within : Type 0 where
  pub mode : Mode
  pub reading : List (List ℕ)
  pub before : SoFar
  pub text : List ℕ
  pub ending : EndOfText
  pub mode_behind : Mode
  pub behind : List ℕ

-- the mode of an entity's text where the reference is read in this mode
abbrev pub mode_of_text : Mode → Mode
mode_of_text (file after_parameter) = between
mode_of_text mode = mode

-- what is put before and after it
abbrev pub blank : Mode → List ℕ
blank value = []
blank _ = codes " "

-- the mode after a parameter declaration
abbrev pub behind_parameter : Mode → Mode
behind_parameter (file after_parameter) = file true
behind_parameter mode = mode

-- a reference to this text is counted, and one space put before it
abbrev pub entered : Mode → List ℕ → SoFar → SoFar
entered mode text before =
    record before {
      references = suc before.references;
      placed = before.placed + length text;
      result = before.result ++ blank mode;
    }

-- a text with nothing in its result yet
abbrev pub with_no_result : SoFar → SoFar
with_no_result before = record before { result = [] }

-- the item at the front of the rest has this text read within (XML 1.0, 4.4.8, 4.5)
pub data Opens (mode : Mode) (reading : List (List ℕ)) (before : SoFar) (rest : List ℕ) : Within →
    Type 0 where
  of_reference : {name text more : List ℕ} → StandsAt mode rest (reference name) more →
      Enters mode reading before name text →
      Opens mode reading before rest record {
        mode = mode_of_text mode;
        reading = name ∷ reading;
        before = entered mode text before;
        text = text;
        ending = closes (blank mode);
        mode_behind = mode;
        behind = more;
      }
  of_parameter : {name text more : List ℕ} → StandsAt mode rest (parameter name text) more →
      Opens mode reading before rest record {
        mode = value;
        reading = reading;
        before = with_no_result before;
        text = text;
        ending = declares name before.result;
        mode_behind = behind_parameter mode;
        behind = more;
      }
  of_declaration : {word text more : List ℕ} → StandsAt mode rest (declaration word text) more →
      Opens mode reading before rest record {
        mode = inside;
        reading = reading;
        before = put word before;
        text = text;
        ending = closes (codes ">");
        mode_behind = mode;
        behind = more;
      }

-- ---- what reading comes to
-- what was read up to the end, or the first fault
pub data Outcome : Type 0 where
  gives : (after : SoFar) → Outcome
  meets : (fault : Fault) → Outcome

-- the file, or an entity's text, in mode Between
abbrev pub IsBetween : Mode → Type 0
IsBetween inside = ⊥
IsBetween value = ⊥
IsBetween _ = Unit {0}

-- the rest isn't empty, and begins with no item of the mode, and with nothing that is refused by
-- its front
pub record BeginsNothing (mode : Mode) (rest : List ℕ) : Type 0 where
  pub some : rest ≢ []
  pub no_item : (i : TextItem) (more : List ℕ) → StandsAt mode rest i more → ⊥
  pub not_conditional : IsBetween mode → IsConditional rest → ⊥
  pub not_external : IsBetween mode → IsExternal rest → ⊥

-- the space before a rest of the file that is copied unread, where a parameter declaration stands
-- before it
abbrev pub blank_before : Bool → List ℕ
blank_before after_parameter = if after_parameter then codes " " else []

-- a text that isn't the file
abbrev pub IsOfEntity : Mode → Type 0
IsOfEntity (file after_parameter) = ⊥
IsOfEntity _ = Unit {0}

-- reading comes to its end here
pub data Stops (mode : Mode) (reading : List (List ℕ)) (before : SoFar) (rest : List ℕ) : Outcome →
    Type 0 where
  ends : rest ≡ [] → Stops mode reading before rest (gives before)
  refused : {name more : List ℕ} {fault : Fault} → StandsAt mode rest (reference name) more →
      RefusesReference mode reading before name fault →
      Stops mode reading before rest (meets fault)
  of_section : IsBetween mode → IsConditional rest → Stops mode reading before rest (meets
      conditional)
  of_external : IsBetween mode → IsExternal rest → Stops mode reading before rest (meets external)
  no_item : IsOfEntity mode → BeginsNothing mode rest →
      Stops mode reading before rest (meets syntax)
  unread : {after_parameter : Bool} → mode ≡ file after_parameter → BeginsNothing mode rest →
      Stops mode reading before rest (gives (put (blank_before after_parameter ++ rest) before))

-- The rest of a text, read in this mode within the texts of these names after what was read so
-- far, comes to this.
pub data Reads : Mode → List (List ℕ) → SoFar → List ℕ → Outcome → Type 0 where
  stops : {mode : Mode} {reading : List (List ℕ)} {before : SoFar} {rest : List ℕ} {o : Outcome} →
      Stops mode reading before rest o → Reads mode reading before rest o
  copies : {mode : Mode} {reading : List (List ℕ)} {before : SoFar} {rest bytes more : List ℕ} {o :
      Outcome} →
      StandsAt mode rest (puts bytes) more → Reads mode reading (put bytes before) more o →
      Reads mode reading before rest o
  meets_within : {mode : Mode} {reading : List (List ℕ)} {before : SoFar} {rest : List ℕ} {w :
      Within} {fault : Fault} →
      Opens mode reading before rest w → Reads w.mode w.reading w.before w.text (meets fault) →
      Reads mode reading before rest (meets fault)
  goes_on : {mode : Mode} {reading : List (List ℕ)} {before : SoFar} {rest : List ℕ} {w : Within}
      {after : SoFar} {o : Outcome} →
      Opens mode reading before rest w → Reads w.mode w.reading w.before w.text (gives after) →
      Reads w.mode_behind reading (finish w.ending after) w.behind o →
      Reads mode reading before rest o

-- ---- a file
-- the expanded text, or the first fault
pub data Expansion : Type 0 where
  expanded : (text : List ℕ) → Expansion
  faulty : (fault : Fault) → Expansion

abbrev pub expansion_of : Outcome → Expansion
expansion_of (gives after) = expanded after.result
expansion_of (meets fault) = faulty fault

-- nothing was read but the head, which is copied
abbrev pub behind_head : List ℕ → SoFar
behind_head head = record { declared = []; references = 0; placed = 0; result = head }

-- the file of these bytes has this expansion
pub record Expands (bytes : List ℕ) (e : Expansion) : Type 0 where
  pub head : List ℕ
  pub rest : List ℕ
  pub outcome : Outcome
  pub has_head : HasHead bytes head rest
  pub reads : Reads (file false) [] (behind_head head) rest outcome
  pub is_expansion : e ≡ expansion_of outcome
