-- Texts that are being read one within another, as the program keeps them, and what they lead to.
use Rattle.std.specs.Prelude.{◌≡◌, ℕ, suc, ◌+◌, ◌-◌, ◌*◌, Bool, true, false, List, [], ◌∷◌}
use Rattle.std.specs.Prelude.{length, drop, codes, Option, Some, None}
use Rattle.pv_params.specs.Items.{Mode, TextItem, puts, reference, parameter, declaration}
use Rattle.pv_params.specs.Spelling.{StandsAt}
use Rattle.pv_params.specs.Meaning.{Fault}
use Rattle.pv_params.specs.Meaning.{SoFar, MAX_REFERENCES, MAX_PLACED, EndOfText, closes}
use Rattle.pv_params.specs.Meaning.{declares, finish, Opens, Outcome, gives, meets, Stops}
use Rattle.pv_params.specs.Meaning.{Reads, put, behind_parameter}
use Rattle.pv_params.specs.Meaning.{expansion_of, Expands}
use Rattle.pv_params.specs.PlainForms.{plain_mode}
use Rattle.pv_params.specs.declared.state.State.{State}
use Rattle.pv_params.specs.declared.state.TextEnding.{TextEnding}
use Rattle.pv_params.specs.declared.state.TextEnding.TheVariants.{Nothing, Space, Bracket, Declares}
use Rattle.pv_params.specs.declared.open_texts.OpenText.{OpenText}

-- a text that is being read: its mode, whether it is an entity's, its rest, and what is done at its
-- end
pub record PlainOpenText : Type 0 where
  pub mode : Mode
  pub of_entity : Bool
  pub rest : List ℕ
  pub ending : EndOfText

-- the names of the texts that are being read, the innermost first, after the end of the innermost
-- text
abbrev pub names_behind : Bool → List (List ℕ) → List (List ℕ)
names_behind true (name ∷ names) = names
names_behind true [] = []
names_behind false names = names

-- What a text within came to: after one that was read to its end the others lead on, and else its
-- fault is all.
abbrev pub Comes : EndOfText → (SoFar → Type 0) → Outcome → Outcome → Type 0
Comes ending LeadsOn (gives after) o = LeadsOn (finish ending after)
Comes ending LeadsOn (meets fault) o = o ≡ meets fault

-- Where the innermost of these texts is read on within the texts of these names after what was
-- read so far, the outermost comes to this.
abbrev pub LeadToOutcome : List PlainOpenText → List (List ℕ) → SoFar → Outcome → Type 0
LeadToOutcome [] reading before o = o ≡ gives before
LeadToOutcome (p ∷ ps) reading before o =
    (q : Outcome) × Reads p.mode reading before p.rest q ×
    Comes p.ending (λ after. LeadToOutcome ps (names_behind p.of_entity reading) after o) q o

-- how much may still be read
abbrev pub room_of : List PlainOpenText → ℕ
room_of [] = 0
room_of (p ∷ ps) = suc (length p.rest) + room_of ps

abbrev pub work_left : List PlainOpenText → SoFar → ℕ
work_left ps before = (MAX_REFERENCES - before.references) * (MAX_PLACED + 2) + room_of ps

-- ---- the program's values
abbrev pub plain_so_far : State → SoFar
plain_so_far s = record {
  declared = s.declared;
  references = s.references;
  placed = s.placed;
  result = s.result.items;
}

abbrev pub plain_ending : TextEnding → EndOfText
plain_ending Nothing = closes []
plain_ending Space = closes (codes " ")
plain_ending Bracket = closes (codes ">")
plain_ending (Declares name result) = declares name.items result.items

abbrev pub plain_open_text : OpenText → PlainOpenText
plain_open_text p = record {
  mode = plain_mode p.mode;
  of_entity = p.of_entity;
  rest = drop (length p.text.items - p.left) p.text.items;
  ending = plain_ending p.ending;
}

-- the innermost first, which the program keeps last
abbrev pub stacked_on : List OpenText → List PlainOpenText → List PlainOpenText
stacked_on [] others = others
stacked_on (p ∷ ps) others = stacked_on ps (plain_open_text p ∷ others)

abbrev pub stacked : List OpenText → List PlainOpenText
stacked ps = stacked_on ps []

abbrev pub mode_behind : TextItem → Mode → Mode
mode_behind (puts bytes) mode = mode
mode_behind (reference name) mode = mode
mode_behind (parameter name given) mode = behind_parameter mode
mode_behind (declaration word held) mode = mode

-- This text is read within, wherever the item stands, and after its end the names are those that
-- they were.
pub record OpensAt (mode : Mode) (reading : List (List ℕ)) (before : SoFar) (i : TextItem)
    (p : PlainOpenText) (reading_within : List (List ℕ)) (after : SoFar) : Type 0 where
  pub opens : (rest more : List ℕ) → StandsAt mode rest i more →
      Opens mode reading before rest record {
        mode = p.mode;
        reading = reading_within;
        before = after;
        text = p.rest;
        ending = p.ending;
        mode_behind = mode_behind i mode;
        behind = more;
      }
  pub names : names_behind p.of_entity reading_within ≡ reading

-- What is done with an item: bytes are put, or a text is read within.
abbrev pub Handles : Mode → List (List ℕ) → SoFar → TextItem → Option PlainOpenText →
    List (List ℕ) →
    SoFar → Type 0
Handles mode reading before (puts bytes) None names after =
    (after ≡ put bytes before) × (names ≡ reading)
Handles mode reading before (puts bytes) (Some p) names after = ⊥
Handles mode reading before i None names after = ⊥
Handles mode reading before i (Some p) names after = OpensAt mode reading before i p names after

-- where an item stands, reading stops with this fault
abbrev pub StopsAt : Mode → List (List ℕ) → SoFar → TextItem → Fault → Type 0
StopsAt mode reading before i fault = (rest more : List ℕ) → StandsAt mode rest i more →
    Stops mode reading before rest (meets fault)

-- whatever these texts lead to, the file has that expansion
abbrev pub LeadToExpansion : List ℕ → List PlainOpenText → List (List ℕ) → SoFar → Type 0
LeadToExpansion bytes ps reading before =
    (o : Outcome) → LeadToOutcome ps reading before o → Expands bytes (expansion_of o)
