-- Texts of valid documents whose lists can all have verdicts.
use Rattle.std.specs.Prelude.{◌≡◌, List, length, ℕ}
use Rattle.std.specs.List.{AllByRecursion}
use Rattle.pv_dtd.specs.Plain.{PlainDtd, number_of}
use Rattle.pv_lists.specs.Judgements.{Judgement}
use Rattle.pv_missing.specs.Widths.{FitsVerdict, IsListForVerdict}
use Rattle.pv_read.specs.Grammar.{IsDocumentText}
use Rattle.pv_tree.specs.Lists.{IsOwnValid, IsValidList, Listed, lists_of}
use Rattle.pv_tree.specs.Plain.{Forest, PlainDoc}
use Rattle.pv_tree.specs.Words.{word_of}
use Rattle.pv_tree.specs.declared.nodes.Mark.{Mark}

-- the list is valid by itself, and not too wide for a verdict
abbrev pub IsValidNarrow : {M : Type 0} → PlainDtd → List ℕ → Listed M → Type 0
IsValidNarrow g root list = IsValidList g root list × IsListForVerdict g list

-- and so is that of these kids in an element of this name
abbrev pub IsValidContent : {M : Type 0} → PlainDtd → List ℕ → Forest M → Type 0
IsValidContent g name kids =
    IsOwnValid g (number_of g name) kids × FitsVerdict g (length (word_of g kids))

-- and that of a root of this name in the document node
abbrev pub IsValidRoot : PlainDtd → List ℕ → List ℕ → Type 0
IsValidRoot g root name = (name ≡ root) × FitsVerdict g 1

-- by this DTD each list is so that was read
abbrev pub valid_lists_by : {B F : Type 0} → PlainDtd → Judgement B F
valid_lists_by g = record {
  dtd = g;
  finds = λ root lists found. AllByRecursion (IsValidNarrow g root) lists;
  notes = λ root lists note. Unit {0};
}

-- The bytes are the text of a document, each of whose lists is so.
pub record IsValidText (g : PlainDtd) (root bytes : List ℕ) : Type 0 where
  pub doc : PlainDoc Mark
  pub is_text : IsDocumentText root bytes doc
  pub lists : AllByRecursion (IsValidNarrow g root) (lists_of doc)
