-- What a table of columns tells, and rows for the members of sequences.
use Rattle.std.specs.Prelude.{Bool, List, None, Option, Some, cond, false, get_or, length, nat_eq}
use Rattle.std.specs.Prelude.{suc}
use Rattle.std.specs.Prelude.{ℕ, ◌*◌, ◌+◌, ◌≡◌, ◌≤◌}
use Rattle.pv_model.specs.Plain.{PlainParts, no_parts, part}
use Rattle.pv_model.specs.declared.models.Token.{Token}
use Rattle.pv_model.specs.declared.models.Token.TheVariants.{Name, Other, Text}
use Rattle.pv_dtd.specs.Plain.{PlainDtd, parts_in_models}
use Rattle.pv_rules.specs.Numbering.{rest_at}
use Rattle.pv_reach.specs.Columns.{member_columns}
use Rattle.pv_reach.specs.Merging.{column_head, column_heads}
use Rattle.pv_reach.specs.Tables.{cell_at, past}
use Rattle.pv_reach.specs.declared.tables.ends.Ends.{Ends}

-- one past the furthest place of a column, by the one that stands for it; 0 where it reaches none
abbrev pub past_column : Ends → ℕ → ℕ → ℕ
past_column e c i = cell_at e.width e.table.items (column_head e.heads.items c) i

-- whether a token stands there and is an element of the name
abbrev pub is_of_name : Option Token → ℕ → Bool
is_of_name None x = false
is_of_name (Some (Name id)) x = nat_eq id.0 x
is_of_name (Some Text) x = false
is_of_name (Some Other) x = false

-- one past the place after a token of this name, where it stands at place i, or 0
abbrev pub kept_past : Option Token → ℕ → ℕ → ℕ
kept_past t x i = cond (is_of_name t x) (suc (suc i)) 0

-- what stands in the row of a part at a place
abbrev pub past_rest : Ends → List ℕ → ℕ → ℕ → ℕ
past_rest e rests q i = get_or rests (q * suc (length e.word.items) + i) 0

-- where the members of a sequence lead, one after another; nowhere if there are none
abbrev pub past_members : PlainDtd → Ends → ℕ → PlainParts → ℕ → ℕ
past_members g e q no_parts i = 0
past_members g e q (part p ps) i =
    past e.width e.table.items (column_heads e.heads.items (member_columns g q (part p ps))) i

-- a row for each part; those from a number on have, for members of sequences, where that member and
-- those after it lead
pub record AreRests (g : PlainDtd) (e : Ends) (rests : List ℕ) (from : ℕ) : Type 0 where
  pub long : length rests ≡ parts_in_models g.models * suc (length e.word.items)
  pub holds : (q i : ℕ) (ps : PlainParts) → from ≤ q → rest_at g q ≡ Some ps →
      i ≤ length e.word.items → past_rest e rests q i ≡ past_members g e q ps i
