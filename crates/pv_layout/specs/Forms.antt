-- What stands in a column of a chart: sites that stand for the same words share one.
use Rattle.std.specs.Prelude.{Bool, List, slice_index_or, ℕ}

-- what stands in a column; other columns are told by their numbers
pub data PlainForm : Type 0 where
  -- nothing
  of_none : PlainForm
  -- an element of a name: itself, or missing round what the second column stands for
  of_element : ℕ → ℕ → PlainForm
  -- no tokens
  of_nothing : PlainForm
  -- one of these columns
  of_one : List ℕ → PlainForm
  -- one of a column, or nothing
  of_opt : ℕ → PlainForm
  -- any number of a column; with the flag, texts stand among them
  of_star : ℕ → Bool → PlainForm
  -- one of a column, or more
  of_plus : ℕ → PlainForm
  -- one column, and another after it
  of_two : ℕ → ℕ → PlainForm

-- what stands in the column of this number, or nothing where there is none
abbrev pub form_at : List PlainForm → ℕ → PlainForm
form_at forms c = slice_index_or forms c of_none
