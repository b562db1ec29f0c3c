-- Bytes that are items of a mode by themselves, and are copied.
use Rattle.std.specs.Prelude.{◌≡◌, ℕ, not, Bool, List, ◌++◌, codes, IsTrue}
use Rattle.std.specs.List.{list_all}
use Rattle.pv_chars.specs.Spaces.{is_space}
use Rattle.pv_chars.specs.Declarations.{is_one_of}
use Rattle.pv_params.specs.Items.{Mode, file, between, inside, value}

abbrev pub is_plain : Mode → ℕ → Bool
is_plain (file after_parameter) b = is_space b
is_plain between b = is_space b
is_plain inside b = not (is_one_of (codes "<>%'\"") b)
is_plain value b = not (is_one_of (codes "%&") b)

-- a run of such bytes stands at the front, and this stands after it
pub record IsBehindRun (mode : Mode) (bytes rest : List ℕ) : Type 0 where
  pub run : List ℕ
  pub are_plain : IsTrue (list_all (is_plain mode) run)
  pub whole : bytes ≡ run ++ rest
