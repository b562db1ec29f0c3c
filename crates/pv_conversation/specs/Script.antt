-- The lines of a script up to its limits.
use Rattle.std.specs.Prelude.{◌≡◌, ◌≤◌, ℕ, suc, Bool, false, nat_lt, List, [], ◌∷◌, length, map}
use Rattle.std.specs.Prelude.{take, if◌then◌else◌}
use Rattle.std.specs.List.{list_any}
use Rattle.pv_words.specs.Lines.{ended_raw_lines, raw_lines_of, without_returns}
use Rattle.pv_script.specs.TakenLines.{MAX_LINE_BYTES}

abbrev pub MAX_SCRIPT_BYTES : ℕ
MAX_SCRIPT_BYTES = 268435456

abbrev pub is_line_too_long : List ℕ → Bool
is_line_too_long piece = nat_lt MAX_LINE_BYTES (length piece)

-- the pieces before the first that is too long
abbrev pub before_too_long : List (List ℕ) → List (List ℕ)
before_too_long [] = []
before_too_long (piece ∷ pieces) =
    if is_line_too_long piece then [] else piece ∷ before_too_long pieces

-- the lines that an LF ends before a limit is passed
abbrev pub lines_within : List ℕ → List (List ℕ)
lines_within script = map without_returns
    (before_too_long (ended_raw_lines (take MAX_SCRIPT_BYTES script)))

-- a line is too long, at the first byte past the limit on the script at the latest
abbrev pub has_long_line : List ℕ → Bool
has_long_line script = list_any is_line_too_long (raw_lines_of (take (suc MAX_SCRIPT_BYTES) script))

-- no limit is passed
pub record IsWithin (script : List ℕ) : Type 0 where
  pub lines : has_long_line script ≡ false
  pub whole : length script ≤ MAX_SCRIPT_BYTES
