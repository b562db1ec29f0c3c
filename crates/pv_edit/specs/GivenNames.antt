-- The names and texts that an edit brings.
use Rattle.std.specs.Prelude.{ℕ, ◌-◌, Bool, true, false, not, ◌&&◌, ◌||◌, ◌==◌, List, [], ◌∷◌, ◌++◌}
use Rattle.std.specs.Prelude.{length, take, drop, codes}
use Rattle.std.specs.List.{list_all, list_any}
use Rattle.std.specs.Char.{is_digit}
use Rattle.std.specs.Str.{bytes_eq, chars, is_utf8}
use Rattle.pv_chars.specs.Characters.{is_char}
use Rattle.pv_chars.specs.Names.{is_name}
use Rattle.pv_chars.specs.References.{number}
use Rattle.pv_chars.specs.Texts.{joined, holds_close_mark}
use Rattle.pv_chars.specs.Units.{is_literal, units_in}

-- a name that an element may be given
abbrev pub is_new_name : List ℕ → Bool
is_new_name name = is_name name

abbrev pub is_some_bytes : List ℕ → Bool
is_some_bytes [] = false
is_some_bytes (b ∷ bs) = true

abbrev pub is_one_literal : List ℕ → Bool
is_one_literal (c ∷ []) = is_literal c
is_one_literal cs = false

-- what stands between a front and the last byte
abbrev pub inner_part : List ℕ → List ℕ → List ℕ
inner_part front bytes = take (length bytes - length front - 1) (drop (length front) bytes)

-- digits in this base that write the code point of a Char
abbrev pub are_char_digits : ℕ → List ℕ → Bool
are_char_digits base digits =
    is_some_bytes digits && list_all (λ d. is_digit d base) digits && is_char (number base digits)

-- a reference by digits in this base after this front
abbrev pub is_char_ref_in : ℕ → List ℕ → List ℕ → Bool
is_char_ref_in base front bytes =
    are_char_digits base (inner_part front bytes) &&
    bytes_eq bytes (front ++ (inner_part front bytes ++ codes ";"))

-- a unit, as a test: one literal character, a reference by decimal or hexadecimal digits, or one to
-- a name that needs no declaration
abbrev pub is_unit : List ℕ → Bool
is_unit bytes =
    (is_utf8 bytes && is_one_literal (chars bytes)) ||
    (is_char_ref_in 10 (codes "&#") bytes || (is_char_ref_in 16 (codes "&#x") bytes
    || list_any (bytes_eq bytes) (codes "&lt;" ∷ codes "&gt;" ∷ codes "&amp;" ∷ codes "&apos;" ∷
    codes "&quot;" ∷ [])))

-- the bytes are units, at least one, and no `]]>` stands among them
abbrev pub is_character_data : List ℕ → Bool
is_character_data bytes =
    is_some_bytes bytes && list_all is_unit (units_in bytes) &&
    bytes_eq (joined (units_in bytes)) bytes && not (holds_close_mark (units_in bytes))

-- a literal CR or LF
abbrev pub is_line_end : ℕ → Bool
is_line_end b = (b == 13) || (b == 10)

-- a text that may be put into a document: character data with no literal line end
abbrev pub is_new_text : List ℕ → Bool
is_new_text bytes = is_character_data bytes && not (list_any is_line_end bytes)

-- the units of a new text
abbrev pub new_units : List ℕ → List (List ℕ)
new_units bytes = units_in bytes
