-- Names, characters, comments and processing instructions, read from the left.
use Rattle.std.specs.Prelude.{ℕ, zero, suc, ◌-◌, List, [], ◌∷◌, length, codes, Bool, false, true}
use Rattle.std.specs.Prelude.{◌&&◌, not, if◌then◌else◌, ◌||◌, nat_eq, unwrap_or, map, Option, Some}
use Rattle.std.specs.Prelude.{None}
use Rattle.std.specs.List.{list_all}
use Rattle.std.specs.Char.{to_ascii_lowercase, is_ascii_digit}
use Rattle.std.specs.Str.{bytes_eq}
use Rattle.pv_chars.specs.Spaces.{is_space}
use Rattle.pv_chars.specs.Characters.{is_char, is_name_start, is_name_char}
use Rattle.pv_chars.specs.Scan.{◌>>=◌, after_bytes, after_blank, after_space, split}
use Rattle.pv_chars.specs.Declarations.{is_quote}
use Rattle.pv_chars.specs.Utf8.{char_at}

abbrev pub behind_char : (ℕ → Bool) → (List ℕ → List ℕ) → List ℕ → Option (ℕ × List ℕ) → List ℕ
behind_char test more bytes None = bytes
behind_char test more bytes (Some c) = if test c.0 then more c.1 else bytes

-- what stands after the characters at the front that pass the test, in at most so many steps
unfoldable pub behind_all : (ℕ → Bool) → ℕ → List ℕ → List ℕ
behind_all test zero bytes = bytes
behind_all test (suc steps) bytes = behind_char test (behind_all test steps) bytes (char_at bytes)

abbrev pub is_nothing : List ℕ → Bool
is_nothing [] = true
is_nothing (b ∷ bs) = false

-- the bytes are Chars
unfoldable pub is_chars : List ℕ → Bool
is_chars bytes = is_nothing (behind_all is_char (length bytes) bytes)

abbrev pub name_by : List ℕ → Option (ℕ × List ℕ) → Option (List ℕ × List ℕ)
name_by bytes None = None
name_by bytes (Some c) =
    if is_name_start c.0
    then Some (split (length bytes - length (behind_all is_name_char (length c.1) c.1)) bytes)
    else None

-- the longest name at the front, and what stands after it
unfoldable pub name_at : List ℕ → Option (List ℕ × List ℕ)
name_at bytes = name_by bytes (char_at bytes)

abbrev pub up_to_by : ℕ → Option (List ℕ × List ℕ) → Option (List ℕ) → Option (List ℕ × List ℕ)
up_to_by b later (Some rest) = Some ([], rest)
up_to_by b later None = later >>= λ ends. Some (b ∷ ends.0, ends.1)

-- what stands before the first place of the delimiter, and what stands after it
unfoldable pub up_to : List ℕ → List ℕ → Option (List ℕ × List ℕ)
up_to delimiter [] = None
up_to delimiter (b ∷ bs) = up_to_by b (up_to delimiter bs) (after_bytes delimiter (b ∷ bs))

-- what stands after the comment in front
unfoldable pub comment_at : List ℕ → Option (List ℕ)
comment_at bytes = do
  inside ← after_bytes (codes "<!--") bytes
  ends ← up_to (codes "--") inside
  if is_chars ends.0 then after_bytes (codes ">") ends.1 else None

-- nothing, or white space and Chars
abbrev pub may_follow_target : List ℕ → Bool
may_follow_target [] = true
may_follow_target (b ∷ bs) = is_space b && is_chars bs

abbrev pub is_xml : List ℕ → Bool
is_xml target = bytes_eq (map to_ascii_lowercase target) (codes "xml")

-- what stands after the processing instruction in front
unfoldable pub instruction_at : List ℕ → Option (List ℕ)
instruction_at bytes = do
  start ← after_bytes (codes "<?") bytes
  target ← name_at start
  ends ← up_to (codes "?>") target.1
  if not (is_xml target.0) && may_follow_target ends.0 then Some ends.1 else None

-- a value in quotes, and what stands after it
unfoldable pub quoted_at : List ℕ → Option (List ℕ × List ℕ)
quoted_at [] = None
quoted_at (b ∷ bs) = if is_quote b then up_to (b ∷ []) bs else None

-- the value of the part of a declaration with this word, and what stands after it
unfoldable pub declaration_part_at : List ℕ → List ℕ → Option (List ℕ × List ℕ)
declaration_part_at word bytes = do
  start ← after_blank bytes
  named ← after_bytes word start
  valued ← after_bytes (codes "=") (after_space named)
  quoted_at (after_space valued)

-- what stands after such a part whose value passes the test
unfoldable pub valued_at : List ℕ → (List ℕ → Bool) → List ℕ → Option (List ℕ)
valued_at word is_value bytes = do
  found ← declaration_part_at word bytes
  if is_value found.0 then Some found.1 else None

abbrev pub version_by : Option (List ℕ) → Bool
version_by None = false
version_by (Some digits) = not (is_nothing digits) && list_all is_ascii_digit digits

abbrev pub is_version_num : List ℕ → Bool
is_version_num value = version_by (after_bytes (codes "1.") value)

abbrev pub is_enc_name : List ℕ → Bool
is_enc_name value = bytes_eq (map to_ascii_lowercase value) (codes "utf-8") ||
    bytes_eq (map to_ascii_lowercase value) (codes "us-ascii")

abbrev pub is_yes_or_no : List ℕ → Bool
is_yes_or_no value = bytes_eq value (codes "yes") || bytes_eq value (codes "no")

-- what stands after a part, which may be left out
abbrev pub passed : List ℕ → (List ℕ → Bool) → List ℕ → List ℕ
passed word is_value bytes = unwrap_or (valued_at word is_value bytes) bytes

abbrev pub ended_at : List ℕ → List ℕ → Option (List ℕ)
ended_at start end =
    if nat_eq (length end) (length start) then None else after_bytes (codes "?>") (after_space end)

-- what stands after the text declaration in front
unfoldable pub text_declaration_at : List ℕ → Option (List ℕ)
text_declaration_at bytes = do
  start ← after_bytes (codes "<?xml") bytes
  ended_at start (passed (codes "standalone") is_yes_or_no
      (passed (codes "encoding") is_enc_name (passed (codes "version") is_version_num start)))
