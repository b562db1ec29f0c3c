-- Items, read from the left.
use Rattle.std.specs.Prelude.{ℕ, zero, suc, ◌-◌, List, [], ◌∷◌, length, take, codes}
use Rattle.std.specs.Prelude.{encode_utf8, Bool, ◌&&◌, not, if◌then◌else◌, Option}
use Rattle.std.specs.Prelude.{Some, None}
use Rattle.std.specs.Char.{is_digit}
use Rattle.pv_chars.specs.Spaces.{is_space, begins}
use Rattle.pv_chars.specs.Characters.{is_char}
use Rattle.pv_chars.specs.References.{number}
use Rattle.pv_chars.specs.Scan.{◌>>=◌, after_space, after_blank, after_bytes}
use Rattle.pv_params.specs.Items.{Mode, file, between, inside, value, TextItem, puts, reference}
use Rattle.pv_params.specs.Items.{parameter, declaration}
use Rattle.pv_chars.specs.Declarations.{is_one_of}
use Rattle.pv_chars.specs.CharReading.{name_at, comment_at, instruction_at, quoted_at, is_chars}
use Rattle.pv_chars.specs.CharReading.{is_nothing}

-- an item, and what stands after it
abbrev pub ItemReader : Type 0
ItemReader = List ℕ → Option (TextItem × List ℕ)

-- the one, or the other where it fails
unfoldable pub or_else : {A : Type 0} → Option A → Option A → Option A
or_else (Some x) other = Some x
or_else None other = other

abbrev pub behind_by : (List ℕ → List ℕ) → List ℕ → Option (TextItem × List ℕ) → List ℕ
behind_by more bytes None = bytes
behind_by more bytes (Some x) = more x.1

-- what stands after all items at the front, in at most so many steps
unfoldable pub behind_items : ItemReader → ℕ → List ℕ → List ℕ
behind_items at zero bytes = bytes
behind_items at (suc steps) bytes = behind_by (behind_items at steps) bytes (at bytes)

-- what stands before this rest
abbrev pub front_of : List ℕ → List ℕ → List ℕ
front_of bytes rest = take (length bytes - length rest) bytes

-- what is copied, where this stands after it
unfoldable pub copy_up_to : List ℕ → Option (List ℕ) → Option (TextItem × List ℕ)
copy_up_to bytes None = None
copy_up_to bytes (Some rest) = Some (puts (front_of bytes rest), rest)

-- one byte that is none of these, one byte that passes the test
unfoldable pub byte_at : List ℕ → ItemReader
byte_at others [] = None
byte_at others (b ∷ bs) = if is_one_of others b then None else Some (puts (b ∷ []), bs)

unfoldable pub white_at : ItemReader
white_at [] = None
white_at (b ∷ bs) = if is_space b then Some (puts (b ∷ []), bs) else None

unfoldable pub literal_at : List ℕ → Option (List ℕ)
literal_at bytes = quoted_at bytes >>= λ r. Some r.1

-- what is between this byte and `;`, where it is a name
unfoldable pub named_at : ℕ → List ℕ → Option (List ℕ × List ℕ)
named_at byte bytes = do
  start ← after_bytes (byte ∷ []) bytes
  name ← name_at start
  rest ← after_bytes (codes ";") name.1
  Some (name.0, rest)

unfoldable pub reference_at : ItemReader
reference_at bytes = named_at 37 bytes >>= λ r. Some (reference r.0, r.1)

unfoldable pub inside_at : ItemReader
inside_at bytes = or_else (byte_at (codes
    "<>%'\"") bytes) (or_else (copy_up_to bytes (literal_at bytes)) (reference_at bytes))

-- as many digits as stand at the front, and the rest
unfoldable pub digits_at : ℕ → List ℕ → List ℕ × List ℕ
digits_at base [] = ([], [])
digits_at base (b ∷ bs) = if is_digit b base then (b ∷ (digits_at base bs).0, (digits_at base bs).1)
    else ([], b ∷ bs)

unfoldable pub ended_by : ℕ → List ℕ × List ℕ → Option (TextItem × List ℕ)
ended_by base digits =
    if not (is_nothing digits.0) && is_char (number base digits.0) then (after_bytes (codes ";")
    digits.1 >>= λ rest. Some (puts (encode_utf8 (number base digits.0)), rest)) else None

unfoldable pub character_at : ℕ → List ℕ → ItemReader
character_at base front bytes = after_bytes front bytes >>=
    λ start. ended_by base (digits_at base start)

unfoldable pub general_at : List ℕ → Option (List ℕ)
general_at bytes = named_at 38 bytes >>= λ r. Some r.1

unfoldable pub value_at : ItemReader
value_at bytes =
    or_else (byte_at (codes "%&") bytes) (or_else (copy_up_to bytes (general_at bytes)) (or_else
    (character_at 10 (codes "&#") bytes) (or_else (character_at 16 (codes "&#x") bytes)
    (reference_at bytes))))

-- the whole text is read by items
abbrev pub are_items : ItemReader → List ℕ → Bool
are_items at text = is_nothing (behind_items at (length text) text)

unfoldable pub is_inside : List ℕ → Bool
is_inside text = is_chars text && are_items inside_at text

unfoldable pub is_value : List ℕ → Bool
is_value text = is_chars text && are_items value_at text

-- what stands after the '%' of a parameter declaration: its name, and the rest after the white
-- space there
unfoldable pub parameter_named : List ℕ → Option (List ℕ × List ℕ)
parameter_named bytes = do
  blank ← after_bytes (codes "<!ENTITY") bytes
  percent ← after_blank blank
  after ← after_bytes (codes "%") percent
  start ← after_blank after
  name ← name_at start
  rest ← after_blank name.1
  Some (name.0, rest)

-- the value of a parameter declaration, and what stands after the declaration
unfoldable pub parameter_given : List ℕ → Option (List ℕ × List ℕ)
parameter_given bytes = do
  given ← quoted_at bytes
  rest ← after_bytes (codes ">") (after_space given.1)
  if is_value given.0 then Some (given.0, rest) else None

unfoldable pub parameter_at : ItemReader
parameter_at bytes = do
  named ← parameter_named bytes
  given ← parameter_given named.1
  Some (parameter named.0 given.0, given.1)

abbrev pub with_word : List ℕ → Option (List ℕ) → Option (List ℕ × List ℕ)
with_word word None = None
with_word word (Some rest) = Some (word, rest)

unfoldable pub keyword_at : List ℕ → Option (List ℕ × List ℕ)
keyword_at bytes =
    or_else (with_word (codes "<!ELEMENT") (after_bytes (codes "<!ELEMENT") bytes)) (or_else
    (with_word (codes "<!ATTLIST") (after_bytes (codes "<!ATTLIST") bytes))
    (or_else (with_word (codes "<!ENTITY") (after_bytes (codes "<!ENTITY") bytes)) (with_word (codes
    "<!NOTATION") (after_bytes (codes "<!NOTATION") bytes))))

-- what a declaration holds after its word, and what stands after it
unfoldable pub held_by : List ℕ → List ℕ → Option (List ℕ × List ℕ)
held_by held end = if begins is_space held && is_chars held then (after_bytes (codes ">") end >>=
    λ rest. Some (held, rest)) else None

unfoldable pub held_at : List ℕ → Option (List ℕ × List ℕ)
held_at bytes = held_by (front_of bytes (behind_items inside_at (length bytes) bytes)) (behind_items
    inside_at (length bytes) bytes)

unfoldable pub declaration_at : ItemReader
declaration_at bytes = do
  word ← keyword_at bytes
  held ← held_at word.1
  Some (declaration word.0 held.0, held.1)

unfoldable pub between_at : ItemReader
between_at bytes =
    or_else (white_at bytes) (or_else (copy_up_to bytes (comment_at bytes))
    (or_else (copy_up_to bytes (instruction_at bytes)) (or_else (reference_at bytes)
    (or_else (declaration_at bytes) (parameter_at bytes)))))

unfoldable pub item_at : Mode → ItemReader
item_at (file after_parameter) = between_at
item_at between = between_at
item_at inside = inside_at
item_at value = value_at

-- ---- what is refused by its front
unfoldable pub external_word : List ℕ → Option (List ℕ)
external_word bytes = or_else (after_bytes (codes "SYSTEM") bytes) (after_bytes (codes "PUBLIC")
    bytes)

unfoldable pub external_at : List ℕ → Option (List ℕ)
external_at bytes = parameter_named bytes >>= λ named. external_word named.1
