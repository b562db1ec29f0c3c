-- Content models and items, read from the left.
use Rattle.std.specs.Prelude.{ℕ, zero, suc, ◌+◌, ◌-◌, List, [], ◌∷◌, length, take, codes, Bool}
use Rattle.std.specs.Prelude.{false, ◌==◌, ◌||◌, nat_lt, if◌then◌else◌, is_some, Option, Some}
use Rattle.std.specs.Prelude.{None}
use Rattle.pv_chars.specs.Spaces.{is_space}
use Rattle.pv_chars.specs.Scan.{◌>>=◌, after_space, after_blank, after_bytes}
use Rattle.pv_chars.specs.CharReading.{name_at, comment_at, instruction_at, text_declaration_at}
use Rattle.pv_chars.specs.CharReading.{is_chars}
use Rattle.pv_dtd.specs.Facts.{MAX_NESTING}
use Rattle.pv_dtd.specs.Items.{NamedModel, empty, any, mixed, children, DtdItem, text_declaration}
use Rattle.pv_dtd.specs.Items.{element, skipped, comment, instruction}
use Rattle.pv_chars.specs.Declarations.{is_quote}
use Rattle.pv_chars.specs.Declarations.{is_one_of}
use Rattle.pv_dtd.specs.Kinds.{Kind, parameter, nesting, twice, mixed_twice, limit, declares_again}
use Rattle.pv_dtd.specs.Kinds.{lists_twice, passes_limit}
use Rattle.pv_dtd.specs.PartReading.{Reader, particle_at}

-- the one, or the other where it fails
unfoldable pub or_else : {A : Type 0} → Option A → Option A → Option A
or_else (Some x) other = Some x
or_else None other = other

-- a listed name and the others, where '|' stood in front, and else nothing more
abbrev pub names_after_bar : Reader (List (List ℕ)) → List ℕ → Option (List ℕ) →
    Option (List (List ℕ) × List ℕ)
names_after_bar others place None = Some ([], place)
names_after_bar others place (Some after) = do
  name ← name_at (after_space after)
  more ← others name.1
  Some (name.0 ∷ more.0, more.1)

-- (S? '|' S? Name)* S?, in at most so many steps
unfoldable pub listed_at : ℕ → Reader (List (List ℕ))
listed_at zero bytes = None
listed_at (suc steps) bytes = names_after_bar (listed_at steps) (after_space bytes)
    (after_bytes (codes "|") (after_space bytes))

-- what stands after the end of a mixed model; a model that lists no name may stand without its
-- '*'
abbrev pub after_end : List (List ℕ) → List ℕ → Option (List ℕ) → Option (List ℕ)
after_end names close (Some after) = Some after
after_end [] close None = Some close
after_end (n ∷ ns) close None = None

-- a mixed model after its #PCDATA
unfoldable pub mixed_at : Reader NamedModel
mixed_at bytes = do
  listed ← listed_at (suc (length bytes)) bytes
  close ← after_bytes (codes ")") listed.1
  rest ← after_end listed.0 close (after_bytes (codes "*") close)
  Some (mixed listed.0, rest)

unfoldable pub children_at : Reader NamedModel
children_at bytes = do
  p ← particle_at MAX_NESTING bytes
  Some (children p.0, p.1)

-- a mixed model where #PCDATA stood in front, and else a content particle
abbrev pub group_by : List ℕ → Option (List ℕ) → Option (NamedModel × List ℕ)
group_by bytes (Some rest) = mixed_at rest
group_by bytes None = children_at bytes

unfoldable pub group_model_at : Reader NamedModel
group_model_at bytes = do
  inside ← after_bytes (codes "(") bytes
  group_by bytes (after_bytes (codes "#PCDATA") (after_space inside))

-- one of these words, and else a group
abbrev pub model_by : List ℕ → Option (List ℕ) → Option (List ℕ) → Option (NamedModel × List ℕ)
model_by bytes (Some rest) other = Some (empty, rest)
model_by bytes None (Some rest) = Some (any, rest)
model_by bytes None None = group_model_at bytes

unfoldable pub model_at : Reader NamedModel
model_at bytes =
    model_by bytes (after_bytes (codes "EMPTY") bytes) (after_bytes (codes "ANY") bytes)

unfoldable pub element_at : Reader DtdItem
element_at bytes = do
  blank ← after_bytes (codes "<!ELEMENT") bytes
  start ← after_blank blank
  name ← name_at start
  spec ← after_blank name.1
  model ← model_at spec
  rest ← after_bytes (codes ">") (after_space model.1)
  Some (element name.0 model.0, rest)

unfoldable pub skipped_word : List ℕ → Option (List ℕ)
skipped_word bytes = or_else (after_bytes (codes "<!ATTLIST") bytes)
    (or_else (after_bytes (codes "<!ENTITY") bytes) (after_bytes (codes "<!NOTATION") bytes))

-- The bytes before the first byte outside quotes that stops, that byte, and what stands after it;
-- inside a literal, where its quote is given.
abbrev pub stop_at : (ℕ → Bool) → Option ℕ → List ℕ → Option (ℕ × List ℕ)
stop_at stops None [] = None
stop_at stops None (b ∷ bs) =
    if is_quote b then stop_at stops (Some b) bs
    else if stops b then Some (b, bs)
    else stop_at stops None bs
stop_at stops (Some quote) [] = None
stop_at stops (Some quote) (b ∷ bs) =
    if b == quote then stop_at stops None bs else stop_at stops (Some quote) bs

-- what stands after the first of these bytes outside quotes, where it is this one
unfoldable pub where_it_is : ℕ → ℕ × List ℕ → Option (List ℕ)
where_it_is byte stop = if stop.0 == byte then Some stop.1 else None

abbrev pub after_stop : ℕ → List ℕ → List ℕ → Option (List ℕ)
after_stop byte stops bytes = stop_at (is_one_of stops) None bytes >>= where_it_is byte

-- what stands after one byte of white space
unfoldable pub after_white : List ℕ → Option (List ℕ)
after_white [] = None
after_white (b ∷ bs) = if is_space b then Some bs else None

-- the rest, where what stands before it and one byte are Chars
unfoldable pub behind_chars : List ℕ → List ℕ → Option (List ℕ)
behind_chars bytes rest =
    if is_chars (take (length bytes - suc (length rest)) bytes) then Some rest else None

unfoldable pub skipped_at : List ℕ → Option (List ℕ)
skipped_at bytes = do
  blank ← skipped_word bytes
  inside ← after_white blank
  rest ← after_stop 62 (codes ">%<") inside
  behind_chars inside rest

-- an item and what stands after it
unfoldable pub read_as : DtdItem → Option (List ℕ) → Option (DtdItem × List ℕ)
read_as i (Some rest) = Some (i, rest)
read_as i None = None

-- a text declaration, where this is the front
unfoldable pub front_at : Bool → List ℕ → Option (List ℕ)
front_at front bytes = if front then text_declaration_at bytes else None

-- the item in front, and what stands after it
unfoldable pub item_at : Bool → List ℕ → Option (DtdItem × List ℕ)
item_at front bytes =
    or_else (read_as text_declaration (front_at front bytes))
    (or_else (read_as skipped (skipped_at bytes))
    (or_else (read_as comment (comment_at bytes))
    (or_else (read_as instruction (instruction_at bytes)) (element_at bytes))))

-- what stands after the word of a declaration
unfoldable pub declaration_word : List ℕ → Option (List ℕ)
declaration_word bytes = or_else (after_bytes (codes "<!ELEMENT") bytes) (skipped_word bytes)

-- what stands after a '%' in a declaration
unfoldable pub inner_parameter_at : List ℕ → Option (List ℕ)
inner_parameter_at bytes = do
  inside ← declaration_word bytes
  after_stop 37 (codes ">%") inside

-- what stands after what makes a fault of the first kind
unfoldable pub parameter_at : List ℕ → Option (List ℕ)
parameter_at bytes = or_else (after_bytes (codes "%") bytes)
    (or_else (after_bytes (codes "<![") bytes) (inner_parameter_at bytes))

-- more than 64 parentheses open before the first '>', where so many were opened and closed before
abbrev pub opens_too_many : ℕ → ℕ → List ℕ → Bool
opens_too_many opened closed [] = nat_lt (MAX_NESTING + closed) opened
opens_too_many opened closed (b ∷ bs) =
    nat_lt (MAX_NESTING + closed) opened ||
    (if b == 62 then false
    else opens_too_many (if b == 40 then suc opened else opened)
    (if b == 41 then suc closed else closed) bs)

abbrev pub too_many_by : Option (List ℕ) → Bool
too_many_by (Some inside) = opens_too_many 0 0 inside
too_many_by None = false

unfoldable pub is_too_deep : List ℕ → Bool
is_too_deep place = too_many_by (after_bytes (codes "<!ELEMENT") place)

-- the kind of fault at a place that is found before an item is read there
unfoldable pub early_kind : List ℕ → Option Kind
early_kind place =
    if is_some (parameter_at place) then Some parameter
    else if is_too_deep place then Some nesting
    else None

-- the first rule that an item breaks where these names are declared, with so many parts
unfoldable pub broken_rule : List (List ℕ) → ℕ → DtdItem → Option Kind
broken_rule declared parts i =
    if declares_again declared i then Some twice
    else if lists_twice i then Some mixed_twice
    else if passes_limit declared parts i then Some limit
    else None
