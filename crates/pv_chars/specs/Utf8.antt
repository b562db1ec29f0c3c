-- How the code point at the front of some bytes is read.
use Rattle.std.specs.Prelude.{ℕ, ◌+◌, ◌-◌, ◌*◌, Bool, ◌&&◌, ◌||◌, nat_le, nat_lt, List, [], ◌∷◌}
use Rattle.std.specs.Prelude.{Option, Some, None, if◌then◌else◌}

-- a byte that continues a code point
abbrev pub continues : ℕ → Bool
continues b = nat_le 0x80 b && nat_lt b 0xC0

-- a code point of two bytes
abbrev pub of_two : ℕ → ℕ → List ℕ → Option (ℕ × List ℕ)
of_two a b rest =
    if nat_le 0xC2 a && continues b then Some ((a - 0xC0) * 64 + (b - 0x80), rest) else None

abbrev pub code_of_three : ℕ → ℕ → ℕ → ℕ
code_of_three a b c = (a - 0xE0) * 4096 + (b - 0x80) * 64 + (c - 0x80)

-- at least 0x800, and no surrogate
abbrev pub is_of_three : ℕ → Bool
is_of_three code = nat_le 0x800 code && (nat_lt code 0xD800 || nat_le 0xE000 code)

abbrev pub of_three : ℕ → ℕ → ℕ → List ℕ → Option (ℕ × List ℕ)
of_three a b c rest =
    if continues b && continues c && is_of_three (code_of_three a b c)
    then Some (code_of_three a b c, rest) else None

abbrev pub code_of_four : ℕ → ℕ → ℕ → ℕ → ℕ
code_of_four a b c d = (a - 0xF0) * 262144 + (b - 0x80) * 4096 + (c - 0x80) * 64 + (d - 0x80)

abbrev pub is_of_four : ℕ → Bool
is_of_four code = nat_le 0x10000 code && nat_lt code 0x110000

abbrev pub of_four : ℕ → ℕ → ℕ → ℕ → List ℕ → Option (ℕ × List ℕ)
of_four a b c d rest =
    if continues b && continues c && continues d && is_of_four (code_of_four a b c d)
    then Some (code_of_four a b c d, rest) else None

abbrev pub led_by_four : ℕ → ℕ → ℕ → List ℕ → Option (ℕ × List ℕ)
led_by_four a b c [] = None
led_by_four a b c (d ∷ rest) = of_four a b c d rest

abbrev pub led_by_three : ℕ → ℕ → List ℕ → Option (ℕ × List ℕ)
led_by_three a b [] = None
led_by_three a b (c ∷ rest) = if nat_lt a 0xF0 then of_three a b c rest else led_by_four a b c rest

abbrev pub led_by : ℕ → List ℕ → Option (ℕ × List ℕ)
led_by a [] = None
led_by a (b ∷ rest) = if nat_lt a 0xE0 then of_two a b rest else led_by_three a b rest

-- the code point at the front, and what stands after it
unfoldable pub char_at : List ℕ → Option (ℕ × List ℕ)
char_at [] = None
char_at (a ∷ rest) = if nat_lt a 0x80 then Some (a, rest) else led_by a rest
