-- Words in a line.
use Rattle.std.specs.Prelude.{ℕ, ◌==◌, List, [], ◌∷◌, ◌++◌, length, codes, decimal, Option, Some}
use Rattle.std.specs.Prelude.{None, option_map, if◌then◌else◌}

-- words with exactly one space between each two; the last may be empty, or hold spaces of its own
abbrev pub words : List (List ℕ) → List ℕ
words [] = []
words (word ∷ []) = word
words (word ∷ next ∷ others) = word ++ (codes " " ++ words (next ∷ others))

-- a line with its LF
abbrev pub with_feed : List ℕ → List ℕ
with_feed line = line ++ codes "\n"

-- a line of a word and the number of some bytes, and those bytes with an LF
abbrev pub counted_text : List ℕ → List ℕ → List ℕ
counted_text word bytes =
    with_feed (words (word ∷ decimal (length bytes) ∷ [])) ++ with_feed bytes

abbrev pub with_byte_in_front : ℕ → List ℕ × List ℕ → List ℕ × List ℕ
with_byte_in_front b cut = (b ∷ cut.0, cut.1)

-- the word before the first blank, and what stands after the blank
abbrev pub first_word : List ℕ → Option (List ℕ × List ℕ)
first_word [] = None
first_word (b ∷ bs) =
    if b == 32 then Some ([], bs) else option_map (with_byte_in_front b) (first_word bs)
