-- Bytes cut into lines.
use Rattle.std.specs.Prelude.{◌≢◌, ℕ, List, [], ◌∷◌, ◌++◌, map, ◌==◌, if◌then◌else◌}
use Rattle.std.specs.List.{AllByRecursion}
use Rattle.pv_words.specs.Words.{with_feed}

-- the lines of some bytes whose first byte is put in front of those that follow it
abbrev pub with_first_byte : ℕ → List (List ℕ) → List (List ℕ)
with_first_byte b [] = (b ∷ []) ∷ []
with_first_byte b (line ∷ lines) = (b ∷ line) ∷ lines

-- LF
abbrev pub FEED : ℕ
FEED = 10

-- CR
abbrev pub RETURN : ℕ
RETURN = 13

-- the lines of some bytes with the CR bytes at their ends: those that LF bytes end, and the last
-- unless it is empty
abbrev pub raw_lines_of : List ℕ → List (List ℕ)
raw_lines_of [] = []
raw_lines_of (b ∷ bs) =
    if b == FEED then [] ∷ raw_lines_of bs else with_first_byte b (raw_lines_of bs)

-- a byte in front of what is left of a line, which is nothing if the byte is the last and a CR
abbrev pub with_byte_before : ℕ → List ℕ → List ℕ
with_byte_before b [] = if b == RETURN then [] else b ∷ []
with_byte_before b (c ∷ cs) = b ∷ c ∷ cs

-- a line without the CR bytes at its end
abbrev pub without_returns : List ℕ → List ℕ
without_returns [] = []
without_returns (b ∷ bs) = with_byte_before b (without_returns bs)

-- the lines of some bytes
abbrev pub lines_of : List ℕ → List (List ℕ)
lines_of script = map without_returns (raw_lines_of script)

-- the first of some lines with a byte in front, if there is one
abbrev pub with_byte_in_first : ℕ → List (List ℕ) → List (List ℕ)
with_byte_in_first b [] = []
with_byte_in_first b (line ∷ lines) = (b ∷ line) ∷ lines

-- the lines that LF bytes end, with the CR bytes at their ends
abbrev pub ended_raw_lines : List ℕ → List (List ℕ)
ended_raw_lines [] = []
ended_raw_lines (b ∷ bs) =
    if b == FEED then [] ∷ ended_raw_lines bs else with_byte_in_first b (ended_raw_lines bs)

-- the lines that LF bytes end
abbrev pub ended_lines : List ℕ → List (List ℕ)
ended_lines bytes = map without_returns (ended_raw_lines bytes)

-- no LF stands in these bytes
abbrev pub HasNoFeed : List ℕ → Type 0
HasNoFeed bytes = AllByRecursion (λ b. b ≢ FEED) bytes

-- lines, each with its LF
abbrev pub with_feeds : List (List ℕ) → List ℕ
with_feeds [] = []
with_feeds (line ∷ lines) = with_feed line ++ with_feeds lines
