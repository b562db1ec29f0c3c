-- Lines at the front of some bytes.
use Rattle.std.specs.Prelude.{◌≡◌, ◌≤◌, ◌==◌, ℕ, Bool, not, List, ◌++◌, decimal}
use Rattle.std.specs.List.{list_all}
use Rattle.pv_words.specs.Lines.{FEED, HasNoFeed}
use Rattle.pv_words.specs.Words.{with_feed}

-- no LF stands in these bytes
abbrev pub has_no_feed : List ℕ → Bool
has_no_feed bytes = list_all (λ b. not (b == FEED)) bytes

-- A line stands at the front that begins with this word and goes on with this; and this after it.
pub record IsLineOf (word bytes args rest : List ℕ) : Type 0 where
  pub no_feed : HasNoFeed args
  pub whole : bytes ≡ with_feed (word ++ args) ++ rest

-- A line stands at the front of this word and this number, which isn't past the most.
pub record IsNumberLine (word : List ℕ) (most : ℕ) (bytes : List ℕ) (n : ℕ) (rest : List ℕ)
    : Type 0 where
  pub within : n ≤ most
  pub whole : bytes ≡ with_feed (word ++ decimal n) ++ rest
