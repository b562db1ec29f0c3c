-- What holds of lines.
use Rattle.std.specs.Prelude.{◌≡◌, ℕ, List, ◌∷◌, ◌++◌}
use Rattle.pv_words.specs.Lines.{FEED, ended_lines, ended_raw_lines, lines_of, without_returns}
use Rattle.pv_words.specs.Lines.{HasNoFeed, with_feeds}

-- Bytes are their lines that an LF ends, and part of a line. With what comes after them, their
-- lines are those, and then the lines of that part and what comes.
pub record JoinsLines (first more : List ℕ) : Type 0 where
  pub part : List ℕ
  pub is_cut : first ≡ with_feeds (ended_raw_lines first) ++ part
  pub no_feed : HasNoFeed part
  pub lines : lines_of (first ++ more) ≡ ended_lines first ++ lines_of (part ++ more)
  pub ended : ended_lines (first ++ more) ≡ ended_lines first ++ ended_lines (part ++ more)

abbrev pub JoinLines : Type 0
JoinLines = (first more : List ℕ) → JoinsLines first more

-- bytes up to an LF are a line, and what is after it is cut on
abbrev pub LinesEndAtFeeds : Type 0
LinesEndAtFeeds = (line more : List ℕ) → HasNoFeed line → lines_of (line ++ FEED ∷ more) ≡
    without_returns line ∷ lines_of more
