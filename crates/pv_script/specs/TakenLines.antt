-- A line that is taken from the pieces of a script.
use Rattle.std.specs.Prelude.{◌≡◌, ◌≤◌, ◌<◌, ℕ, suc, Bool, true, false, List, [], ◌∷◌, ◌++◌}
use Rattle.std.specs.Prelude.{length, if◌then◌else◌}
use Rattle.pv_words.specs.Lines.{FEED, HasNoFeed}
use Rattle.pv_script.specs.declared.lines.Took.{Took}
use Rattle.pv_script.specs.declared.lines.Took.TheVariants.{More, Line, TooLong}

-- the most bytes of a line, without its LF
abbrev pub MAX_LINE_BYTES : ℕ
MAX_LINE_BYTES = 1048576

-- what is held: bytes, and whether they are a whole line
pub record HeldLine : Type 0 where
  pub bytes : List ℕ
  pub whole : Bool

-- nothing is held of a line
abbrev pub nothing_held : HeldLine
nothing_held = record { bytes = []; whole = false }

-- what is held of the line to be taken: nothing where a whole line is held
abbrev pub begun_line : HeldLine → List ℕ
begun_line held = if held.whole then [] else held.bytes

-- the piece has no LF, and the line goes on with all of it
pub record TakesWhole (old : HeldLine) (piece : List ℕ) (new : HeldLine) : Type 0 where
  pub no_feed : HasNoFeed piece
  pub within : length (begun_line old ++ piece) ≤ MAX_LINE_BYTES
  pub held : new ≡ record { bytes = begun_line old ++ piece; whole = false }

-- the line ends with the first LF of the piece, after which so many bytes were eaten
pub record TakesLine (old : HeldLine) (piece : List ℕ) (eaten : ℕ) (new : HeldLine) : Type 0 where
  pub front : List ℕ
  pub rest : List ℕ
  pub is_cut : piece ≡ front ++ FEED ∷ rest
  pub no_feed : HasNoFeed front
  pub is_eaten : eaten ≡ suc (length front)
  pub within : length (begun_line old ++ front) ≤ MAX_LINE_BYTES
  pub held : new ≡ record { bytes = begun_line old ++ front; whole = true }

-- the line is too long already with what stands before the first LF of the piece
pub record IsTooLong (old : HeldLine) (piece : List ℕ) (new : HeldLine) : Type 0 where
  pub front : List ℕ
  pub rest : List ℕ
  pub is_cut : piece ≡ front ++ rest
  pub no_feed : HasNoFeed front
  pub beyond : MAX_LINE_BYTES < length (begun_line old ++ front)
  pub held : new ≡ record { bytes = begun_line old; whole = false }

-- what taking a piece gives
abbrev pub TakesPiece : HeldLine → List ℕ → HeldLine → Took → Type 0
TakesPiece old piece new More = TakesWhole old piece new
TakesPiece old piece new (Line eaten) = TakesLine old piece eaten new
TakesPiece old piece new TooLong = IsTooLong old piece new
