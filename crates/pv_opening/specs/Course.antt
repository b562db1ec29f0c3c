-- The course of a run, apart from its devices.
use Rattle.std.specs.Prelude.{ℕ, ◌+◌, Bool, false, List, [], Option, None}
use Rattle.pv_opening.specs.Response.{PlainResponse}

-- How a run ends: with a response; at a fault of the shelf; at a fault of the input, after this
-- output; at a fault of the output, while this was written; or for want of memory.
pub data RunEnding : Type 0 where
  responds : PlainResponse → RunEnding
  shelf_fault : RunEnding
  input_fault : List ℕ → RunEnding
  output_fault : List ℕ → RunEnding
  no_memory : RunEnding

-- `fetches` is how many files were fetched in all, the last one that failed among them. `taken` are
-- the bytes that were taken from the input, none where it wasn't asked; `at_end` says that its end
-- was reached. `silent` are the numbers of the lines of a script that there was no memory for.
pub record Course : Type 0 where
  pub fetches : ℕ
  pub taken : Option (List ℕ)
  pub at_end : Bool
  pub silent : List ℕ
  pub ending : RunEnding

-- the run ended after so many fetches, and the input wasn't asked
abbrev pub without_input : ℕ → RunEnding → Course
without_input fetches ending =
    record { fetches = fetches; taken = None; at_end = false; silent = []; ending = ending }

-- a course after so many fetches that came before it
abbrev pub after_fetches : ℕ → Course → Course
after_fetches count rest = record rest { fetches = count + rest.fetches }
