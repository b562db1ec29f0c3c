-- Devices in memory, as their callers see them.
use Rattle.std.specs.Prelude.{ℕ, ◌≤◌, List, length, Contains, Bool, if◌then◌else◌, Option, Some}
use Rattle.std.specs.Prelude.{None}
use Rattle.pv_io.specs.Causes.{next_count}

-- the numbers, from 0, of the calls that fail, how many calls were made, and how many faults were
-- counted
pub record CallCount : Type 0 where
  pub failing : List ℕ
  pub made : ℕ
  pub faults : ℕ

-- no call was made and no fault counted
abbrev pub no_calls : List ℕ → CallCount
no_calls failing = record { failing = failing; made = 0; faults = 0 }

-- after a call, which was a fault or wasn't
abbrev pub after_call : Bool → CallCount → CallCount
after_call failed calls = record {
  failing = calls.failing;
  made = next_count calls.made;
  faults = if failed then next_count calls.faults else calls.faults;
}

-- a source in memory: the bytes that are left, the most bytes of a call, and how many calls gave no
-- byte
pub record HeldInput : Type 0 where
  pub left : List ℕ
  pub most : ℕ
  pub empty : ℕ
  pub calls : CallCount

-- a sink in memory: the bytes that it holds, the most bytes that it can hold, and the most bytes
-- of a call
pub record HeldOutput : Type 0 where
  pub bytes : List ℕ
  pub room : ℕ
  pub most : ℕ
  pub calls : CallCount

-- a shelf in memory: the names that may be fetched, and its files with their names
pub record HeldFiles : Type 0 where
  pub names : List (List ℕ)
  pub files : List (List ℕ × List ℕ)
  pub calls : CallCount

-- this call is one of those that fail
abbrev pub FailsNow : CallCount → Type 0
FailsNow calls = Contains calls.failing calls.made

-- a fetch of at most so many bytes fails: there is no file, or there is one of so few bytes and
-- the call is to fail
abbrev pub FetchFaults : Option (List ℕ) → ℕ → CallCount → Type 0
FetchFaults None most calls = Unit {0}
FetchFaults (Some bytes) most calls = (length bytes ≤ most) × FailsNow calls
