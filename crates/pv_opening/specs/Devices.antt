-- The devices of a run, each at one moment.
use Rattle.std.specs.Prelude.{ℕ, List, Option}
use Rattle.pv_io.specs.Causes.{Asked}
pub use Rattle.pv_io.specs.Files.{ShelfNow}

-- an input: itself, what it tells to be left, how often it was asked and gave no byte, and how
-- often it failed
pub record InputNow (S : Type 0) : Type 0 where
  pub source : S
  pub left : Option (List ℕ)
  pub calls : Asked
  pub faults : ℕ

-- what an output tells to be written, and how often it failed
pub record OutputNow : Type 0 where
  pub written : Option (List ℕ)
  pub faults : ℕ

-- all of them, and how many lists were checked by then
pub record Devices (S : Type 0) : Type 0 where
  pub shelf : ShelfNow
  pub input : InputNow S
  pub output : OutputNow
  pub checked : ℕ

-- a shelf at one moment
abbrev pub shelf_at : Option (List (List ℕ × List ℕ)) → ℕ → ℕ → ShelfNow
shelf_at files calls faults = record { files = files; calls = calls; faults = faults }

-- an input at one moment
abbrev pub input_at : {S : Type 0} → S → Option (List ℕ) → Asked → ℕ → InputNow S
input_at source left calls faults = record {
  source = source;
  left = left;
  calls = calls;
  faults = faults;
}

-- an output at one moment
abbrev pub output_at : Option (List ℕ) → ℕ → OutputNow
output_at written faults = record { written = written; faults = faults }

-- the devices at one moment, and how many lists were checked by then
abbrev pub devices : {S : Type 0} → ShelfNow → InputNow S → OutputNow → ℕ → Devices S
devices shelf input output checked = record {
  shelf = shelf;
  input = input;
  output = output;
  checked = checked;
}
