-- What a refusal of a document says.
use Rattle.std.specs.Prelude.{ℕ}
use Rattle.pv_read.specs.Kinds.{subset, syntax, entity, mismatch, doctype_name, deep}
use Rattle.pv_read.specs.Meaning.{Outcome, faulty, too_long}
use Rattle.pv_read.specs.declared.errors.DocError.{DocError}
use Rattle.pv_read.specs.declared.errors.DocError.TheVariants.{Syntax, Mismatch, Entity, Subset}
use Rattle.pv_read.specs.declared.errors.DocError.TheVariants.{DoctypeName, Deep, Limit, NoMemory}

-- a refusal, other than want of memory, is of a first fault, or of too many bytes, which this is
-- so of
abbrev pub Refuses : {M : Type 0} → (Outcome M → Type 0) → DocError → Type 0
Refuses Is (Syntax k) = Is (faulty syntax k)
Refuses Is (Mismatch k) = Is (faulty mismatch k)
Refuses Is (Entity k) = Is (faulty entity k)
Refuses Is Subset = (k : ℕ) × Is (faulty subset k)
Refuses Is DoctypeName = (k : ℕ) × Is (faulty doctype_name k)
Refuses Is (Deep k) = Is (faulty deep k)
Refuses Is Limit = Is too_long
Refuses Is NoMemory = Unit {0}
