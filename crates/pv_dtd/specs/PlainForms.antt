-- The plain form of a DTD, and what its answers say of a text.
use Rattle.std.specs.Prelude.{◌≡◌, ◌⊎◌, ℕ, List, Result, Ok, Err}
use Rattle.pv_dtd.specs.Plain.{PlainDtd}
use Rattle.pv_dtd.specs.Facts.{as_dtd}
use Rattle.pv_dtd.specs.Kinds.{Kind, parameter, nesting, syntax, twice, mixed_twice, limit}
use Rattle.pv_dtd.specs.Meaning.{Outcome, is_dtd, faulty, DtdTextMeans}
use Rattle.pv_dtd.specs.declared.dtd.Dtd.{Dtd}
use Rattle.pv_dtd.specs.declared.errors.DtdError.{DtdError}
use Rattle.pv_dtd.specs.declared.errors.DtdError.TheVariants.{Syntax, Twice, MixedTwice, Parameter}
use Rattle.pv_dtd.specs.declared.errors.DtdError.TheVariants.{Limit, NoMemory}

-- the plain form of a DTD
abbrev pub plain_dtd : Dtd → PlainDtd
plain_dtd d = as_dtd d.names.keys d.models.items

-- the refusal of a text whose first fault is of this kind, after so many items
abbrev pub refusal : Kind → ℕ → DtdError
refusal parameter k = Parameter k
refusal nesting k = Limit k
refusal syntax k = Syntax k
refusal twice k = Twice k
refusal mixed_twice k = MixedTwice k
refusal limit k = Limit k

-- a refusal, other than want of memory, is of the text's first fault
abbrev pub Refuses : List ℕ → DtdError → Type 0
Refuses bytes (Syntax k) = DtdTextMeans bytes (faulty syntax k)
Refuses bytes (Twice k) = DtdTextMeans bytes (faulty twice k)
Refuses bytes (MixedTwice k) = DtdTextMeans bytes (faulty mixed_twice k)
Refuses bytes (Parameter k) = DtdTextMeans bytes (faulty parameter k)
Refuses bytes (Limit k) =
    DtdTextMeans bytes (faulty nesting k) ⊎ DtdTextMeans bytes (faulty limit k)
Refuses bytes NoMemory = Unit {0}

-- the answer to a text that means this, unless memory ran out
abbrev pub Answers : Outcome → Result Dtd DtdError → Type 0
Answers (is_dtd g) (Ok dtd) = plain_dtd dtd ≡ g
Answers (is_dtd g) (Err error) = error ≡ NoMemory
Answers (faulty kind k) (Ok dtd) = ⊥
Answers (faulty kind k) (Err error) = (error ≡ refusal kind k) ⊎ (error ≡ NoMemory)
