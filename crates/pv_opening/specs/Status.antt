-- The statuses of the program: their numbers, and those that need a cause.
use Rattle.std.specs.Prelude.{ℕ, Bool, true, false}
use Rattle.pv_opening.specs.declared.status.Status.{Status}
use Rattle.pv_opening.specs.declared.status.Status.TheVariants.{Done, Negative, Usage, ReadFault}
use Rattle.pv_opening.specs.declared.status.Status.TheVariants.{WriteFault, NoMemory, BadDtd}
use Rattle.pv_opening.specs.declared.status.Status.TheVariants.{BadDocument, BadPack, Limit}

-- the exit status of the process
abbrev pub code_of : Status → ℕ
code_of Done = 0
code_of Negative = 1
code_of Usage = 2
code_of ReadFault = 3
code_of WriteFault = 4
code_of NoMemory = 5
code_of BadDtd = 6
code_of BadDocument = 7
code_of Limit = 8
code_of BadPack = 9

-- whether a status comes only at a fault of a device, or for want of memory
abbrev pub needs_cause : Status → Bool
needs_cause ReadFault = true
needs_cause WriteFault = true
needs_cause NoMemory = true
needs_cause _ = false
