-- What an answer says of a file.
use Rattle.std.specs.Prelude.{◌≡◌, ◌⊎◌, ℕ, Vec, Result, Ok, Err}
use Rattle.std.specs.declared.alloc.Global.{Global}
use Rattle.pv_params.specs.Meaning.{Fault, conditional, external, undeclared, recursive, limit}
use Rattle.pv_params.specs.Meaning.{syntax, Expansion, expanded, faulty}
use Rattle.pv_params.specs.declared.errors.ParamError.{ParamError}
use Rattle.pv_params.specs.declared.errors.ParamError.TheVariants.{Conditional, External}
use Rattle.pv_params.specs.declared.errors.ParamError.TheVariants.{Undeclared, Recursive, Limit}
use Rattle.pv_params.specs.declared.errors.ParamError.TheVariants.{Syntax, NoMemory}

-- what an error tells: a fault of which this holds, or nothing
abbrev pub Tells : (Fault → Type 0) → ParamError → Type 0
Tells Holds Conditional = Holds conditional
Tells Holds External = Holds external
Tells Holds Undeclared = Holds undeclared
Tells Holds Recursive = Holds recursive
Tells Holds Limit = Holds limit
Tells Holds Syntax = Holds syntax
Tells Holds NoMemory = Unit {0}

abbrev pub refusal : Fault → ParamError
refusal conditional = Conditional
refusal external = External
refusal undeclared = Undeclared
refusal recursive = Recursive
refusal limit = Limit
refusal syntax = Syntax

-- the answer to a file that has this expansion, unless memory ran out
abbrev pub Answers : Expansion → Result (Vec ℕ Global) ParamError → Type 0
Answers (expanded text) (Ok found) = found.items ≡ text
Answers (expanded text) (Err error) = error ≡ NoMemory
Answers (faulty fault) (Ok found) = ⊥
Answers (faulty fault) (Err error) = (error ≡ refusal fault) ⊎ (error ≡ NoMemory)
