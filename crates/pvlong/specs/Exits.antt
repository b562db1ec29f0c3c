-- How the program ends: as `pvtag` does, or with a status of its own.
use Rattle.std.specs.Prelude.{Bool, true, ℕ}
use Rattle.pv_opening.specs.Status.{code_of}
use Rattle.pv_opening.specs.declared.status.Status.{Status}
use Rattle.pv_opening.specs.declared.status.Status.TheVariants.{Done}
use Rattle.pvlong.specs.declared.exits.Exit.{Exit}
use Rattle.pvlong.specs.declared.exits.Exit.TheVariants.{By, NotLeast}

-- the exit status of the process
abbrev pub exit_code : Exit → ℕ
exit_code (By status) = code_of status
exit_code NotLeast = 11

-- how the program ends once its response is written: where a document was told that may not be
-- least, by the status of that
abbrev pub exit_of : Bool → Status → Exit
exit_of true Done = NotLeast
exit_of not_least status = By status
