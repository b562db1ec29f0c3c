use Rattle.pv_script.proofs.SpelledLines.{one-command, some-command}
use Rattle.pv_script.proofs.laws.one_command_law.Goals as goal

pub returns-clause-one : goal.returns-clause-one
returns-clause-one c = one-command

pub returns-clause-some : goal.returns-clause-some
returns-clause-some c = some-command
