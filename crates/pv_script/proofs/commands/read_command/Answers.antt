use Rattle.pv_script.proofs.CommandAnswers.{reads-command, reads-none}
use Rattle.pv_script.proofs.commands.read_command.Goals as goal

pub returns-clause-read : goal.returns-clause-read
returns-clause-read c = reads-command c.args.line.now c.command_of.result c.command_of.ensures

pub returns-clause-unknown : goal.returns-clause-unknown
returns-clause-unknown c = reads-none c.args.line.now c.command_of.result c.command_of.ensures
