use Rattle.pv_productive.specs.PlainForms.{dtd_of}
use Rattle.pv_commands.proofs.DtdLines.{Begin}
use Rattle.pv_commands.proofs.dtd.name_lines.Given as goal

abbrev pub invariant-loop-name : goal.invariant-loop-name
invariant-loop-name l = Begin (dtd_of l.grammar) l.name l.text.items
