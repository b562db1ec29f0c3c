use Rattle.std.proofs.Common.{◌≤◌, length, arith}
use Rattle.std.proofs.lemmas.Grind.{common_steps}
use Rattle.pv_productive.specs.PlainForms.{dtd_of}
use Rattle.pv_commands.proofs.DtdLines.{finished, one_more}
use Rattle.pv_commands.proofs.dtd.name_lines.Goals as goal

pub loop-name-preserved : goal.loop-name-preserved
loop-name-preserved c =
    let p = c.in_ok-push_name_line.ensures in
    one_more (dtd_of c.args.grammar.now) c.loop-name.name p.0 c.loop-name.text.items p.1 _ p.2 p.3
    p.4 c.loop-name.invariant

pub returns : goal.returns
returns c =
    let all : length (dtd_of c.args.grammar.now).models ≤ c.loop-name.name =
    grind (arith, common_steps) in
    finished (dtd_of c.args.grammar.now) c.loop-name.name c.loop-name.text.items all
    c.loop-name.invariant
