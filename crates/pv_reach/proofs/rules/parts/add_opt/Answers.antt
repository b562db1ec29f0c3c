use Rattle.pv_productive.specs.PlainForms.{dtd_of}
use Rattle.pv_reach.proofs.PartRules.{opt_laid}
use Rattle.pv_reach.proofs.rules.parts.add_opt.Goals as goal

pub returns : goal.returns
returns c =
    opt_laid (dtd_of c.args.grammar.now) c.args.number c.part_column-column.result
    c.part_column-column.ensures c.args.rules.now.items c.add.new.rules.items
    c.add-2.new.rules.items c.requires.0 c.requires.1
    c.in_ok-add.ensures c.in_ok-add-2.ensures
