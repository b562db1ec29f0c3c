use Rattle.pv_productive.specs.PlainForms.{dtd_of}
use Rattle.pv_reach.proofs.FormedDtds.{formed_dtd}
use Rattle.pv_reach.proofs.NameRules.{laid_names}
use Rattle.pv_reach.proofs.rules.layout.rules_of.Goals as goal

pub returns : goal.returns
returns c =
    laid_names (dtd_of c.args.grammar.now) c.new-rules.result.items c.add_names.new.rules.items
    c.add_any.new.rules.items c.new-rules.ensures.items (formed_dtd c.args.grammar.now)
    c.in_ok-add_names.ensures
    c.in_ok-add_any.ensures
