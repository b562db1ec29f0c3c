use Rattle.pv_productive.specs.PlainForms.{dtd_of}
use Rattle.pv_reach.proofs.NameRules.{any_laid, no_any_laid}
use Rattle.pv_reach.proofs.rules.any.add_any.Goals as goal

pub returns-then-not-has_any : goal.returns-then-not-has_any
returns-then-not-has_any c = no_any_laid (dtd_of c.args.grammar.now) c.args.rules.now.items (c.has_any.ensures.none c.if-not-has_any.true)

pub returns : goal.returns
returns c =
    let a = c.has_any.ensures.some c.if-not-has_any.false in
    any_laid (dtd_of c.args.grammar.now) a.0 a.1 c.add.new.rules.items c.add-2.new.rules.items c.add_declared.new.rules.items c.in_ok-add_declared.ensures c.args.rules.now.items
    c.any_column-column.result c.any_column-column.ensures c.in_ok-add.ensures c.in_ok-add-2.ensures
