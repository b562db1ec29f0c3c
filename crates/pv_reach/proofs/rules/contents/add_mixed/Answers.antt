use Rattle.std.proofs.Common.{arith, ◌∙◌}
use Rattle.pv_productive.specs.PlainForms.{dtd_of}
use Rattle.pv_reach.proofs.ContentRules.{made, mixed_laid}
use Rattle.pv_reach.proofs.rules.contents.add_mixed.Goals as goal

pub add_listed-requires : goal.add_listed-requires
add_listed-requires c = let m = made (dtd_of c.args.grammar.now) c.args.name c.args.content c.requires.content in let e = m.is_end in omega arith

pub returns : goal.returns
returns c =
    let m = made (dtd_of c.args.grammar.now) c.args.name c.args.content c.requires.content in
    mixed_laid (dtd_of c.args.grammar.now) c.args.name m.model c.args.rules.now.items c.add.new.rules.items c.add-2.new.rules.items c.add_listed.new.rules.items c.args.content.first c.args.content.end
    m.is_at (m.is_kind ∙ c.requires.mixed) m.is_first m.is_end c.in_ok-add.ensures c.in_ok-add-2.ensures c.in_ok-add_listed.ensures
