use Rattle.std.proofs.Common.{arith, sym, ◌∙◌}
use Rattle.pv_productive.specs.PlainForms.{dtd_of}
use Rattle.pv_reach.proofs.ContentRules.{made, unmade}
use Rattle.pv_reach.proofs.NameRules.{name_laid, name_none}
use Rattle.pv_reach.proofs.rules.contents.add_name.Goals as goal

pub returns-in_default : goal.returns-in_default
returns-in_default c =
    name_none (dtd_of c.args.grammar.now) c.args.rules.now.items c.args.name (unmade (dtd_of c.args.grammar.now) c.args.name (sym c.content_of.ensures ∙ c.in_default.is))

pub add_parts-requires : goal.add_parts-requires
add_parts-requires c =
    let m = made (dtd_of c.args.grammar.now) c.args.name c.in-Some.content (sym c.content_of.ensures ∙ c.in-Some.is) in let e = m.is_end in omega arith

pub returns : goal.returns
returns c =
    let m = made (dtd_of c.args.grammar.now) c.args.name c.in-Some.content (sym c.content_of.ensures ∙ c.in-Some.is) in
    name_laid (dtd_of c.args.grammar.now) c.args.rules.now.items c.add_parts.new.rules.items
    c.add_content.new.rules.items c.args.name c.in-Some.content.first c.in-Some.content.end
    m.model m.is_at m.is_first m.is_end
    c.in_ok-add_parts.ensures c.in_ok-add_content.ensures
