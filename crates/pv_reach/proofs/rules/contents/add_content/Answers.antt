use Rattle.std.proofs.Common.{ap, sym, ◌∙◌}
use Rattle.pv_productive.specs.PlainForms.{dtd_of}
use Rattle.pv_reach.specs.Columns.{part_column}
use Rattle.pv_reach.proofs.ContentRules.{any_laid, children_laid, empty_laid, if_ok_as, made, undeclared_laid, unmade}
use Rattle.pv_reach.proofs.rules.contents.add_content.Goals as goal

pub returns-in_default : goal.returns-in_default
returns-in_default c =
    undeclared_laid (dtd_of c.args.grammar.now) c.args.name c.args.rules.now.items
    (unmade (dtd_of c.args.grammar.now) c.args.name (sym c.content_of.ensures ∙ c.in_default.is))

pub returns-in-Empty : goal.returns-in-Empty
returns-in-Empty c =
    let g = dtd_of c.args.grammar.now in
    let m = made (dtd_of c.args.grammar.now) c.args.name c.in-Some.content (sym c.content_of.ensures ∙ c.in-Some.is) in
    if_ok_as c.add.result _ _ (λ u a. empty_laid g c.args.name c.args.rules.now.items c.add.new.rules.items m.model m.is_at (m.is_kind ∙ c.in-Empty.is) a) c.add.ensures

pub returns-in-Any : goal.returns-in-Any
returns-in-Any c =
    let g = dtd_of c.args.grammar.now in
    let m = made (dtd_of c.args.grammar.now) c.args.name c.in-Some.content (sym c.content_of.ensures ∙ c.in-Some.is) in
    if_ok_as c.add-in-Any.result _ _
    (λ u a. any_laid g c.args.name c.args.rules.now.items c.add-in-Any.new.rules.items m.model c.any_column.result m.is_at (m.is_kind ∙ c.in-Any.is) c.any_column.ensures a) c.add-in-Any.ensures

pub returns-in-Children : goal.returns-in-Children
returns-in-Children c =
    let g = dtd_of c.args.grammar.now in
    let m = made (dtd_of c.args.grammar.now) c.args.name c.in-Some.content (sym c.content_of.ensures ∙ c.in-Some.is) in
    if_ok_as c.add-in-Children.result _ _
    (λ u a. children_laid g c.args.name c.args.rules.now.items c.add-in-Children.new.rules.items m.model c.part_column-first.result m.is_at (m.is_kind ∙ c.in-Children.is)
    (c.part_column-first.ensures ∙ ap (λ v. part_column g v) m.is_first) a) c.add-in-Children.ensures
