use Rattle.std.proofs.Common.{true, false, sym, ap, ◌∙◌}
use Rattle.pv_dtd.specs.Facts.{are_distinct}
use Rattle.pv_dtd.specs.NamedForms.{named_model}
use Rattle.pv_dtd.proofs.BrokenRules.{broken_by}
use Rattle.pv_dtd.proofs.rules.broken_by_element.Goals as goal

pub returns-then-contains : goal.returns-then-contains
returns-then-contains c = broken_by _ _ _ (named_model c.args.model.now) true true true (sym c.if-contains.true ∙ c.contains.ensures) (λ no. cc) (λ no all. cc)

pub returns-then-not-branch : goal.returns-then-not-branch
returns-then-not-branch c =
    broken_by _ _ _ (named_model c.args.model.now) false false true (sym c.if-contains.false ∙ c.contains.ensures)
    (λ no. sym c.if-not-branch.true ∙ c.in_ok-are_distinct.ensures ∙ ap are_distinct c.listed_in.ensures) (λ no all. cc)

pub returns-then-passes_limit : goal.returns-then-passes_limit
returns-then-passes_limit c =
    broken_by _ _ _ (named_model c.args.model.now) false true true (sym c.if-contains.false ∙ c.contains.ensures)
    (λ no. sym c.if-not-branch.false ∙ c.in_ok-are_distinct.ensures ∙ ap are_distinct c.listed_in.ensures)
    (λ no all. sym c.if-passes_limit.true ∙ c.passes_limit.ensures)

pub returns : goal.returns
returns c =
    broken_by _ _ _ (named_model c.args.model.now) false true false (sym c.if-contains.false ∙ c.contains.ensures)
    (λ no. sym c.if-not-branch.false ∙ c.in_ok-are_distinct.ensures ∙ ap are_distinct c.listed_in.ensures)
    (λ no all. sym c.if-passes_limit.false ∙ c.passes_limit.ensures)
