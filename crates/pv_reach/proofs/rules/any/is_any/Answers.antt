use Rattle.std.proofs.Common.{sym, ◌∙◌}
use Rattle.pv_productive.specs.PlainForms.{dtd_of}
use Rattle.pv_reach.proofs.ContentRules.{is_any, is_not_any, made, unmade}
use Rattle.pv_reach.proofs.rules.any.is_any.Goals as goal

pub returns-in_default-clause-none : goal.returns-in_default-clause-none
returns-in_default-clause-none c = λ e a.
    let z = unmade (dtd_of c.args.grammar.now) c.args.name (sym c.content_of.ensures ∙ c.in_default.is) in cc

pub returns-in-Any-clause-some : goal.returns-in-Any-clause-some
returns-in-Any-clause-some c = λ e.
    is_any (dtd_of c.args.grammar.now) c.args.name c.in-Some.content (made (dtd_of c.args.grammar.now) c.args.name c.in-Some.content (sym c.content_of.ensures ∙ c.in-Some.is)) c.in-Any.is

pub returns-in-Empty-clause-none : goal.returns-in-Empty-clause-none
returns-in-Empty-clause-none c = λ e.
    is_not_any (dtd_of c.args.grammar.now) c.args.name c.in-Some.content
    (made (dtd_of c.args.grammar.now) c.args.name c.in-Some.content (sym c.content_of.ensures
    ∙ c.in-Some.is)) (λ k. let z = c.in-Empty.is in cc)

pub returns-in-Mixed-clause-none : goal.returns-in-Mixed-clause-none
returns-in-Mixed-clause-none c = λ e.
    is_not_any (dtd_of c.args.grammar.now) c.args.name c.in-Some.content
    (made (dtd_of c.args.grammar.now) c.args.name c.in-Some.content (sym c.content_of.ensures
    ∙ c.in-Some.is)) (λ k. let z = c.in-Mixed.is in cc)

pub returns-in-Children-clause-none : goal.returns-in-Children-clause-none
returns-in-Children-clause-none c = λ e.
    is_not_any (dtd_of c.args.grammar.now) c.args.name c.in-Some.content
    (made (dtd_of c.args.grammar.now) c.args.name c.in-Some.content (sym c.content_of.ensures
    ∙ c.in-Some.is)) (λ k. let z = c.in-Children.is in cc)
