use Rattle.std.proofs.Common.{map, refl, sym, ◌∙◌}
use Rattle.std.proofs.lemmas.List.{length-map}
use Rattle.pv_model.specs.PlainForms.{plain_token}
use Rattle.pv_productive.specs.PlainForms.{dtd_of}
use Rattle.pv_denial.proofs.Contents.{any_holds, children_hold, empty_holds, mixed_holds, undeclared_holds}
use Rattle.pv_denial.proofs.rules.content_holds.Goals as goal

pub returns-in_default : goal.returns-in_default
returns-in_default c =
    let g = dtd_of c.args.grammar.now in let word = c.args.word.now in
    undeclared_holds g (map plain_token word) _ (sym (length-map word plain_token)) c.args.barrier.now c.requires.rows _ c.args.id.0 (sym c.content_of.ensures ∙ c.in_default.is) refl

pub returns-in-Empty : goal.returns-in-Empty
returns-in-Empty c =
    let g = dtd_of c.args.grammar.now in let word = c.args.word.now in
    empty_holds g (map plain_token word) _ (sym (length-map word plain_token)) c.args.barrier.now
    c.requires.rows _ c.args.id.0 c.in-Some.content (sym c.content_of.ensures
    ∙ c.in-Some.is) c.in-Empty.is c.none_holds.ensures

pub returns-in-Any : goal.returns-in-Any
returns-in-Any c =
    let g = dtd_of c.args.grammar.now in let word = c.args.word.now in
    any_holds g (map plain_token word) _ (sym (length-map word plain_token)) c.args.barrier.now
    c.requires.rows _ c.args.id.0 c.in-Some.content (sym c.content_of.ensures
    ∙ c.in-Some.is) c.in-Any.is c.any_holds.ensures

pub returns-in-Mixed : goal.returns-in-Mixed
returns-in-Mixed c =
    let g = dtd_of c.args.grammar.now in let word = c.args.word.now in
    mixed_holds g (map plain_token word) _ (sym (length-map word plain_token)) c.args.barrier.now
    c.requires.rows _ c.args.id.0 c.in-Some.content (sym c.content_of.ensures
    ∙ c.in-Some.is) c.in-Mixed.is c.mixed_holds.ensures

pub returns-in-Children : goal.returns-in-Children
returns-in-Children c =
    let g = dtd_of c.args.grammar.now in let word = c.args.word.now in
    children_hold g (map plain_token word) _ (sym (length-map word plain_token)) c.args.barrier.now
    c.requires.rows _ c.args.id.0 c.in-Some.content (sym c.content_of.ensures
    ∙ c.in-Some.is) c.in-Children.is c.one_holds.ensures
