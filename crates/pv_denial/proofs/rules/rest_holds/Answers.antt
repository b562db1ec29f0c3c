use Rattle.std.proofs.Common.{map, refl, sym, ◌∙◌}
use Rattle.std.proofs.lemmas.List.{length-map}
use Rattle.pv_model.specs.PlainForms.{plain_token}
use Rattle.pv_productive.specs.PlainForms.{dtd_of}
use Rattle.pv_denial.proofs.Contents.{followed_holds, last_holds, no_rest_holds, outside_holds}
use Rattle.pv_denial.proofs.rules.rest_holds.Goals as goal

pub returns-in_default : goal.returns-in_default
returns-in_default c =
    let g = dtd_of c.args.grammar.now in let word = c.args.word.now in
    no_rest_holds g (map plain_token word) _ (sym (length-map word plain_token)) c.args.barrier.now c.requires.rows _ c.args.number (sym c.part_of.ensures ∙ c.in_default.is) refl

pub returns-in-Outside : goal.returns-in-Outside
returns-in-Outside c =
    let g = dtd_of c.args.grammar.now in let word = c.args.word.now in
    outside_holds g (map plain_token word) _ (sym (length-map word plain_token)) c.args.barrier.now
    c.requires.rows _ c.args.number c.in-Some.part (sym c.part_of.ensures
    ∙ c.in-Some.is) c.in-Outside.is refl

pub returns-in-Last : goal.returns-in-Last
returns-in-Last c =
    let g = dtd_of c.args.grammar.now in let word = c.args.word.now in
    last_holds g (map plain_token word) _ (sym (length-map word plain_token)) c.args.barrier.now
    c.requires.rows _ c.args.number c.in-Some.part (sym c.part_of.ensures
    ∙ c.in-Some.is) c.in-Last.is c.one_holds.ensures

pub returns-in-Followed : goal.returns-in-Followed
returns-in-Followed c =
    let g = dtd_of c.args.grammar.now in let word = c.args.word.now in
    followed_holds g (map plain_token word) _ (sym (length-map word plain_token)) c.args.barrier.now
    c.requires.rows _ c.args.number c.in-Some.part (sym c.part_of.ensures
    ∙ c.in-Some.is) c.in-Followed.is c.two_holds.ensures
