use Rattle.std.proofs.Common.{arith, map, refl, sym, ◌+◌, ◌∙◌}
use Rattle.std.proofs.lemmas.List.{length-map}
use Rattle.pv_model.specs.PlainForms.{plain_token}
use Rattle.pv_rules.proofs.FlatKinds.{choice_at}
use Rattle.pv_productive.specs.PlainForms.{dtd_of}
use Rattle.pv_denial.proofs.Contents.{choice_part_holds, name_part_holds, no_part_holds, opt_part_holds, plus_part_holds, seq_holds, star_part_holds}
use Rattle.pv_denial.proofs.rules.part_holds.Goals as goal

pub returns-in_default : goal.returns-in_default
returns-in_default c =
    let g = dtd_of c.args.grammar.now in let word = c.args.word.now in
    no_part_holds g (map plain_token word) _ (sym (length-map word plain_token)) c.args.barrier.now c.requires.rows _ c.args.number (sym c.part_of.ensures ∙ c.in_default.is) refl

pub returns-in-Name : goal.returns-in-Name
returns-in-Name c =
    let g = dtd_of c.args.grammar.now in let word = c.args.word.now in
    name_part_holds g (map plain_token word) _ (sym (length-map word plain_token))
    c.args.barrier.now c.requires.rows _ c.args.number c.in-Some.part (sym c.part_of.ensures
    ∙ c.in-Some.is) c.in-Name.id.0 c.in-Name.is c.one_holds.ensures

pub returns-in-Seq : goal.returns-in-Seq
returns-in-Seq c =
    let g = dtd_of c.args.grammar.now in let word = c.args.word.now in
    seq_holds g (map plain_token word) _ (sym (length-map word plain_token)) c.args.barrier.now
    c.requires.rows _ c.args.number c.in-Some.part (sym c.part_of.ensures
    ∙ c.in-Some.is) c.args.grammar.now.layout.dtd.formed c.in-Seq.is (c.args.number + 1)
    (omega arith) c.one_holds-in-Seq.ensures

pub choice_holds-requires-clause-choice : goal.choice_holds-requires-clause-choice
choice_holds-requires-clause-choice c =
    let a = choice_at (dtd_of c.args.grammar.now) c.args.number c.in-Some.part (sym c.part_of.ensures ∙ c.in-Some.is) c.in-Choice.is in (a.0, a.1, let z = a.2 in omega arith)

pub returns-in-Choice : goal.returns-in-Choice
returns-in-Choice c =
    let g = dtd_of c.args.grammar.now in let word = c.args.word.now in
    choice_part_holds g (map plain_token word) _ (sym (length-map word plain_token))
    c.args.barrier.now c.requires.rows _ c.args.number c.in-Some.part (sym c.part_of.ensures
    ∙ c.in-Some.is) c.in-Choice.is c.choice_holds.ensures

pub returns-in-Opt : goal.returns-in-Opt
returns-in-Opt c =
    let g = dtd_of c.args.grammar.now in let word = c.args.word.now in
    opt_part_holds g (map plain_token word) _ (sym (length-map word plain_token)) c.args.barrier.now
    c.requires.rows _ c.args.number c.in-Some.part (sym c.part_of.ensures
    ∙ c.in-Some.is) c.in-Opt.is (c.args.number + 1) (omega arith) c.opt_holds.ensures

pub returns-in-Star : goal.returns-in-Star
returns-in-Star c =
    let g = dtd_of c.args.grammar.now in let word = c.args.word.now in
    star_part_holds g (map plain_token word) _ (sym (length-map word plain_token))
    c.args.barrier.now c.requires.rows _ c.args.number c.in-Some.part (sym c.part_of.ensures
    ∙ c.in-Some.is) c.in-Star.is (c.args.number + 1) (omega arith) c.star_holds.ensures

pub returns-in-Plus : goal.returns-in-Plus
returns-in-Plus c =
    let g = dtd_of c.args.grammar.now in let word = c.args.word.now in
    plus_part_holds g (map plain_token word) _ (sym (length-map word plain_token))
    c.args.barrier.now c.requires.rows _ c.args.number c.in-Some.part (sym c.part_of.ensures
    ∙ c.in-Some.is) c.in-Plus.is (c.args.number + 1) (omega arith) c.plus_holds.ensures
