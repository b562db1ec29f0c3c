use Rattle.std.proofs.lemmas.Bool.{eq-eqb, eqb-true}
use Rattle.pv_productive.specs.PlainForms.{dtd_of}
use Rattle.pv_verdicts.proofs.CountAnswers.{free_derives, told_of}
use Rattle.pv_verdicts.proofs.deciding.derives.Goals as goal

pub returns-in-Some : goal.returns-in-Some
returns-in-Some c =
    let n = c.in-Some.untaken in
    let h = told_of _ c.args.counts.now.untaken n c.in-Some.is c.requires.counts.untaken in
    free_derives (dtd_of c.args.judge.now) c.args.id.0 c.args.word.now n _
    (eqb-true n 0, eq-eqb n 0) c.requires.productive h
