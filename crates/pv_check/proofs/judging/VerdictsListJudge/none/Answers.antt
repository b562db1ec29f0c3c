use Rattle.pv_productive.specs.PlainForms.{dtd_of}
use Rattle.pv_check.proofs.judging.VerdictsListJudge.none.Goals as goal

pub returns : goal.returns
returns c = λ root. c.none.ensures c.args.self.now.widths (dtd_of c.args.self.now.judge.now) root
