use Rattle.pv_productive.specs.PlainForms.{dtd_of}
use Rattle.pv_check.proofs.judging.VerdictsListJudge.before.Goals as goal

pub returns : goal.returns
returns c =
    λ root lists found. c.noted.ensures c.args.self.now.widths (dtd_of c.args.self.now.judge.now)
    root lists found
