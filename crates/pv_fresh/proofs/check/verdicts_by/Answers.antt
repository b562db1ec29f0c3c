use Rattle.std.proofs.lemmas.Result.{IfOk-weaker}
use Rattle.pv_productive.specs.PlainForms.{dtd_of}
use Rattle.pv_fresh.proofs.check.verdicts_by.Goals as goal

pub returns : goal.returns
returns c =
    IfOk-weaker c.with_first.result _ _ (λ found first. first (dtd_of c.args.judge.now)
    c.args.root.now c.in_ok-verdicts.ensures) c.with_first.ensures.first
