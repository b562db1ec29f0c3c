use Rattle.std.proofs.Common.{◌∙◌, sym}
use Rattle.pv_cache.proofs.LaidLevels.{none_numbered}
use Rattle.pv_cache.proofs.laying.nth_verdict.Goals as goal

pub returns-in-None : goal.returns-in-None
returns-in-None c =
    none_numbered c.args.verdicts.now.verdicts c.args.number (sym c.at.ensures ∙ c.in-None.is)
