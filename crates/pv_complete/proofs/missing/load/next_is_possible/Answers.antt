use Rattle.std.proofs.Common.{inl, refl, sym, ◌∙◌}
use Rattle.pv_complete.proofs.WeightSums.{drop_none, takes_next}
use Rattle.pv_complete.proofs.missing.load.next_is_possible.Goals as goal

pub returns-in_default : goal.returns-in_default
returns-in_default c = inl (drop_none c.args.verdicts.now.verdicts c.args.used.now (sym c.at.ensures ∙ c.in_default.is))

pub returns : goal.returns
returns c = takes_next c.args.verdicts.now.verdicts c.args.used.now _ c.in-Some.verdict c.is_possible.result (sym c.at.ensures ∙ c.in-Some.is) refl c.is_possible.ensures
