use Rattle.std.proofs.Common.{inl, inr}
use Rattle.std.proofs.lemmas.Bool.{cases_lt}
use Rattle.pv_bounds.specs.Fronts.{cost_from}
use Rattle.pv_bounds.proofs.cuts.holds_by.Goals as goal

pub returns-then-is_alike : goal.returns-then-is_alike
returns-then-is_alike c = λ t held k j after within.
    let fronts = c.args.claim.now.fronts.now in
    elim (cases_lt c.args.later k) [
      | inl lt ↦ c.is_alike.ensures c.if-is_alike.true k j (cost_from fronts c.args.pair.second k j) lt (held k j lt within)
      | inr le ↦ c.near_cuts_hold.ensures t k j after le
    ]
