use Rattle.pv_deny.proofs.Denials.{denial_judged}
use Rattle.pv_deny.proofs.laws.denial_judged_law.Goals as goal

pub returns : goal.returns
returns g c =
    denial_judged _ c.spans_within_law.ensures c.furthest_barrier_law.ensures c.known_word_law.ensures c.live_follows_law.ensures c.one_live_word_law.ensures c.owner_productive_law.ensures
    c.possible_derives_law.ensures
