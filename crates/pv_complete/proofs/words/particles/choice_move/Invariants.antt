use Rattle.std.proofs.Common.{◌-◌, ◌≢◌}
use Rattle.pv_rules.specs.Rules.{over}
use Rattle.pv_rules.specs.Sites.{part_site}
use Rattle.pv_rules.proofs.Members.{HavePassed}
use Rattle.pv_productive.specs.PlainForms.{dtd_of}
use Rattle.pv_span.specs.Weights.{weight_of}
use Rattle.pv_complete.proofs.words.particles.choice_move.Given as goal

abbrev pub invariant-loop-member : goal.invariant-loop-member
invariant-loop-member l = HavePassed (dtd_of l.spot.weights.grammar.now) l.number l.end
    (λ r. l.spot.weight ≢ weight_of l.spot.weights.spans.now (over (part_site r) l.spot.from l.spot.to)) l.member

abbrev pub decreases-loop-member : goal.decreases-loop-member
decreases-loop-member l = l.end - l.member
