use Rattle.std.proofs.Common.{◌-◌}
use Rattle.pv_rules.specs.Sites.{part_site}
use Rattle.pv_rules.proofs.Members.{HavePassed}
use Rattle.pv_table_check.specs.ClosedForms.{WeighsAsOne}
use Rattle.pv_table_check.specs.Tested.{dtd_in}
use Rattle.pv_table_check.proofs.particles.choice_closed.Given as goal

abbrev pub invariant-loop-member : goal.invariant-loop-member
invariant-loop-member l = HavePassed (dtd_in l.tested) l.number l.end (λ r. WeighsAsOne l.tested.entries.now (part_site l.number) (part_site r) 0) l.member

abbrev pub decreases-loop-member : goal.decreases-loop-member
decreases-loop-member l = l.end - l.member
