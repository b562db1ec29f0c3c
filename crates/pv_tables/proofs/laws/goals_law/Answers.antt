use Rattle.std.proofs.Common.{subst, ◌≡◌}
use Rattle.std.specs.Prelude.{true}
use Rattle.pv_tables.specs.Values.{are_same_goals}
use Rattle.pv_tables.proofs.Values.{itself, same_goals}
use Rattle.pv_tables.proofs.laws.goals_law.Goals as goal

pub returns : goal.returns
returns c = λ a b. (same_goals a b, λ e. subst (λ x. are_same_goals a x ≡ true) e (itself a))
