use Rattle.std.proofs.Common.{arith}
use Rattle.pv_tree.proofs.Forests.{length-nodes}
use Rattle.pv_tree.proofs.walk.Lists.next.Goals as goal

pub returns-in-Some-clause-few : goal.returns-in-Some-clause-few
returns-in-Some-clause-few c = omega (arith, c.args.self.now.levels.small, length-nodes c.args.self.now.levels.here.nodes.now)
