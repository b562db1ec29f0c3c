use Rattle.std.proofs.Common.{arith}
use Rattle.pv_flat.proofs.Openings.{few-behind}
use Rattle.pv_flat.proofs.state.Events.pass_tag.Goals as goal

pub overflow_add-self : goal.overflow_add-self
overflow_add-self c = omega (arith, few-behind c.args.self.now.root c.args.self.now.bytes.now c.args.opening.now c.requires, c.requires.few)
