use Rattle.std.proofs.Common.{sym}
use Rattle.pv_flat.proofs.States.{last-name}
use Rattle.pv_flat.proofs.state.Events.go_inside.Goals as goal

pub go_on-requires-clause-innermost : goal.go_on-requires-clause-innermost
go_on-requires-clause-innermost c = last-name c.args.self.now.elements.items c.in-Some.name.now (sym (rw c.deref.ensures.value at c.in-Some.ensures.value))
