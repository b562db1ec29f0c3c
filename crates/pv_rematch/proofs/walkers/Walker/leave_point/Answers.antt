use Rattle.std.proofs.Common.{refl}
use Rattle.pv_rematch.proofs.KeptWalks.{read_left}
use Rattle.pv_rematch.proofs.walkers.Walker.leave_point.Goals as goal

pub returns-clause-read : goal.returns-clause-read
returns-clause-read c = λ p u a h.
    read_left p u a c.args.self.now _ _ refl c.in_ok-state.ensures.start c.in_ok-state.ensures.end
    c.in_ok-state.ensures.positions refl refl c.in_ok-push.ensures.items h
