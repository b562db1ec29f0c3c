use Rattle.std.proofs.Common.{ap, refl, ◌+◌}
use Rattle.pv_parallel.proofs.JobLists.{adds_job}
use Rattle.pv_parallel.proofs.gathering.Gathering.add.Goals as goal

pub returns-clause-added : goal.returns-clause-added
returns-clause-added c = λ here run lists few.
    adds_job here c.args.self.now _ _ c.args.longest c.in_ok-push.ensures.items refl run (ap (λ n. c.args.self.now.count + n) lists) c.max-self.ensures few
