use Rattle.std.proofs.Common.{subst}
use Rattle.std.specs.Prelude.{IfErr}
use Rattle.pv_cache.specs.Moves.{HasGround}
use Rattle.pv_cache.specs.Stamps.{StampedDoc}
use Rattle.pv_cache.proofs.marked.Marked.edit.Goals as goal

pub returns-clause-refused : goal.returns-clause-refused
returns-clause-refused g c =
    subst (λ (s : StampedDoc). IfErr c.edit.result (HasGround 0 s.dtd s.root s.doc c.args.edit.now))
    c.self.view_is c.edit.ensures.refused
