use Rattle.pv_check.proofs.WholeRoots.{tells_impossible, tells_possible}
use Rattle.pv_check.proofs.checking.tell.Goals as goal

pub returns-in-Some-first : goal.returns-in-Some-first
returns-in-Some-first c =
    λ s d root lists f. tells_impossible s d root lists c.args.found f c.in-Some-first.path
    c.in-None.is c.in-Some-first.is

pub returns-in-None-first : goal.returns-in-None-first
returns-in-None-first c =
    λ s d root lists f. tells_possible s d root lists c.args.found f c.in-None.is c.in-None-first.is
