use Rattle.std.proofs.Common.{◌++◌, codes, refl}
use Rattle.pv_opening.specs.ShownCourses.{cut_off}
use Rattle.pv_io.proofs.Streams.{front_behind}
use Rattle.pv_many.proofs.input.announce_limit.Goals as goal

pub returns-in-Err : goal.returns-in-Err
returns-in-Err g c = λ old answers written.
    cut_off (answers ++ codes "limit names\n") refl refl (front_behind old _ _ answers
    (codes "limit names\n") written c.in-Err.ensures.err) c.in-Err.ensures.cause
