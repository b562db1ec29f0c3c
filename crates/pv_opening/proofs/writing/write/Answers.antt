use Rattle.std.proofs.Common.{refl}
use Rattle.pv_opening.specs.ShownCourses.{cut_off}
use Rattle.pv_opening.specs.Response.{plain_response}
use Rattle.pv_opening.proofs.writing.write.Goals as goal

pub returns-in-Err : goal.returns-in-Err
returns-in-Err g c =
    cut_off (plain_response c.args.response.now).output refl refl (rw c.deref.ensures.value at c.in-Err.ensures.err) c.in-Err.ensures.cause
