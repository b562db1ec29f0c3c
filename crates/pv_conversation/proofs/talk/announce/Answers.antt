use Rattle.std.proofs.Common.{◌++◌, refl}
use Rattle.pv_opening.specs.ShownCourses.{cut_off}
use Rattle.pv_io.proofs.Streams.{front_behind}
use Rattle.pv_conversation.proofs.talk.announce.Goals as goal

pub returns-in-Err : goal.returns-in-Err
returns-in-Err g c = λ old replies written.
    cut_off (replies ++ c.args.text.now) refl refl (front_behind old _ _ replies c.args.text.now written c.in-Err.ensures.err) c.in-Err.ensures.cause
