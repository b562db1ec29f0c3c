use Rattle.std.proofs.Common.{Err, ◌≡◌}
use Rattle.pvlong.proofs.program.end.Goals as goal

pub returns-in-Ok : goal.returns-in-Ok
returns-in-Ok g c = rw c.in-Ok.is (record { status = c.respond.result; output = c.respond.ensures; ends = c.of.ensures })

pub returns-in-Err : goal.returns-in-Err
returns-in-Err g c =
    let stopped : c.args.answer ≡ Err c.in-Err.stop = cc in
    rw stopped (record { status = c.respond-in-Err.result; output = c.respond-in-Err.ensures; ends = c.of-in-Err.ensures })
