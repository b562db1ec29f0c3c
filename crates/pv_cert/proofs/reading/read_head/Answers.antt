use Rattle.std.proofs.Common.{◌≡◌, length, arith}
use Rattle.pv_cert.proofs.Heads.{fault-at-body, head-stands}
use Rattle.pv_cert.proofs.reading.read_head.Goals as goal

pub returns-in_default-clause-refused : goal.returns-in_default-clause-refused
returns-in_default-clause-refused c =
    let n : c.len.result ≡ length c.in_ok-marks.marks.items = omega arith in
    rw n (fault-at-body c.args.bytes.now c.in_ok-total.behind_total.now c.in_ok-total.total
    c.in_ok-marks.marks.items c.in_ok-marks.behind_marks.now c.in_ok-total.ensures.read
    c.in_ok-marks.ensures.read c.in_default.ensures)

pub returns-clause-read : goal.returns-clause-read
returns-clause-read c =
    head-stands c.args.bytes.now c.in_ok-total.behind_total.now c.in_ok-total.total
    c.in_ok-marks.marks.items c.in_ok-marks.behind_marks.now c.in-Some.body.now
    c.in-Some.rest.now c.in_ok-total.ensures.read c.in_ok-marks.ensures.read c.in-Some.ensures
