use Rattle.std.proofs.Common.{◌≤◌, length, inr, arith}
use Rattle.pv_dtd.specs.Facts.{MAX_DTD_BYTES}
use Rattle.pv_dtd.specs.Meaning.{too_long}
use Rattle.pv_dtd.proofs.ReaderAnswers.{read_by, refused_by, exactly}
use Rattle.pv_dtd.proofs.reading.read_dtd.Goals as goal

pub returns-then-bytes-gt-MAX_DTD_BYTES-clause-refused : goal.returns-then-bytes-gt-MAX_DTD_BYTES-clause-refused
returns-then-bytes-gt-MAX_DTD_BYTES-clause-refused c = inr (too_long (omega arith))

pub returns-then-bytes-gt-MAX_DTD_BYTES-clause-exactly : goal.returns-then-bytes-gt-MAX_DTD_BYTES-clause-exactly
returns-then-bytes-gt-MAX_DTD_BYTES-clause-exactly c = exactly c.args.bytes.now _ tt (inr (too_long (omega arith)))

pub returns-clause-read : goal.returns-clause-read
returns-clause-read c =
    let short : length c.args.bytes.now ≤ MAX_DTD_BYTES = omega arith in
    read_by c.args.bytes.now c.after_byte_order_mark.result.now short c.after_byte_order_mark.ensures.behind _ c.dtd_of.ensures

pub returns-clause-refused : goal.returns-clause-refused
returns-clause-refused c =
    let short : length c.args.bytes.now ≤ MAX_DTD_BYTES = omega arith in
    refused_by c.args.bytes.now c.after_byte_order_mark.result.now short c.after_byte_order_mark.ensures.behind _ c.dtd_of.ensures

pub returns-clause-exactly : goal.returns-clause-exactly
returns-clause-exactly c =
    let short : length c.args.bytes.now ≤ MAX_DTD_BYTES = omega arith in
    exactly c.args.bytes.now _ (read_by c.args.bytes.now c.after_byte_order_mark.result.now short
    c.after_byte_order_mark.ensures.behind _ c.dtd_of.ensures) (refused_by c.args.bytes.now
    c.after_byte_order_mark.result.now short c.after_byte_order_mark.ensures.behind _ c.dtd_of.ensures)
