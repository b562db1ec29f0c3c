use Rattle.std.proofs.Common.{arith}
use Rattle.pv_read.specs.Meaning.{long}
use Rattle.pv_flat.proofs.Openings.{not-opened, opened}
use Rattle.pv_flat.proofs.events.opening_of.Goals as goal

pub returns-then-bytes-gt-MAX_FLAT_BYTES-clause-refused : goal.returns-then-bytes-gt-MAX_FLAT_BYTES-clause-refused
returns-then-bytes-gt-MAX_FLAT_BYTES-clause-refused c = long (omega arith)

pub returns-clause-opens : goal.returns-clause-opens
returns-clause-opens c =
    opened c.args.root.now c.args.bytes.now c.after_byte_order_mark.ensures.behind.0
    c.after_byte_order_mark.result.now c.root_tag.result (omega arith)
    c.after_byte_order_mark.ensures.behind.1 c.root_tag.ensures.opens

pub returns-clause-refused : goal.returns-clause-refused
returns-clause-refused c =
    not-opened c.args.root.now c.args.bytes.now c.after_byte_order_mark.ensures.behind.0
    c.after_byte_order_mark.result.now c.root_tag.result (omega arith)
    c.after_byte_order_mark.ensures.behind.1 c.root_tag.ensures.refused
