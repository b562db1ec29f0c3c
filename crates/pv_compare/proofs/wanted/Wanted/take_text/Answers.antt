use Rattle.pv_compare.proofs.Wants.{no-more-there}
use Rattle.pv_compare.proofs.wanted.Wanted.take_text.Goals as goal

pub returns-then-not-take_byte : goal.returns-then-not-take_byte
returns-then-not-take_byte c = λ more is. no-more-there c.args.bytes.now c.loop-byte.byte-index _ _
    more c.loop-byte-test.true c.loop-byte.invariant (rw c.if-not-take_byte.true at c.take_byte.ensures) is
