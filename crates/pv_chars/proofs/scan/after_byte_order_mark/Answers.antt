use Rattle.std.proofs.Common.{[]}
use Rattle.pv_chars.specs.ByteOrderMark.{BYTE_ORDER_MARK, marked, unmarked}
use Rattle.pv_chars.proofs.scan.after_byte_order_mark.Goals as goal

pub returns-in-Some-clause-behind : goal.returns-in-Some-clause-behind
returns-in-Some-clause-behind c = (BYTE_ORDER_MARK, marked c.in-Some.ensures.found)

pub returns-in-None-clause-behind : goal.returns-in-None-clause-behind
returns-in-None-clause-behind c = ([], unmarked c.in-None.ensures.found)
