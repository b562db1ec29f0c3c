use Rattle.std.proofs.Common.{take, ◌≡◌}
use Rattle.pv_dtd.specs.PlainForms.{plain_dtd}
use Rattle.pv_offer.proofs.offers.names_of.Given as goal

abbrev pub invariant-loop-number : goal.invariant-loop-number
invariant-loop-number l = l.names.items ≡ take l.number (plain_dtd l.dtd).names
