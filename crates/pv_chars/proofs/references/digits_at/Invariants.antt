use Rattle.std.proofs.Common.{length}
use Rattle.pv_chars.proofs.ReferenceLemmas.{HasDigits}
use Rattle.pv_chars.proofs.references.digits_at.Given as goal

abbrev pub invariant-digits : goal.invariant-digits
invariant-digits l = HasDigits l.base l.bytes l.rest l.value

abbrev pub decreases-digits : goal.decreases-digits
decreases-digits l = length l.rest
