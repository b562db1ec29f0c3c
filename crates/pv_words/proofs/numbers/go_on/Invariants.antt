use Rattle.std.proofs.Common.{length}
use Rattle.pv_words.proofs.DigitsRead.{IsPartRead}
use Rattle.pv_words.proofs.numbers.go_on.Given as goal

abbrev pub invariant-digits : goal.invariant-digits
invariant-digits l = IsPartRead l.first l.bytes l.number l.rest

abbrev pub decreases-digits : goal.decreases-digits
decreases-digits l = length l.rest
