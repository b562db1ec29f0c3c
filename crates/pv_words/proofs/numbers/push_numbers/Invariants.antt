use Rattle.std.proofs.Common.{◌≡◌, ◌++◌, drop}
use Rattle.pv_words.specs.Numbers.{numbers_text}
use Rattle.pv_words.proofs.numbers.push_numbers.Given as goal

-- what is written so far, and what is left to write, is all
abbrev pub invariant-loop-number : goal.invariant-loop-number
invariant-loop-number l = l.text.items ++ numbers_text (drop l.number-index l.numbers) ≡ l.fn.text.items ++ numbers_text l.numbers
