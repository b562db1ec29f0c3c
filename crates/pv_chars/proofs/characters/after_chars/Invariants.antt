use Rattle.std.proofs.Common.{◌≡◌, ◌++◌, length, List, ℕ}
use Rattle.pv_chars.specs.Characters.{is_char, AreAll}
use Rattle.pv_chars.proofs.characters.after_chars.Given as goal

abbrev pub invariant-chars : goal.invariant-chars
invariant-chars l = (front : List ℕ) × AreAll is_char front × (l.bytes ≡ front ++ l.rest)

abbrev pub decreases-chars : goal.decreases-chars
decreases-chars l = length l.rest
