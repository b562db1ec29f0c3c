use Rattle.std.proofs.Common.{◌≡◌, ℕ, List, Bool, true, false, refl}
use Rattle.pv_chars.specs.Characters.{IsChars}
use Rattle.pv_chars.specs.CharReading.{is_chars}
use Rattle.pv_chars.proofs.CharFacts.{chars_are, are_chars}
use Rattle.pv_chars.proofs.char_reading.is_chars.Goals as goal

same : (bytes : List ℕ) (mine answer : Bool) → is_chars bytes ≡ mine → (answer ≡ true → IsChars bytes) → (IsChars bytes → answer ≡ true) → answer ≡ mine
same bytes true answer m says must = must (chars_are bytes m)
same bytes false false m says must = refl
same bytes false true m says must = let some = are_chars bytes (says refl) in cc

pub returns : goal.returns
returns c = same c.args.bytes.now _ _ refl c.are_chars.ensures.0 c.are_chars.ensures.1
