-- What the ranges of characters hold.
use Rattle.std.proofs.Common.{◌≡◌, ℕ, true, arith}
use Rattle.std.proofs.lemmas.Bool.Decides.{nat_tests}
use Rattle.std.specs.Char.{IsScalar}
use Rattle.pv_chars.specs.Characters.{is_char, is_name_start, is_name_char}

pub char_is_scalar : (c : ℕ) → is_char c ≡ true → IsScalar c
char_is_scalar c h = grind (arith, nat_tests)

pub name_char_is_char : (c : ℕ) → is_name_char c ≡ true → is_char c ≡ true
name_char_is_char c h = grind (arith, nat_tests)

pub name_start_is_name_char : (c : ℕ) → is_name_start c ≡ true → is_name_char c ≡ true
name_start_is_name_char c h = grind (arith, nat_tests)
