-- Numbers and paths are read as they are written.
use Rattle.std.proofs.Common.{◌≡◌, ℕ, ◌<◌, ◌≤◌, List, [], ◌∷◌, length, Some, None, Bool, true, false, refl, sym, ap, ◌∙◌, arith, decimal}
use Rattle.std.proofs.lemmas.Bool.Decides.{nat_tests}
use Rattle.std.proofs.lemmas.Fmt.{decimal_is_IsNumeral}
use Rattle.std.proofs.lemmas.Slice.Eq.{bytes_eq-Decides}
use Rattle.std.proofs.lemmas.Str.Parse.{digit_from_value}
use Rattle.std.specs.Prelude.{nat_le}
use Rattle.std.specs.Str.{bytes_eq}
use Rattle.std.specs.Str.Parse.{AllDigits, digits_value}
use Rattle.pv_words.specs.Numbers.{MAX_NUMBER, number_spelled}
use Rattle.pv_words.proofs.FirstWords.{Free}

digits-free : (d : ℕ) (ds : List ℕ) → d < 48 → AllDigits 10 ds → Free d ds
digits-free d [] low all = tt
digits-free d (c ∷ cs) low all =
    (λ same. let range = digit_from_value c all.0 in absurd (omega arith), digits-free d cs low all.1)

-- no blank and no dot stands among the digits of a number
pub decimal-free : (d n : ℕ) → d < 48 → n ≤ MAX_NUMBER → Free d (decimal n)
decimal-free d n low within = digits-free d (decimal n) low (decimal_is_IsNumeral n (omega arith)).0.1

pub number_spelled-decimal : (n : ℕ) → n ≤ MAX_NUMBER → number_spelled (decimal n) ≡ Some n
number_spelled-decimal n within =
    let value : digits_value 10 (decimal n) ≡ n = (decimal_is_IsNumeral n (omega arith)).1 in
    let same : bytes_eq (decimal n) (decimal n) ≡ true = (bytes_eq-Decides (decimal n) (decimal n)).1 refl in
    let small : nat_le n MAX_NUMBER ≡ true = grind (arith, nat_tests) in
    rw (value, same, small) refl

-- a word is the digits of a number
pub record IsNumberWord (word : List ℕ) (n : ℕ) : Type 0 where
  pub digits : word ≡ decimal n
  pub within : n ≤ MAX_NUMBER

number-by : (word : List ℕ) (n m : ℕ) (same small : Bool) → bytes_eq (decimal m) word ≡ same → nat_le m MAX_NUMBER ≡ small → m ≡ digits_value 10 word →
    number_spelled word ≡ Some n → IsNumberWord word n
number-by word n m true true is fits value found =
    let these = rw (sym value, is, fits) at found in
    let number : m ≡ n = cc in
    record { digits = sym ((bytes_eq-Decides (decimal m) word).0 is) ∙ ap decimal number; within = let le : m ≤ MAX_NUMBER = grind (arith, nat_tests) in omega arith }
number-by word n m true false is fits value found = let these = rw (sym value, is, fits) at found in cc
number-by word n m false small is fits value found = let these = rw (sym value, is) at found in cc

pub number-word : (word : List ℕ) (n : ℕ) → number_spelled word ≡ Some n → IsNumberWord word n
number-word word n found =
    number-by word n (digits_value 10 word) (bytes_eq (decimal (digits_value 10 word)) word) (nat_le (digits_value 10 word) MAX_NUMBER) refl refl refl found

pub decimal-some : (n : ℕ) → n ≤ MAX_NUMBER → decimal n ≡ [] → ⊥
decimal-some n within none = let long = (decimal_is_IsNumeral n (omega arith)).0.0 in let short = ap length none in omega arith

-- a word that isn't the digits of a number is none
pub no-number : (word : List ℕ) → ((n : ℕ) → n ≤ MAX_NUMBER → word ≡ decimal n → ⊥) → number_spelled word ≡ None
no-number word none =
    elim (number_spelled word) as (λ o. number_spelled word ≡ o → number_spelled word ≡ None) [
      | None ↦ λ is. is
      | Some n ↦ λ is. let read = number-word word n is in absurd (none n read.within read.digits)
    ] refl
