-- Numbers are read digit by digit.
use Rattle.std.proofs.Common.{◌≡◌, ◌≤◌, ◌<◌, ◌+◌, ◌*◌, zero, suc, ℕ, List, [], ◌∷◌, ◌++◌, length, get_or, refl, sym, ap, subst, ◌∙◌, arith, decimal, append-nil, Some, None}
use Rattle.std.proofs.lemmas.Fmt.{decimal_digit, decimal_injective, decimal_is_IsNumeral, decimal-digits_value, first_decimal}
use Rattle.std.proofs.lemmas.Str.{digit_value_digit}
use Rattle.std.proofs.lemmas.Str.Parse.{digit_from_value, numerals_by_value, tells_digits}
use Rattle.std.specs.Char.{IsAsciiDigit, digit_value}
use Rattle.std.specs.Str.Parse.{AllDigits, digits_value, digits_value_after}
use Rattle.pv_words.specs.Numbers.{MAX_NUMBER, number_spelled, BeginsNoDigit, GoesOnTo, IsNumberAt, IsNumberThen}
use Rattle.pv_words.proofs.NumberWords.{no-number, number_spelled-decimal}

-- a byte is this digit
record IsDigit (b d : ℕ) : Type 0 where
  pub range : IsAsciiDigit b
  pub value : digit_value b ≡ d

digit-is : (b d : ℕ) → b ≡ 48 + d → d < 10 → IsDigit b d
digit-is b d is small =
    let range : IsAsciiDigit b = (omega arith, omega arith) in
    record { range = range; value = omega (arith, digit_value_digit b range) }

-- nothing follows a number
pub none-more : (number : ℕ) (rest : List ℕ) → number ≤ MAX_NUMBER → BeginsNoDigit rest → GoesOnTo number rest number rest
none-more number rest within ended = record { digits = []; are_digits = tt; value = refl; within = within; whole = refl; ended = ended }

-- one digit is taken off
pub one-more : (number b d : ℕ) (more : List ℕ) (n : ℕ) (rest : List ℕ) → b ≡ 48 + d → d < 10 → GoesOnTo (number * 10 + d) more n rest → GoesOnTo number (b ∷ more) n rest
one-more number b d more n rest is small g =
    let digit = digit-is b d is small in
    let low : digit_value b < 10 = omega (arith, digit.value) in
    record {
      digits = b ∷ g.digits;
      are_digits = (low, g.are_digits);
      value = g.value ∙ ap (λ m. digits_value_after 10 (number * 10 + m) g.digits) (sym digit.value);
      within = g.within;
      whole = ap (λ l. b ∷ l) g.whole;
      ended = g.ended;
    }

less-by : (number b d : ℕ) (more : List ℕ) (n : ℕ) (rest digits : List ℕ) → IsDigit b d →
    AllDigits 10 digits → n ≡ digits_value_after 10 number digits → n ≤ MAX_NUMBER →
    b ∷ more ≡ digits ++ rest → BeginsNoDigit rest →
    GoesOnTo (number * 10 + d) more n rest
less-by number b d more n rest [] digit all value within whole ended = absurd (subst BeginsNoDigit (sym whole) ended digit.range)
less-by number b d more n rest (c ∷ cs) digit all value within whole ended =
    let first : c ≡ b = cc in
    let others : more ≡ cs ++ rest = cc in
    record {
      digits = cs;
      are_digits = all.1;
      value = value
          ∙ ap (λ m. digits_value_after 10 (number * 10 + m) cs) (ap digit_value first ∙ digit.value);
      within = within;
      whole = others;
      ended = ended;
    }

pub one-less : (number b d : ℕ) (more : List ℕ) (n : ℕ) (rest : List ℕ) → b ≡ 48 + d → d < 10 → GoesOnTo number (b ∷ more) n rest → GoesOnTo (number * 10 + d) more n rest
one-less number b d more n rest is small g = less-by number b d more n rest g.digits (digit-is b d is small) g.are_digits g.value g.within g.whole g.ended

value-grows : (n : ℕ) (ds : List ℕ) → n ≤ digits_value_after 10 n ds
value-grows n [] = omega arith
value-grows n (c ∷ cs) = omega (arith, value-grows (n * 10 + digit_value c) cs)

-- with one more digit it is past the most
pub too-much : (number b d : ℕ) (more : List ℕ) (n : ℕ) (rest : List ℕ) → b ≡ 48 + d → d < 10 → MAX_NUMBER < number * 10 + d → GoesOnTo number (b ∷ more) n rest → ⊥
too-much number b d more n rest is small past g =
    let l = one-less number b d more n rest is small g in
    omega (arith, l.value, l.within, past, value-grows (number * 10 + d) l.digits)

-- what a loop has read, and what is left, go on to the same numbers
pub record IsPartRead (first : ℕ) (bytes : List ℕ) (number : ℕ) (rest : List ℕ) : Type 0 where
  pub within : number ≤ MAX_NUMBER
  pub ahead : (n : ℕ) (behind : List ℕ) → GoesOnTo first bytes n behind → GoesOnTo number rest n behind
  pub back : (n : ℕ) (behind : List ℕ) → GoesOnTo number rest n behind → GoesOnTo first bytes n behind

pub nothing-read : (first : ℕ) (bytes : List ℕ) → first ≤ MAX_NUMBER → IsPartRead first bytes first bytes
nothing-read first bytes small = record { within = small; ahead = λ n behind g. g; back = λ n behind g. g }

pub digit-read : (first : ℕ) (bytes : List ℕ) (number : ℕ) (rest : List ℕ) (b d : ℕ) (more : List ℕ)
    (next : ℕ) → IsPartRead first bytes number rest → rest ≡ b ∷ more → b ≡ 48 + d → d < 10 →
    next ≡ number * 10 + d → next ≤ MAX_NUMBER →
    IsPartRead first bytes next more
digit-read first bytes number rest b d more next read front is small sum within = record {
  within = within;
  ahead = λ n behind g. subst (λ m. GoesOnTo m more n behind) (sym sum) (one-less number b d more n behind is small (subst (λ l. GoesOnTo number l n behind) front (read.ahead n behind g)));
  back = λ n behind g. read.back n behind (subst (λ l. GoesOnTo number l n behind) (sym front) (one-more number b d more n behind is small (subst (λ m. GoesOnTo m more n behind) sum g)));
}

pub past-read : (first : ℕ) (bytes : List ℕ) (number : ℕ) (rest : List ℕ) (b d : ℕ)
    (more : List ℕ) → IsPartRead first bytes number rest → rest ≡ b ∷ more → b ≡ 48 + d → d < 10 →
    MAX_NUMBER < number * 10 + d →
    (n : ℕ) (behind : List ℕ) → GoesOnTo first bytes n behind → ⊥
past-read first bytes number rest b d more read front is small past n behind g =
    too-much number b d more n behind is small past (subst (λ l. GoesOnTo number l n behind) front (read.ahead n behind g))

pub whole-read : (first : ℕ) (bytes : List ℕ) (number : ℕ) (rest : List ℕ) → IsPartRead first bytes number rest → BeginsNoDigit rest → GoesOnTo first bytes number rest
whole-read first bytes number rest read ended = read.back number rest (none-more number rest read.within ended)

-- at the end no digit is left
pub none-left : (bytes : List ℕ) → length bytes < 1 → BeginsNoDigit bytes
none-left [] none = tt
none-left (b ∷ bs) none = absurd (omega arith)

-- ---- from the first digit on

-- the digits of a number, the first apart
record HasFirst (n : ℕ) : Type 0 where
  pub first : ℕ
  pub others : List ℕ
  pub is : decimal n ≡ first ∷ others
  pub range : IsAsciiDigit first
  pub are_digits : AllDigits 10 others
  pub value : digits_value_after 10 (digit_value first) others ≡ n

first-by : (n : ℕ) (ds : List ℕ) → decimal n ≡ ds → 0 < length ds → AllDigits 10 ds → digits_value 10 ds ≡ n → HasFirst n
first-by n [] is some all value = absurd (omega arith)
first-by n (c ∷ cs) is some all value =
    let sum : digit_value c ≡ 0 * 10 + digit_value c = omega arith in
    record { first = c; others = cs; is = is; range = digit_from_value c all.0; are_digits = all.1; value = ap (λ m. digits_value_after 10 m cs) sum ∙ value }

first-of : (n : ℕ) → n ≤ MAX_NUMBER → HasFirst n
first-of n within = let known = decimal_is_IsNumeral n (omega arith) in first-by n (decimal n) refl known.0.0 known.0.1 known.1

-- no number stands where no digit does
pub none-at : (bytes : List ℕ) → BeginsNoDigit bytes → (n : ℕ) (behind : List ℕ) → IsNumberAt bytes n behind → ⊥
none-at bytes none n behind a =
    let f = first-of n a.within in
    subst BeginsNoDigit (a.whole ∙ ap (λ l. l ++ behind) f.is) none f.range

-- the digits after a first one that isn't 0
pub from-first : (bytes : List ℕ) (b d : ℕ) (rest : List ℕ) (n : ℕ) (behind : List ℕ) → bytes ≡ b ∷ rest → b ≡ 48 + d → 0 < d → d < 10 → GoesOnTo d rest n behind → IsNumberAt bytes n behind
from-first bytes b d rest n behind front is some small g =
    let digit = digit-is b d is small in
    let low : digit_value b < 10 = omega (arith, digit.value) in
    let sum : 0 * 10 + digit_value b ≡ d = omega (arith, digit.value) in
    let value : digits_value 10 (b ∷ g.digits) ≡ n = ap (λ m. digits_value_after 10 m g.digits) sum ∙ sym g.value in
    let spelled : decimal (digits_value 10 (b ∷ g.digits)) ≡ b ∷ g.digits =
    decimal-digits_value (numerals_by_value _ tells_digits) (b ∷ g.digits) (low, g.are_digits) (omega arith) (λ lead. absurd (omega (arith, lead))) (omega (arith, value, g.within)) in
    record { within = g.within; whole = front ∙ ap (λ l. b ∷ l) g.whole ∙ ap (λ l. l ++ behind) (sym spelled ∙ ap decimal value); ended = g.ended }

pub to-first : (bytes : List ℕ) (b d : ℕ) (rest : List ℕ) (n : ℕ) (behind : List ℕ) → bytes ≡ b ∷ rest → b ≡ 48 + d → d < 10 → IsNumberAt bytes n behind → GoesOnTo d rest n behind
to-first bytes b d rest n behind front is small a =
    let f = first-of n a.within in
    let digit = digit-is b d is small in
    let whole : b ∷ rest ≡ f.first ∷ (f.others ++ behind) = sym front ∙ a.whole ∙ ap (λ l. l ++ behind) f.is in
    let first : f.first ≡ b = cc in
    let others : rest ≡ f.others ++ behind = cc in
    record {
      digits = f.others;
      are_digits = f.are_digits;
      value = sym f.value
          ∙ ap (λ m. digits_value_after 10 m f.others) (ap digit_value first ∙ digit.value);
      within =
          a.within;
      whole = others;
      ended = a.ended;
    }

-- 0, with no digit after it
pub zero-at : (bytes : List ℕ) (b d : ℕ) (rest : List ℕ) → bytes ≡ b ∷ rest → b ≡ 48 + d → d ≡ 0 → BeginsNoDigit rest → IsNumberAt bytes 0 rest
zero-at bytes b d rest front is none ended =
    let code : b ≡ 48 + 0 = omega arith in
    record { within = omega arith; whole = front ∙ ap (λ c. c ∷ rest) code ∙ ap (λ l. l ++ rest) (sym (decimal_digit 0 (omega arith))); ended = ended }

-- and no number where a digit is after it
pub no-zero-at : (bytes : List ℕ) (b d : ℕ) (rest : List ℕ) → bytes ≡ b ∷ rest → b ≡ 48 + d → d ≡ 0 → (BeginsNoDigit rest → ⊥) → (n : ℕ) (behind : List ℕ) → IsNumberAt bytes n behind → ⊥
no-zero-at bytes b d rest front is none digit zero behind a =
    let code : b ≡ 48 + 0 = omega arith in
    let whole : b ∷ rest ≡ (48 + 0) ∷ behind = sym front ∙ a.whole ∙ ap (λ l. l ++ behind) (decimal_digit 0 (omega arith)) in
    let others : rest ≡ behind = cc in
    digit (subst BeginsNoDigit (sym others) a.ended)
no-zero-at bytes b d rest front is none digit (suc m) behind a =
    let f = first-of (suc m) a.within in
    let whole : b ∷ rest ≡ f.first ∷ (f.others ++ behind) = sym front ∙ a.whole ∙ ap (λ l. l ++ behind) f.is in
    let first : f.first ≡ b = cc in
    let high : 48 < get_or (decimal (suc m)) 0 0 = first_decimal (suc m) (omega arith) (omega (arith, a.within)) in
    let at : get_or (decimal (suc m)) 0 0 ≡ f.first = ap (λ l. get_or l 0 0) f.is in
    omega arith

-- ---- one number

record SameDigits (a c x y : List ℕ) : Type 0 where
  pub digits : a ≡ c
  pub rests : x ≡ y

same-digits : (a c x y : List ℕ) → AllDigits 10 a → AllDigits 10 c → BeginsNoDigit x → BeginsNoDigit y → a ++ x ≡ c ++ y → SameDigits a c x y
same-digits [] [] x y all each ended done is = record { digits = refl; rests = is }
same-digits [] (c ∷ cs) x y all each ended done is = absurd (subst BeginsNoDigit is ended (digit_from_value c each.0))
same-digits (a ∷ us) [] x y all each ended done is = absurd (subst BeginsNoDigit (sym is) done (digit_from_value a all.0))
same-digits (a ∷ us) (c ∷ cs) x y all each ended done is =
    let first : a ≡ c = cc in
    let others : us ++ x ≡ cs ++ y = cc in
    let below = same-digits us cs x y all.1 each.1 ended done others in
    record { digits = λ i. first i ∷ below.digits i; rests = below.rests }

-- what stands after the digits at the front is one thing
one-behind : (bytes : List ℕ) (n m : ℕ) (x y : List ℕ) → IsNumberAt bytes n x → IsNumberAt bytes m y → x ≡ y
one-behind bytes n m x y a other =
    let all = (decimal_is_IsNumeral n (omega (arith, a.within))).0.1 in
    let each = (decimal_is_IsNumeral m (omega (arith, other.within))).0.1 in
    (same-digits (decimal n) (decimal m) x y all each a.ended other.ended (sym a.whole ∙ other.whole)).rests

-- ---- before another byte, and alone
stop-behind : (stop : ℕ) → (IsAsciiDigit stop → ⊥) → (bytes : List ℕ) (n : ℕ) (rest : List ℕ) → IsNumberThen stop bytes n rest → IsNumberAt bytes n (stop ∷ rest)
stop-behind stop other bytes n rest b = record { within = b.within; whole = b.whole; ended = other }

pub no-stop-behind : (stop : ℕ) → (IsAsciiDigit stop → ⊥) → (bytes : List ℕ) (n : ℕ) (behind : List ℕ) → IsNumberAt bytes n behind → ((rest : List ℕ) → behind ≡ stop ∷ rest → ⊥) →
    (m : ℕ) (rest : List ℕ) → IsNumberThen stop bytes m rest → ⊥
no-stop-behind stop other bytes n behind a none m rest b = none rest (one-behind bytes n m behind (stop ∷ rest) a (stop-behind stop other bytes m rest b))

pub one-number-then : (stop : ℕ) (bytes : List ℕ) (n m : ℕ) (x y : List ℕ) → (IsAsciiDigit stop → ⊥) → IsNumberThen stop bytes n x → IsNumberThen stop bytes m y → n ≡ m
one-number-then stop bytes n m x y other one second =
    let a = stop-behind stop other bytes n x one in
    let b = stop-behind stop other bytes m y second in
    let all = (decimal_is_IsNumeral n (omega (arith, a.within))).0.1 in
    let each = (decimal_is_IsNumeral m (omega (arith, b.within))).0.1 in
    let same = (same-digits (decimal n) (decimal m) (stop ∷ x) (stop ∷ y) all each a.ended b.ended (sym a.whole ∙ b.whole)).digits in
    decimal_injective n m (omega (arith, a.within)) (omega (arith, b.within)) same

alone : (bytes : List ℕ) (n : ℕ) → n ≤ MAX_NUMBER → bytes ≡ decimal n → IsNumberAt bytes n []
alone bytes n within is = record { within = within; whole = is ∙ sym (append-nil (decimal n)); ended = tt }

pub spelled-none : (bytes : List ℕ) → ((n : ℕ) (behind : List ℕ) → IsNumberAt bytes n behind → ⊥) → number_spelled bytes ≡ None
spelled-none bytes none = no-number bytes (λ n within is. none n [] (alone bytes n within is))

pub spelled-not-alone : (bytes : List ℕ) (n : ℕ) (rest : List ℕ) → IsNumberAt bytes n rest → (rest ≡ [] → ⊥) → number_spelled bytes ≡ None
spelled-not-alone bytes n rest a some = no-number bytes (λ m within is. some (one-behind bytes n m rest [] a (alone bytes m within is)))

pub spelled-alone : (bytes : List ℕ) (n : ℕ) (rest : List ℕ) → IsNumberAt bytes n rest → rest ≡ [] → number_spelled bytes ≡ Some n
spelled-alone bytes n rest a none =
    let is : bytes ≡ decimal n = a.whole ∙ ap (λ l. decimal n ++ l) none ∙ append-nil (decimal n) in
    rw is (number_spelled-decimal n a.within)
