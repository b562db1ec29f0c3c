-- What the reader of a character answers.
use Rattle.std.proofs.Common.{◌≡◌, ⊎_elim, ℕ, min, List, [], ◌∷◌, length, codes, Bool, true, false, ◌&&◌, not, cond, Option, Some, None, refl, sym, ap, ◌∙◌, arith, length-append}
use Rattle.std.specs.Prelude.{encode_utf8}
use Rattle.std.proofs.lemmas.Bool.{cases_lt}
use Rattle.pv_chars.specs.Characters.{is_char}
use Rattle.pv_chars.specs.References.{number, TakesDigits, PAST_CHARS}
use Rattle.pv_chars.specs.Scan.{after_bytes}
use Rattle.pv_chars.proofs.ReferenceLemmas.{same_digits_by, no_char_past}
use Rattle.pv_params.specs.Items.{TextItem, puts}
use Rattle.pv_chars.specs.CharReading.{is_nothing}
use Rattle.pv_params.specs.ItemReading.{digits_at, ended_by, character_at}
use Rattle.pv_params.proofs.ValuesRead.{digits_taken}

nothing_of : (l : List ℕ) → length l ≡ 0 → is_nothing l ≡ true
nothing_of [] e = refl
nothing_of (b ∷ bs) e = absurd (omega arith)

something_of : (l : List ℕ) → (length l ≡ 0 → ⊥) → is_nothing l ≡ false
something_of [] some = absurd (some refl)
something_of (b ∷ bs) some = refl

neither : {A : Type 0} (test : Bool) → cond {A = Option A} test None None ≡ None
neither true = refl
neither false = refl

never_both : (test : Bool) (o : Option (TextItem × List ℕ)) → cond (test && false) o None ≡ None
never_both true o = refl
never_both false o = refl

value_below : (v n : ℕ) → v ≡ min n PAST_CHARS → is_char v ≡ true → v ≡ n
value_below v n e is = ⊎_elim (λ low. omega arith) (λ high. let past : v ≡ PAST_CHARS = omega arith in let none = ap is_char past in cc) (cases_lt n PAST_CHARS)

module _ (base : ℕ) (front bytes start end : List ℕ) (value : ℕ) (e : after_bytes front bytes ≡ Some start) (t : TakesDigits base start end value) where
  digits_are : digits_at base start ≡ (t.digits, end)
  digits_are =
      let d = digits_taken base start in
      let same = same_digits_by base (digits_at base start).0 t.digits (digits_at base start).1 end d.are_digits t.are_digits d.ends t.ends (sym d.whole ∙ t.whole) in
      ap (λ l. (l, (digits_at base start).1)) same.0 ∙ ap (λ l. (t.digits, l)) same.1

  same_test : is_char (number base t.digits) ≡ is_char value
  same_test = sym (no_char_past (number base t.digits)) ∙ ap is_char (sym t.value_is)

  pub no_digits : length end ≡ length start → character_at base front bytes ≡ None
  unfolding character_at ended_by
  no_digits short = rw (e, digits_are, nothing_of t.digits (omega (arith, ap length t.whole, length-append t.digits end))) refl

  pub no_character : is_char value ≡ false → character_at base front bytes ≡ None
  unfolding character_at ended_by
  no_character other = rw (e, digits_are, same_test, other) (never_both (not (is_nothing t.digits)) _)

  pub no_semicolon : after_bytes (codes ";") end ≡ None → character_at base front bytes ≡ None
  unfolding character_at ended_by
  no_semicolon none = rw (e, digits_are, none) (neither (not (is_nothing t.digits) && is_char (number base t.digits)))

  pub is_character : (rest : List ℕ) → (length end ≡ length start → ⊥) → is_char value ≡ true →
      after_bytes (codes ";") end ≡ Some rest → character_at base front bytes
      ≡ Some (puts (encode_utf8 value), rest)
  unfolding character_at ended_by
  is_character rest some char found =
      let test : is_char (number base t.digits) ≡ true = same_test ∙ char in
      let value_is : value ≡ number base t.digits = value_below value (number base t.digits) t.value_is char in
      rw (e, digits_are, something_of t.digits (λ none. some (omega (arith, ap length t.whole, length-append t.digits end))), test, found, value_is) refl
