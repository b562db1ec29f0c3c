-- References, read from the front.
use Rattle.std.proofs.Common.{◌≡◌, ◌≢◌, ℕ, ◌+◌, ◌*◌, ◌<◌, ◌≤◌, min, ◌⊎◌, inl, ⊎_elim, List, [], ◌∷◌}
use Rattle.std.proofs.Common.{◌++◌, Bool, true, length, refl, sym}
use Rattle.std.proofs.Common.{ap, subst, ◌∙◌, arith, append_assoc, length-append}
use Rattle.std.proofs.lemmas.Bool.{and_parts, and_from, cases_lt, ltb-true, lt-ltb}
use Rattle.std.proofs.lemmas.Bool.Decides.{nat_tests}
use Rattle.std.proofs.Math.Nat.{mul-le-mul_left}
use Rattle.std.specs.Prelude.{codes, IsTrue}
use Rattle.std.specs.List.{list_all}
use Rattle.std.specs.Char.{is_digit, digit_value}
use Rattle.pv_chars.specs.Characters.{is_char, is_name_char}
use Rattle.pv_chars.specs.Names.{TakesName}
use Rattle.pv_chars.specs.Fronts.{Begins, BeginsNone}
use Rattle.pv_chars.specs.References.{number, number_behind, IsCharRefIn, IsCharRef, IsEntityRef, BeginsNoEntityRef, TakesDigits, PAST_CHARS}
use Rattle.pv_chars.proofs.NameLemmas.{same_name}
use Rattle.pv_chars.proofs.SpaceLemmas.{ascii_ends}
use Rattle.pv_chars.proofs.MarkupLemmas.{behind}

-- ---- numbers
module _ (base : ℕ) (some : 1 ≤ base) where
  number_grows : (n : ℕ) (ds : List ℕ) → n ≤ number_behind base n ds
  number_grows n [] = omega arith
  number_grows n (d ∷ ds) =
      let below = number_grows (n * base + digit_value d) ds in
      let more : n * 1 ≤ n * base = mul-le-mul_left n some in omega arith

pub no_char_past : (n : ℕ) → is_char (min n PAST_CHARS) ≡ is_char n
no_char_past n = ⊎_elim (λ low. let same : min n PAST_CHARS ≡ n = omega arith in ap is_char same)
    (λ high. let same : min n PAST_CHARS ≡ PAST_CHARS = omega arith in ap is_char same
    ∙ sym (none_above n high)) (cases_lt n PAST_CHARS)
  where
    none_above : (k : ℕ) → PAST_CHARS ≤ k → is_char k ≡ is_char PAST_CHARS
    none_above k high = grind (arith, nat_tests)

number_push : (base n : ℕ) (ds : List ℕ) (d : ℕ) → number_behind base n (ds ++ d ∷ []) ≡ number_behind base n ds * base + digit_value d
number_push base n [] d = refl
number_push base n (x ∷ xs) d = number_push base (n * base + digit_value x) xs d

capped : (base n value digit : ℕ) → 1 ≤ base → value ≡ min n PAST_CHARS → min (value * base + digit) PAST_CHARS ≡ min (n * base + digit) PAST_CHARS
capped base n value digit some e = ⊎_elim
    (λ low. let same : value ≡ n = omega arith in ap (λ k. min (k * base + digit) PAST_CHARS) same)
    (λ high.
    let at : value ≡ PAST_CHARS = omega arith in
    let first : PAST_CHARS * 1 ≤ PAST_CHARS * base = mul-le-mul_left PAST_CHARS some in
    let second : n * 1 ≤ n * base = mul-le-mul_left n some in
    let third : value * base ≡ PAST_CHARS * base = ap (λ k. k * base) at in omega arith)
    (cases_lt n PAST_CHARS)

-- the digits that a loop has read, and their number
pub record HasDigits (base : ℕ) (bytes rest : List ℕ) (value : ℕ) : Type 0 where
  pub digits : List ℕ
  pub are_digits : list_all (λ d. is_digit d base) digits ≡ true
  pub whole : bytes ≡ digits ++ rest
  pub value_is : value ≡ min (number base digits) PAST_CHARS

pub no_digits : (base : ℕ) (bytes : List ℕ) → HasDigits base bytes bytes 0
no_digits base bytes = record { digits = []; are_digits = refl; whole = refl; value_is = refl }

all_push : (p : ℕ → Bool) (xs : List ℕ) (y : ℕ) → list_all p xs ≡ true → p y ≡ true → list_all p (xs ++ y ∷ []) ≡ true
all_push p [] y all last = and_from (p y) true last refl
all_push p (x ∷ xs) y all last = let parts = and_parts (p x) (list_all p xs) all in and_from (p x) (list_all p (xs ++ y ∷ [])) parts.0 (all_push p xs y parts.1 last)

pub digit_more : (base : ℕ) (bytes rest more : List ℕ) (value digit d next : ℕ) → 1 ≤ base →
    HasDigits base bytes rest value → rest ≡ d ∷ more → is_digit d base ≡ true →
    digit ≡ digit_value d → next ≡ min (value * base + digit) PAST_CHARS → HasDigits base bytes more next
digit_more base bytes rest more value digit d next some h e is v n = record {
  digits = h.digits ++ d ∷ [];
  are_digits = all_push (λ x. is_digit x base) h.digits d h.are_digits is;
  whole = h.whole ∙ ap (λ l. h.digits ++ l) e ∙ sym (append_assoc h.digits (d ∷ []) more);
  value_is = n ∙ capped base (number base h.digits) value digit some h.value_is ∙ ap (λ k. min k PAST_CHARS) (ap (λ k. number base h.digits * base + k) v ∙ sym (number_push base 0 h.digits d));
}

-- digits and rest are determined
pub same_digits_by : (base : ℕ) (xs ys r t : List ℕ) → list_all (λ d. is_digit d base) xs ≡ true →
    list_all (λ d. is_digit d base) ys ≡ true → ((d : ℕ) (more : List ℕ) →
    IsTrue (is_digit d base) → r ≢ d ∷ more) → ((d : ℕ) (more : List ℕ) → IsTrue (is_digit d base) →
    t ≢ d ∷ more) → xs ++ r ≡ ys ++ t → (xs ≡ ys) × (r ≡ t)
same_digits_by base [] [] r t a b p q e = (refl, e)
same_digits_by base [] (y ∷ ys) r t a b p q e = absurd (p y (ys ++ t) (and_parts (is_digit y base) (list_all (λ d. is_digit d base) ys) b).0 e)
same_digits_by base (x ∷ xs) [] r t a b p q e = absurd (q x (xs ++ r) (and_parts (is_digit x base) (list_all (λ d. is_digit d base) xs) a).0 (sym e))
same_digits_by base (x ∷ xs) (y ∷ ys) r t a b p q e =
    let head : x ≡ y = cc in
    let tail : xs ++ r ≡ ys ++ t = cc in
    let others = same_digits_by base xs ys r t (and_parts (is_digit x base) (list_all (λ d. is_digit d base) xs) a).1 (and_parts (is_digit y base) (list_all (λ d. is_digit d base) ys) b).1 p q tail in
    ((λ i. head i ∷ others.0 i), others.1)

-- ---- references by digits
pub semicolon_ends : (base : ℕ) (rest : List ℕ) → base ≤ 36 → (d : ℕ) (more : List ℕ) → IsTrue (is_digit d base) → codes ";" ++ rest ≢ d ∷ more
semicolon_ends base rest known d more is e =
    let same : 59 ≡ d = cc in
    let digit : digit_value 59 < base = ltb-true (digit_value 59) base (let P : ℕ → Type 0 = λ x. is_digit x base ≡ true in subst P (sym same) is) in omega arith

module _ (base : ℕ) (known : base ≤ 36) (front : List ℕ) where
  -- what the digits of a reference are, and that they end there
  pub ref_ends : (bytes start rest end : List ℕ) (value : ℕ) → bytes ≡ front ++ start →
      TakesDigits base start end value → (b : Begins (IsCharRefIn base front) bytes rest) →
      (end ≡ codes ";" ++ rest) × (is_char value ≡ true) × (length end ≡ length start → ⊥)
  ref_ends bytes start rest end value e taken b =
      let i = b.is_item in
      let whole : start ≡ i.digits ++ (codes ";" ++ rest) = behind front start (i.digits
      ++ (codes ";" ++ rest)) (sym e ∙ b.whole ∙ ap (λ l. l ++ rest) i.whole
      ∙ append_assoc front (i.digits ++ codes ";") rest ∙ ap (λ l. front ++ l)
      (append_assoc i.digits (codes ";") rest)) in
      let same = same_digits_by base taken.digits i.digits end (codes ";" ++ rest) taken.are_digits i.are_digits taken.ends (semicolon_ends base rest known) (sym taken.whole ∙ whole) in
      let number_is : value ≡ min (number base i.digits) PAST_CHARS = taken.value_is ∙ ap (λ l. min (number base l) PAST_CHARS) same.0 in (
        same.1,
        ap is_char number_is ∙ no_char_past (number base i.digits) ∙ i.is_char,
        λ long. i.some (nothing i.digits
            (omega (arith, ap length whole, ap length same.1, length-append i.digits (codes ";" ++ rest)))),
      )
    where
      nothing : (l : List ℕ) → length l ≡ 0 → l ≡ []
      nothing [] n = refl
      nothing (x ∷ xs) n = absurd (omega arith)

  pub ref_by : (bytes start rest end : List ℕ) (value : ℕ) → bytes ≡ front ++ start →
      TakesDigits base start end value → is_char value ≡ true → (length end ≡ length start → ⊥) →
      end ≡ codes ";" ++ rest → Begins (IsCharRefIn base front) bytes rest
  ref_by bytes start rest end value e taken char some closes = record {
    item = front ++ (taken.digits ++ codes ";");
    is_item = record {
      digits = taken.digits;
      some = λ none. some (omega (arith, ap length taken.whole, length-append taken.digits end, ap length none));
      are_digits = taken.are_digits;
      is_char = sym (no_char_past (number base taken.digits)) ∙ ap is_char (sym taken.value_is) ∙ char;
      whole = refl;
    };
    whole = e ∙ ap (λ l. front ++ l) (taken.whole ∙ ap (λ l. taken.digits ++ l) closes ∙ sym (append_assoc taken.digits (codes ";") rest)) ∙ sym (append_assoc front (taken.digits ++ codes ";") rest);
  }

pub digit_read : (base : ℕ) (bytes rest more : List ℕ) (value digit d x next : ℕ) → 2 ≤ base →
    HasDigits base bytes rest value → rest ≡ d ∷ more → x ≡ d → digit_value x < base →
    digit ≡ digit_value x → next ≡ min (value * base + digit) PAST_CHARS → HasDigits base bytes more next
digit_read base bytes rest more value digit d x next some h e same low v n =
    let is : is_digit d base ≡ true = let P : ℕ → Type 0 = λ k. is_digit k base ≡ true in subst P same (lt-ltb (digit_value x) base low) in
    digit_more base bytes rest more value digit d next (omega arith) h e is (v ∙ ap digit_value same) n

-- ---- the two bases
pub begins_decimal : (bytes rest : List ℕ) → Begins (IsCharRefIn 10 (codes "&#")) bytes rest → Begins IsCharRef bytes rest
begins_decimal bytes rest b = record { item = b.item; is_item = inl b.is_item; whole = b.whole }

pub begins_neither : (bytes : List ℕ) → BeginsNone (IsCharRefIn 16 (codes "&#x")) bytes → BeginsNone (IsCharRefIn 10 (codes "&#")) bytes → BeginsNone IsCharRef bytes
begins_neither bytes none_hex none_decimal rest b =
    ⊎_elim (λ is. none_decimal rest record { item = b.item; is_item = is; whole = b.whole })
    (λ is. none_hex rest record { item = b.item; is_item = is; whole = b.whole }) b.is_item

-- ---- references by name
pub entity_ref_ends : (bytes start name rest : List ℕ) → bytes ≡ codes "&" ++ start → Begins (IsEntityRef name) bytes rest → TakesName start name (codes ";" ++ rest)
entity_ref_ends bytes start name rest e b =
    let i = b.is_item in
    let whole : start ≡ name ++ (codes ";" ++ rest) = behind (codes "&") start (name
    ++ (codes ";" ++ rest)) (sym e ∙ b.whole ∙ ap (λ l. l ++ rest) i.whole
    ∙ append_assoc (codes "&") (name ++ codes ";") rest ∙ ap (λ l. codes "&" ++ l)
    (append_assoc name (codes ";") rest)) in
    record { is_name = i.is_name; whole = whole; ends = ascii_ends is_name_char 59 rest (omega arith) refl }

pub no_entity_ref_end : (bytes start name end : List ℕ) → bytes ≡ codes "&" ++ start → TakesName start name end → ((rest : List ℕ) → end ≢ codes ";" ++ rest) → BeginsNoEntityRef bytes
no_entity_ref_end bytes start name end e named none other rest b = none rest (same_name start name end other (codes ";" ++ rest) named (entity_ref_ends bytes start other rest e b)).1

pub same_entity_ref : (bytes name rest other more : List ℕ) → Begins (IsEntityRef name) bytes rest → Begins (IsEntityRef other) bytes more → (name ≡ other) × (rest ≡ more)
same_entity_ref bytes name rest other more a b =
    let start = (name ++ codes ";") ++ rest in
    let e : bytes ≡ codes "&" ++ start = a.whole ∙ ap (λ l. l ++ rest) a.is_item.whole ∙ append_assoc (codes "&") (name ++ codes ";") rest in
    let same = same_name start name (codes ";" ++ rest) other (codes ";" ++ more) (entity_ref_ends bytes start name rest e a) (entity_ref_ends bytes start other more e b) in
    (same.0, behind (codes ";") rest more same.1)
