-- Characters one after the other, and what stands after them.
use Rattle.std.proofs.Common.{◌≡◌, ℕ, ◌-◌, ◌<◌, List, [], ◌∷◌, ◌++◌, length, take, drop, Bool, true, false, refl, sym, ap, ◌∙◌, arith, append_assoc, length-append}
use Rattle.std.proofs.lemmas.Bool.{and_parts, and_from, ne_eqb, ltb-true}
use Rattle.std.specs.Prelude.{IsTrue, ◌==◌, nat_lt}
use Rattle.std.proofs.lemmas.List.{take_at, drop_at, append-nil}
use Rattle.std.proofs.lemmas.List.Folds.{list_all-append}
use Rattle.std.proofs.lemmas.Str.{encode_same, encode_ascii, encodes-append, len_utf8_bounds, length-encode}
use Rattle.std.specs.List.{list_all}
use Rattle.std.specs.Char.{IsScalar}
use lib.Utf8.{encode, encodes}
use Rattle.pv_chars.specs.Characters.{is_char, is_ascii_char, BeginsWith, BeginsWithNone, BeginsNo, AreAll, TakesChars}

pub none_in_nothing : (test : ℕ → Bool) → AreAll test []
none_in_nothing test = record { codes = []; pass = refl; spelled = refl }

pub AreAll-append : (test : ℕ → Bool) (xs ys : List ℕ) → AreAll test xs → AreAll test ys → AreAll test (xs ++ ys)
AreAll-append test xs ys a b =
    record {
      codes = a.codes ++ b.codes;
      pass = list_all-append test a.codes b.codes
          ∙ and_from (list_all test a.codes) (list_all test b.codes) a.pass b.pass;
      spelled =
          rw (a.spelled, b.spelled) (sym (encodes-append a.codes b.codes));
    }

pub AreAll-one : (test : ℕ → Bool) (c : ℕ) → test c ≡ true → AreAll test (encode c)
AreAll-one test c e = record { codes = c ∷ []; pass = and_from (test c) true e refl; spelled = sym (append-nil (encode c)) }

-- bytes of ASCII that pass, one after the other
module _ (p test : ℕ → Bool) (tells : (b : ℕ) → p b ≡ true → (test b ≡ true) × (b < 128)) where
  bytes_pass : (bytes : List ℕ) → list_all p bytes ≡ true → list_all test bytes ≡ true
  bytes_pass [] e = refl
  bytes_pass (b ∷ bs) e = let parts = and_parts (p b) (list_all p bs) e in and_from (test b) (list_all test bs) (tells b parts.0).0 (bytes_pass bs parts.1)

  bytes_spell : (bytes : List ℕ) → list_all p bytes ≡ true → bytes ≡ encodes bytes
  bytes_spell [] e = refl
  bytes_spell (b ∷ bs) e =
      let parts = and_parts (p b) (list_all p bs) e in
      ap (λ l. b ∷ l) (bytes_spell bs parts.1) ∙ ap (λ l. l ++ encodes bs) (sym (encode_ascii b (tells b parts.0).1))

  pub AreAll-ascii : (bytes : List ℕ) → list_all p bytes ≡ true → AreAll test bytes
  AreAll-ascii bytes e = record { codes = bytes; pass = bytes_pass bytes e; spelled = bytes_spell bytes e }

-- one more character is taken
pub one_more : (test : ℕ → Bool) (bytes front rest more : List ℕ) (c : ℕ) → AreAll test front →
    bytes ≡ front ++ rest → BeginsWith rest c more → test c ≡ true → (longer : List ℕ)
    × AreAll test longer × (bytes ≡ longer ++ more)
one_more test bytes front rest more c all whole begins e = (
  front ++ encode c,
  AreAll-append test front (encode c) all (AreAll-one test c e),
  whole
      ∙ ap (λ l. front ++ l) begins.whole ∙ sym (append_assoc front (encode c) more),
)

-- a test that only code points pass
abbrev pub PassScalars : (ℕ → Bool) → Type 0
PassScalars test = (c : ℕ) → test c ≡ true → IsScalar c

-- the first code point doesn't pass, or there is none
pub ends_at_other : (test : ℕ → Bool) (rest more : List ℕ) (c : ℕ) → BeginsWith rest c more → test c ≡ false → BeginsNo test rest
ends_at_other test rest more c begins other d t pass whole = let same = (encode_same c d more t (sym begins.whole ∙ whole)).0 in let passes : test c ≡ true = rw same pass in cc

pub ends_at_none : (test : ℕ → Bool) (rest : List ℕ) → PassScalars test → BeginsWithNone rest → BeginsNo test rest
ends_at_none test rest scalars none d t pass whole = none d t record { scalar = scalars d pass; whole = whole }

pub nothing_begins : (test : ℕ → Bool) → BeginsNo test []
nothing_begins test c rest pass whole = let long = (len_utf8_bounds c).0 in omega (arith, ap length whole, length-append (encode c) rest, length-encode c)

-- as many as pass are taken in one way only
same_run : (test : ℕ → Bool) (xs ys r t : List ℕ) → list_all test xs ≡ true → list_all test ys ≡ true → BeginsNo test r → BeginsNo test t → encodes xs ++ r ≡ encodes ys ++ t → (xs ≡ ys) × (r ≡ t)
same_run test [] [] r t a b p q e = (refl, e)
same_run test [] (y ∷ ys) r t a b p q e = absurd (p y (encodes ys ++ t) (and_parts (test y) (list_all test ys) b).0 (e ∙ append_assoc (encode y) (encodes ys) t))
same_run test (x ∷ xs) [] r t a b p q e = absurd (q x (encodes xs ++ r) (and_parts (test x) (list_all test xs) a).0 (sym e ∙ append_assoc (encode x) (encodes xs) r))
same_run test (x ∷ xs) (y ∷ ys) r t a b p q e =
    let first = encode_same x y (encodes xs ++ r) (encodes ys ++ t) (sym (append_assoc (encode x) (encodes xs) r) ∙ e ∙ append_assoc (encode y) (encodes ys) t) in
    let others = same_run test xs ys r t (and_parts (test x) (list_all test xs) a).1 (and_parts (test y) (list_all test ys) b).1 p q first.1 in
    ((λ i. first.0 i ∷ others.0 i), others.1)

pub same_all : (test : ℕ → Bool) (xs ys r t : List ℕ) → AreAll test xs → AreAll test ys → BeginsNo test r → BeginsNo test t → xs ++ r ≡ ys ++ t → (xs ≡ ys) × (r ≡ t)
same_all test xs ys r t a b p q e =
    let codes = same_run test a.codes b.codes r t a.pass b.pass p q (ap (λ l. l ++ r) (sym a.spelled) ∙ e ∙ ap (λ l. l ++ t) b.spelled) in
    (a.spelled ∙ ap encodes codes.0 ∙ sym b.spelled, codes.1)

-- the bytes before the rest, and the rest, by their lengths
pub cut_at : (bytes front rest : List ℕ) → bytes ≡ front ++ rest → (take (length bytes - length rest) bytes ≡ front) × (drop (length bytes - length rest) bytes ≡ rest)
cut_at bytes front rest whole =
    let count : length bytes - length rest ≡ length front = omega (arith, ap length whole, length-append front rest) in
    (rw (count, whole) (take_at front rest (length front) refl), rw (count, whole) (drop_at front rest (length front) refl))

-- As many as pass stand at the front and this after them: all pass exactly where this is empty.
pub all_where_empty : (test : ℕ → Bool) (bytes rest : List ℕ) (empty : Bool) →
    TakesChars test bytes rest → empty ≡ (length rest == 0) → (IsTrue empty → AreAll test bytes)
    × (AreAll test bytes → IsTrue empty)
all_where_empty test bytes [] empty taken e = ((λ t. rw (taken.whole, append-nil taken.front) taken.are_all), (λ all. e))
all_where_empty test bytes (b ∷ bs) empty taken e =
    let full : (length (b ∷ bs) == 0) ≡ false = ne_eqb (length (b ∷ bs)) 0 (λ none. omega arith) in (
      (λ t. let no_more : empty ≡ true = t in cc),
      (λ all. let same = (same_all test taken.front bytes (b ∷ bs) [] taken.are_all all taken.ends
          (nothing_begins test) (sym taken.whole ∙ sym (append-nil bytes))).1 in cc),
    )

-- Chars of ASCII are Chars
pub where_ascii_chars : (bytes : List ℕ) (all : Bool) → all ≡ list_all is_ascii_char bytes → all ≡ true → AreAll is_char bytes
where_ascii_chars bytes all e is = AreAll-ascii is_ascii_char is_char (λ b pass. let parts = and_parts (is_char b) (nat_lt b 128) pass in (parts.0, ltb-true b 128 parts.1)) bytes (sym e ∙ is)
