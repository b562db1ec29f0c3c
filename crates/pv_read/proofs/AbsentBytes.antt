-- Bytes that names, references and characters don't hold.
use Rattle.std.proofs.Common.{◌≡◌, ℕ, ◌+◌, ◌/◌, ◌<◌, ◌≤◌, ◌⊎◌, inl, inr, List, [], ◌∷◌, ◌++◌, Bool, true, false, ◌==◌, not, refl, sym, ap, subst, ◌∙◌, arith}
use Rattle.std.proofs.lemmas.Bool.{and_parts, and_from, cases_lt, ne_eqb, eq-eqb, not-true}
use Rattle.std.proofs.lemmas.List.Folds.{list_all-append}
use Rattle.std.specs.Prelude.{codes}
use Rattle.std.specs.List.{list_all}
use Rattle.std.specs.Char.{is_digit}
use lib.Utf8.{encode, encodes, next}
use Rattle.pv_chars.specs.Characters.{is_name_char, AreAll}
use Rattle.pv_chars.specs.Names.{IsName}
use Rattle.pv_chars.specs.Fronts.{ContainsBytes}
use Rattle.pv_chars.specs.References.{IsReference}
use Rattle.pv_chars.proofs.NameLemmas.{name_is_run}
use Rattle.pv_chars.proofs.Utf8Lemmas.{one_byte, two_bytes, three_bytes, four_bytes}

-- none of these bytes is this one
abbrev pub has_no : ℕ → List ℕ → Bool
has_no b bytes = list_all (λ x. not (x == b)) bytes

apart : (x b : ℕ) → (x ≡ b → ⊥) → not (x == b) ≡ true
apart x b other = rw (ne_eqb x b other) refl

pub by_holds : (b : ℕ) (bytes : List ℕ) → (ContainsBytes bytes (b ∷ []) → ⊥) → has_no b bytes ≡ true
by_holds b [] none = refl
by_holds b (x ∷ xs) none = and_from (not (x == b)) (has_no b xs)
    (apart x b (λ e. none record { before = []; after = xs; whole = ap (λ y. y ∷ xs) e }))
    (by_holds b xs (λ h. none record { before = x ∷ h.before; after = h.after; whole = ap (λ l. x ∷ l) h.whole }))

pub not_behind : (b : ℕ) (before after : List ℕ) → has_no b (before ++ (b ∷ after)) ≡ true → ⊥
not_behind b [] after e =
    let same : (b == b) ≡ true = eq-eqb b b refl in
    let other : (b == b) ≡ false = not-true (b == b) (and_parts (not (b == b)) (has_no b after) e).0 in cc
not_behind b (x ∷ xs) after e = not_behind b xs after (and_parts (not (x == b)) (has_no b (xs ++ (b ∷ after))) e).1

pub holds_not : (b : ℕ) (bytes : List ℕ) → has_no b bytes ≡ true → ContainsBytes bytes (b ∷ []) → ⊥
holds_not b bytes e h = not_behind b h.before h.after (let P : List ℕ → Type 0 = λ l. has_no b l ≡ true in subst P h.whole e)

-- in both of two parts
pub both_have_no : (b : ℕ) (xs ys : List ℕ) → has_no b xs ≡ true → has_no b ys ≡ true → has_no b (xs ++ ys) ≡ true
both_have_no b xs ys e f = list_all-append (λ x. not (x == b)) xs ys ∙ and_from (has_no b xs) (has_no b ys) e f

pub parts_have_no : (b : ℕ) (xs ys : List ℕ) → has_no b (xs ++ ys) ≡ true → (has_no b xs ≡ true) × (has_no b ys ≡ true)
parts_have_no b xs ys e = and_parts (has_no b xs) (has_no b ys) (sym (list_all-append (λ x. not (x == b)) xs ys) ∙ e)

-- ---- what bytes pass a test that this one doesn't
pub pass_have_no : (p : ℕ → Bool) (b : ℕ) → p b ≡ false → (xs : List ℕ) → list_all p xs ≡ true → has_no b xs ≡ true
pass_have_no p b other [] all = refl
pass_have_no p b other (x ∷ xs) all =
    let parts = and_parts (p x) (list_all p xs) all in
    and_from (not (x == b)) (has_no b xs) (apart x b (λ e. let is : p b ≡ true = subst (λ y. p y ≡ true) e parts.0 in cc)) (pass_have_no p b other xs parts.1)

high : (x b : ℕ) → b < 128 → 128 ≤ x → not (x == b) ≡ true
high x b low more = apart x b (λ e. omega arith)

-- a byte of ASCII stands in the bytes of its own code point alone
pub code_has_no : (c b : ℕ) → b < 128 → (c ≡ b → ⊥) → has_no b (encode c) ≡ true
code_has_no c b low other = by (cases_lt c 128) (cases_lt c 2048) (cases_lt c 65536)
  where
    more : (n : ℕ) → not (next n == b) ≡ true
    more n = high (next n) b low (omega arith)

    by : (c < 128) ⊎ (128 ≤ c) → (c < 2048) ⊎ (2048 ≤ c) → (c < 65536) ⊎ (65536 ≤ c) → has_no b (encode c) ≡ true
    by (inl h) _ _ = rw (one_byte c h, apart c b other) refl
    by (inr l) (inl h) _ = rw (two_bytes c l h, high (192 + c / 64) b low (omega arith), more c) refl
    by (inr _) (inr l) (inl h) = rw (three_bytes c l h, high (224 + c / 4096) b low (omega arith), more (c / 64), more c) refl
    by (inr _) (inr _) (inr l) = rw (four_bytes c l, high (240 + c / 262144) b low (omega arith), more (c / 4096), more (c / 64), more c) refl

pub codes_have_no : (p : ℕ → Bool) (b : ℕ) → b < 128 → p b ≡ false → (cs : List ℕ) → list_all p cs ≡ true → has_no b (encodes cs) ≡ true
codes_have_no p b low other [] all = refl
codes_have_no p b low other (c ∷ cs) all =
    let parts = and_parts (p c) (list_all p cs) all in
    both_have_no b (encode c) (encodes cs) (code_has_no c b low (λ e. let is : p b ≡ true = subst (λ y. p y ≡ true) e parts.0 in cc)) (codes_have_no p b low other cs parts.1)

pub all_have_no : (p : ℕ → Bool) (b : ℕ) (bytes : List ℕ) → b < 128 → p b ≡ false → AreAll p bytes → has_no b bytes ≡ true
all_have_no p b bytes low other all = rw all.spelled (codes_have_no p b low other all.codes all.pass)

-- ---- names and references
-- This byte stands in no name, and in no reference but at its ends.
pub record IsMark (b : ℕ) : Type 0 where
  pub low : b < 128
  pub no_name : is_name_char b ≡ false
  pub no_digit : is_digit b 10 ≡ false
  pub no_hex_digit : is_digit b 16 ≡ false
  pub no_hash : (35 == b) ≡ false

pub name_has_no : (b : ℕ) (name : List ℕ) → IsMark b → IsName name → has_no b name ≡ true
name_has_no b name m is = all_have_no is_name_char b name m.low m.no_name (name_is_run name is)

x_has_no : (b : ℕ) → IsMark b → (120 == b) ≡ false
x_has_no b m = ne_eqb 120 b (λ e. let is : is_name_char 120 ≡ false = subst (λ y. is_name_char y ≡ false) (sym e) m.no_name in cc)

closed_have_no : (b : ℕ) (inner : List ℕ) → (59 == b) ≡ false → has_no b inner ≡ true → has_no b (inner ++ codes ";") ≡ true
closed_have_no b inner semicolon e = both_have_no b inner (codes ";") e (rw semicolon refl)

-- what stands after the `&` of a reference
pub record Behind (b : ℕ) (bytes : List ℕ) : Type 0 where
  pub inner : List ℕ
  pub whole : bytes ≡ 38 ∷ (inner ++ codes ";")
  pub free : has_no b inner ≡ true

pub reference_inner : (b : ℕ) (bytes : List ℕ) → IsMark b → IsReference bytes → Behind b bytes
reference_inner b bytes m (inl (inl is)) = record { inner = 35 ∷ is.digits; whole = is.whole; free = rw m.no_hash (pass_have_no (λ d. is_digit d 10) b m.no_digit is.digits is.are_digits) }
reference_inner b bytes m (inl (inr is)) =
    record {
      inner = 35 ∷ 120 ∷ is.digits;
      whole = is.whole;
      free = rw (m.no_hash, x_has_no b m)
          (pass_have_no (λ d. is_digit d 16) b m.no_hex_digit is.digits is.are_digits);
    }
reference_inner b bytes m (inr (name, is)) = record { inner = name; whole = is.whole; free = name_has_no b name m is.is_name }

pub reference_has_no : (b : ℕ) (bytes : List ℕ) → IsMark b → (38 == b) ≡ false → (59 == b) ≡ false → IsReference bytes → has_no b bytes ≡ true
reference_has_no b bytes m ampersand semicolon is =
    let i = reference_inner b bytes m is in
    rw (i.whole, ampersand) (closed_have_no b i.inner semicolon i.free)

abbrev pub less_is_mark : IsMark 60
less_is_mark = record { low = omega arith; no_name = refl; no_digit = refl; no_hex_digit = refl; no_hash = refl }

abbrev pub ampersand_is_mark : IsMark 38
ampersand_is_mark = record { low = omega arith; no_name = refl; no_digit = refl; no_hex_digit = refl; no_hash = refl }

abbrev pub double_quote_is_mark : IsMark 34
double_quote_is_mark = record { low = omega arith; no_name = refl; no_digit = refl; no_hex_digit = refl; no_hash = refl }

abbrev pub single_quote_is_mark : IsMark 39
single_quote_is_mark = record { low = omega arith; no_name = refl; no_digit = refl; no_hex_digit = refl; no_hash = refl }
