-- The last units of a text, found from the right: what stands before the last one, and after so
-- many.
use Rattle.std.proofs.Common.{◌≡◌, ◌≢◌, ℕ, suc, ◌+◌, ◌-◌, ◌/◌, ◌<◌, ◌≤◌, ◌⊎◌, inl, inr, List, []}
use Rattle.std.proofs.Common.{◌∷◌, ◌++◌, Bool, true, false, ◌&&◌, ◌==◌, not, length}
use Rattle.std.proofs.Common.{take, drop, get_or, refl, sym, ap, subst, ◌∙◌, arith, append_assoc}
use Rattle.std.proofs.Common.{length-append}
use Rattle.std.proofs.lemmas.Bool.{and_parts, and_from, not-true, ltb-true, cases_lt, ne_eqb}
use Rattle.std.proofs.lemmas.List.{append-nil}
use Rattle.std.proofs.Math.Seq.{drop-append_seam}
use Rattle.std.specs.Prelude.{codes}
use Rattle.std.specs.List.{list_all}
use Rattle.std.specs.Char.{is_digit, digit_value}
use lib.Utf8.{encode, next}
use Rattle.pv_chars.specs.Utf8.{continues}
use Rattle.pv_chars.specs.Texts.{joined}
use Rattle.pv_chars.specs.References.{IsPredefined}
use Rattle.pv_chars.specs.Units.{is_literal, IsUnit, AllUnits, IsCut, cut_units, goes_on}
use Rattle.pv_chars.specs.Units.{unit_opens, units_in}
use Rattle.pv_chars.specs.UnitPlaces.{ends_in_reference, nests_none, begins_character, EndsOpen}
use Rattle.pv_chars.specs.UnitPlaces.{EndsOpening, EndsUnit}
use Rattle.pv_chars.specs.Characters.{is_char}
use Rattle.pv_chars.proofs.CutLemmas.{begins_anew, stays_open, reference_cut, units_cut}
use Rattle.pv_chars.proofs.MeansLemmas.{count_is}
use Rattle.pv_chars.proofs.UnitPlaceLemmas.{cut_whole}
use Rattle.pv_chars.proofs.Utf8Lemmas.{one_byte, two_bytes, three_bytes, four_bytes}

-- the others and the last byte, as a pattern gives them
pub snoc_of : (bytes : List ℕ) → 1 ≤ length bytes →
    bytes ≡ take (length bytes - 1) bytes ++ (get_or bytes (length bytes - 1) 0 ∷ [])
snoc_of [] some = absurd (omega arith)
snoc_of (b ∷ []) some = refl
snoc_of (b ∷ c ∷ bytes) some =
    let e : length (b ∷ c ∷ bytes) - 1 ≡ suc (length (c ∷ bytes) - 1) = omega arith in
    rw e (ap (λ r. b ∷ r) (snoc_of (c ∷ bytes) (omega arith)))

-- ---- bytes passed from the right
pub record Passed (p : ℕ → Bool) (bytes rest : List ℕ) : Type 0 where
  pub tail : List ℕ
  pub whole : bytes ≡ rest ++ tail
  pub all : list_all p tail ≡ true

pub passed_none : (p : ℕ → Bool) (bytes : List ℕ) → Passed p bytes bytes
passed_none p bytes = record { tail = []; whole = sym (append-nil bytes); all = refl }

before_tail : (bytes rest front tail : List ℕ) (b : ℕ) → bytes ≡ rest ++ tail →
    rest ≡ front ++ (b ∷ []) → bytes ≡ front ++ (b ∷ tail)
before_tail bytes rest front tail b whole e = whole ∙ ap (λ l. l ++ tail) e
    ∙ append_assoc front (b ∷ []) tail

pub passed_one : (p : ℕ → Bool) (bytes rest front : List ℕ) (b : ℕ) → rest ≡ front ++ (b ∷ []) →
    p b ≡ true → Passed p bytes rest → Passed p bytes front
passed_one p bytes rest front b e is t = record {
  tail = b ∷ t.tail;
  whole = before_tail bytes rest front t.tail b t.whole e;
  all = and_from (p b) (list_all p t.tail) is t.all;
}

pub opening_found : (bytes rest front : List ℕ) (b : ℕ) → rest ≡ front ++ (b ∷ []) →
    continues b ≡ false → Passed continues bytes rest → EndsOpening bytes front b
opening_found bytes rest front b e is t =
    record {
      tail = t.tail;
      whole = before_tail bytes rest front t.tail b t.whole e;
      continue =
          t.all;
      begins_character = is;
    }

pub no_opening : (bytes rest : List ℕ) → bytes ≢ [] → begins_character bytes ≡ true →
    length rest < 1 → Passed continues bytes rest → ⊥
no_opening [] rest some o none t = some refl
no_opening (b ∷ bs) [] some o none t =
    let P : List ℕ → Type 0 = λ l. list_all continues l ≡ true in
    let parts = and_parts (continues b) (list_all continues bs) (subst P (sym t.whole) t.all) in
    let apart : true ≡ false = sym parts.0 ∙ not-true (continues b) o in cc
no_opening (b ∷ bs) (c ∷ rest) some o none t = absurd (omega arith)

-- ---- whether a reference is open
-- a byte that neither opens nor closes a reference
abbrev pub is_other : ℕ → Bool
is_other b = not (b == 38) && not (b == 59)

in_reference-append : (inside : Bool) (a b : List ℕ) →
    ends_in_reference inside (a ++ b) ≡ ends_in_reference (ends_in_reference inside a) b
in_reference-append inside [] b = refl
in_reference-append true (x ∷ xs) b = in_reference-append (not (x == 59)) xs b
in_reference-append false (x ∷ xs) b = in_reference-append (x == 38) xs b

open_stays : (inside : Bool) (tail : List ℕ) → list_all is_other tail ≡ true →
    ends_in_reference inside tail ≡ inside
open_stays inside [] all = refl
open_stays true (b ∷ bs) all =
    let parts = and_parts (is_other b) (list_all is_other bs) all in
    let both = and_parts (not (b == 38)) (not (b == 59)) parts.0 in
    ap (λ t. ends_in_reference t bs) both.1 ∙ open_stays true bs parts.1
open_stays false (b ∷ bs) all =
    let parts = and_parts (is_other b) (list_all is_other bs) all in
    let both = and_parts (not (b == 38)) (not (b == 59)) parts.0 in
    ap (λ t. ends_in_reference t bs) (not-true (b == 38) both.0) ∙ open_stays false bs parts.1

after_semicolon : (inside : Bool) (tail : List ℕ) →
    ends_in_reference inside (59 ∷ tail) ≡ ends_in_reference false tail
after_semicolon true tail = refl
after_semicolon false tail = refl

pub none_open : (bytes rest : List ℕ) → length rest < 1 → Passed is_other bytes rest →
    ends_in_reference false bytes ≡ false
none_open bytes [] none t = ap (ends_in_reference false) t.whole ∙ open_stays false t.tail t.all
none_open bytes (b ∷ rest) none t = absurd (omega arith)

pub closed_before : (bytes rest front : List ℕ) (b : ℕ) → rest ≡ front ++ (b ∷ []) → b ≡ 59 →
    Passed is_other bytes rest → ends_in_reference false bytes ≡ false
closed_before bytes rest front b e is t =
    ap (ends_in_reference false) (before_tail bytes rest front t.tail b t.whole e
    ∙ ap (λ k. front ++ (k ∷ t.tail)) is)
    ∙ in_reference-append false front (59 ∷ t.tail)
    ∙ after_semicolon (ends_in_reference false front) t.tail
    ∙ open_stays false t.tail t.all

hold_no_semicolon : (tail : List ℕ) → list_all is_other tail ≡ true →
    list_all (λ b. not (b == 59)) tail ≡ true
hold_no_semicolon [] all = refl
hold_no_semicolon (b ∷ bs) all =
    let parts = and_parts (is_other b) (list_all is_other bs) all in
    and_from (not (b == 59)) (list_all (λ k. not (k == 59)) bs)
    (and_parts (not (b == 38)) (not (b == 59)) parts.0).1 (hold_no_semicolon bs parts.1)

pub open_found : (bytes rest front : List ℕ) (b : ℕ) → rest ≡ front ++ (b ∷ []) → b ≡ 38 →
    Passed is_other bytes rest → EndsOpen bytes front
open_found bytes rest front b e is t = record {
  inner = t.tail;
  whole = before_tail bytes rest front t.tail b t.whole e ∙ ap (λ k. front ++ (k ∷ t.tail)) is;
  has_no_semicolon = hold_no_semicolon t.tail t.all;
}

pub is_one_other : (b : ℕ) → b ≢ 38 → b ≢ 59 → is_other b ≡ true
is_one_other b a c = rw (ne_eqb b 38 a, ne_eqb b 59 c) refl

continued_other : (tail : List ℕ) → list_all continues tail ≡ true → list_all is_other tail ≡ true
continued_other [] all = refl
continued_other (b ∷ bs) all =
    let parts = and_parts (continues b) (list_all continues bs) all in
    and_from (is_other b) (list_all is_other bs)
    (is_one_other b (λ same. let e : continues 38 ≡ true = ap continues (sym same) ∙ parts.0 in cc)
    (λ same. let e : continues 59 ≡ true = ap continues (sym same) ∙ parts.0 in cc))
    (continued_other bs parts.1)

-- ---- the last unit
tail_goes : (tail rest : List ℕ) → list_all continues tail ≡ true →
    cut_units false (tail ++ rest) ≡ (tail ++ (cut_units false rest).0, (cut_units false rest).1)
tail_goes [] rest all = refl
tail_goes (b ∷ bs) rest all =
    let parts = and_parts (continues b) (list_all continues bs) all in
    stays_open b (bs ++ rest) parts.0 ∙ ap (goes_on b) (tail_goes bs rest parts.1)

character_unit : (bytes front : List ℕ) (first : ℕ) → EndsOpening bytes front first →
    ends_in_reference false front ≡ false → (first == 38) ≡ false → EndsUnit bytes front
character_unit bytes front first is closed other = record {
  unit = first ∷ is.tail;
  whole = is.whole;
  closed = closed;
  cut = λ rest. begins_anew first (is.tail ++ rest) is.begins_character
      ∙ ap (λ t. unit_opens first (cut_units t (is.tail ++ rest))) other
      ∙ ap (unit_opens first) (tail_goes is.tail rest is.continue);
}

closed_by : (inside : Bool) (first : ℕ) (tail : List ℕ) →
    ends_in_reference inside (first ∷ tail) ≡ false → first ≢ 59 → list_all is_other tail ≡ true →
    (inside ≡ false) × ((first == 38) ≡ false)
closed_by false first tail e other all = (refl, sym (open_stays (first == 38) tail all) ∙ e)
closed_by true first tail e other all =
    let stays : not (first == 59) ≡ true = rw (ne_eqb first 59 other) refl in
    let apart : true ≡ false = sym (ap (λ t. ends_in_reference t tail) stays
    ∙ open_stays true tail all) ∙ e in absurd cc

pub last_character : (bytes front : List ℕ) (first : ℕ) → EndsOpening bytes front first →
    ends_in_reference false bytes ≡ false → first ≢ 59 → EndsUnit bytes front
last_character bytes front first is closed other =
    let e = sym (ap (ends_in_reference false) is.whole
    ∙ in_reference-append false front (first ∷ is.tail)) ∙ closed in
    let by = closed_by (ends_in_reference false front) first is.tail e other
    (continued_other is.tail is.continue) in
    character_unit bytes front first is by.0 by.1

pub last_semicolon : (bytes front : List ℕ) (first : ℕ) → EndsOpening bytes front first →
    ends_in_reference false front ≡ false → first ≡ 59 → EndsUnit bytes front
last_semicolon bytes front first is closed same =
    character_unit bytes front first is closed (ap (λ b. b == 38) same)

nested_closed : (inside : Bool) (front more : List ℕ) →
    nests_none inside (front ++ (38 ∷ more)) ≡ true → ends_in_reference inside front ≡ false
nested_closed true [] more e = absurd cc
nested_closed false [] more e = refl
nested_closed true (b ∷ bs) more e = nested_closed (not (b == 59)) bs more
    (and_parts (not (b == 38)) (nests_none (not (b == 59)) (bs ++ (38 ∷ more))) e).1
nested_closed false (b ∷ bs) more e = nested_closed (b == 38) bs more e

pub last_reference : (bytes front before : List ℕ) (first : ℕ) → EndsOpening bytes front first →
    EndsOpen front before → nests_none false bytes ≡ true → first ≡ 59 → EndsUnit bytes before
last_reference bytes front before first is o none same = record {
  unit = unit;
  whole = whole;
  closed = nested_closed false before (o.inner ++ (59 ∷ is.tail)) (subst P whole none);
  cut = cut;
}
  where
    unit : List ℕ
    unit = 38 ∷ (o.inner ++ (59 ∷ is.tail))

    P : List ℕ → Type 0
    P l = nests_none false l ≡ true

    whole : bytes ≡ before ++ unit
    whole = is.whole ∙ ap (λ k. front ++ (k ∷ is.tail)) same ∙ ap (λ l. l ++ (59 ∷ is.tail)) o.whole
        ∙ append_assoc before (38 ∷ o.inner) (59 ∷ is.tail)

    packed : (r : List ℕ × List (List ℕ)) {a b : List ℕ} → a ≡ b →
        ◌≡◌ {A = List ℕ × List (List ℕ)} ([], a ∷ r.1) ([], b ∷ r.1)
    packed r f = λ i. ([], f i ∷ r.1)

    cut : (rest : List ℕ) → cut_units false (unit ++ rest) ≡
        ([], (unit ++ (cut_units false rest).0) ∷ (cut_units false rest).1)
    cut rest =
        ap (λ l. cut_units false (38 ∷ l)) (append_assoc o.inner (59 ∷ is.tail) rest)
        ∙ reference_cut o.inner (is.tail ++ rest) o.has_no_semicolon
        ∙ ap (λ (r : List ℕ × List (List ℕ)). ([], (38 ∷ (o.inner ++ (59 ∷ r.0))) ∷ r.1))
        (tail_goes is.tail rest is.continue)
        ∙ packed (cut_units false rest) (ap (λ l. 38 ∷ l)
        (sym (append_assoc o.inner (59 ∷ is.tail) (cut_units false rest).0)))

-- ---- units leave no reference open
others_pass : (inner rest : List ℕ) → list_all is_other inner ≡ true →
    ends_in_reference true (inner ++ (59 ∷ rest)) ≡ ends_in_reference false rest
others_pass inner rest all = in_reference-append true inner (59 ∷ rest)
    ∙ after_semicolon (ends_in_reference true inner) rest

others_nest : (inner rest : List ℕ) → list_all is_other inner ≡ true →
    nests_none true (inner ++ (59 ∷ rest)) ≡ nests_none false rest
others_nest [] rest all = refl
others_nest (b ∷ bs) rest all =
    let parts = and_parts (is_other b) (list_all is_other bs) all in
    let both = and_parts (not (b == 38)) (not (b == 59)) parts.0 in
    (λ i. both.0 i && nests_none (both.1 i) (bs ++ (59 ∷ rest))) ∙ others_nest bs rest parts.1

-- no byte of these opens a reference
abbrev has_none : List ℕ → Bool
has_none bytes = list_all (λ b. not (b == 38)) bytes

none_open_by : (u rest : List ℕ) → has_none u ≡ true →
    ends_in_reference false (u ++ rest) ≡ ends_in_reference false rest
none_open_by [] rest none = refl
none_open_by (b ∷ bs) rest none =
    let parts = and_parts (not (b == 38)) (has_none bs) none in
    ap (λ t. ends_in_reference t (bs ++ rest)) (not-true (b == 38) parts.0)
    ∙ none_open_by bs rest parts.1

none_nest_by : (u rest : List ℕ) → has_none u ≡ true →
    nests_none false (u ++ rest) ≡ nests_none false rest
none_nest_by [] rest none = refl
none_nest_by (b ∷ bs) rest none =
    let parts = and_parts (not (b == 38)) (has_none bs) none in
    ap (λ t. nests_none t (bs ++ rest)) (not-true (b == 38) parts.0) ∙ none_nest_by bs rest parts.1

-- a reference: `&`, others, `;`
record IsReferenceBytes (u : List ℕ) : Type 0 where
  inner : List ℕ
  whole : u ≡ 38 ∷ (inner ++ codes ";")
  others : list_all is_other inner ≡ true

high_other : (b : ℕ) (bs : List ℕ) → 39 ≤ b → has_none bs ≡ true → has_none (b ∷ bs) ≡ true
high_other b bs high below = and_from (not (b == 38)) (has_none bs)
    (rw (ne_eqb b 38 (λ same. omega arith)) refl) below

literal_none : (c : ℕ) → is_literal c ≡ true → has_none (encode c) ≡ true
literal_none c is = by (cases_lt c 128) (cases_lt c 2048) (cases_lt c 65536)
  where
    by : (c < 128) ⊎ (128 ≤ c) → (c < 2048) ⊎ (2048 ≤ c) → (c < 65536) ⊎ (65536 ≤ c) →
        has_none (encode c) ≡ true
    by (inl h) _ _ = rw (one_byte c h) (and_from (not (c == 38)) true
        (and_parts (is_char c && not (c == 60)) (not (c == 38)) is).1 refl)
    by (inr l) (inl h) _ = rw (two_bytes c l h)
        (high_other (192 + c / 64) (next c ∷ []) (omega arith)
        (high_other (next c) [] (omega arith) refl))
    by (inr _) (inr l) (inl h) =
        rw (three_bytes c l h) (high_other (224 + c / 4096) (next (c / 64) ∷ next c ∷ [])
        (omega arith)
        (high_other (next (c / 64)) (next c ∷ []) (omega arith)
        (high_other (next c) [] (omega arith) refl)))
    by (inr _) (inr _) (inr l) =
        rw (four_bytes c l) (high_other (240 + c / 262144)
        (next (c / 4096) ∷ next (c / 64) ∷ next c ∷ []) (omega arith)
        (high_other (next (c / 4096)) (next (c / 64) ∷ next c ∷ []) (omega arith)
        (high_other (next (c / 64)) (next c ∷ []) (omega arith)
        (high_other (next c) [] (omega arith) refl))))

digits_other : (base : ℕ) (digits : List ℕ) → base ≤ 36 →
    list_all (λ d. is_digit d base) digits ≡ true → list_all is_other digits ≡ true
digits_other base [] known all = refl
digits_other base (d ∷ ds) known all =
    let parts = and_parts (is_digit d base) (list_all (λ k. is_digit k base) ds) all in
    let P : ℕ → Type 0 = λ k. is_digit k base ≡ true in
    and_from (is_other d) (list_all is_other ds)
    (is_one_other d (λ same. let low : digit_value 38 < base =
    ltb-true (digit_value 38) base (subst P same parts.0) in omega arith)
    (λ same. let low : digit_value 59 < base =
    ltb-true (digit_value 59) base (subst P same parts.0) in omega arith))
    (digits_other base ds known parts.1)

names_other : (name : List ℕ) → IsPredefined name → list_all is_other name ≡ true
names_other name (inl e) = rw e refl
names_other name (inr (inl e)) = rw e refl
names_other name (inr (inr (inl e))) = rw e refl
names_other name (inr (inr (inr (inl e)))) = rw e refl
names_other name (inr (inr (inr (inr e)))) = rw e refl

unit_bytes : (u : List ℕ) → IsUnit u → (has_none u ≡ true) ⊎ IsReferenceBytes u
unit_bytes u (inl is) = inl (rw is.whole (literal_none is.code is.is_literal))
unit_bytes u (inr (inl (inl is))) = inr record {
  inner = 35 ∷ is.digits;
  whole = is.whole;
  others =
      digits_other 10 is.digits (omega arith) is.are_digits;
}
unit_bytes u (inr (inl (inr is))) = inr record {
  inner = 35 ∷ 120 ∷ is.digits;
  whole = is.whole;
  others =
      digits_other 16 is.digits (omega arith) is.are_digits;
}
unit_bytes u (inr (inr is)) = inr record {
  inner = is.name;
  whole = is.is_reference.whole;
  others =
      names_other is.name is.is_predefined;
}

spread : (u rest : List ℕ) → (is : IsReferenceBytes u) → u ++ rest ≡ 38 ∷ (is.inner ++ (59 ∷ rest))
spread u rest is = ap (λ l. l ++ rest) is.whole
    ∙ ap (λ l. 38 ∷ l) (append_assoc is.inner (codes ";") rest)

unit_closed : (u rest : List ℕ) → (has_none u ≡ true) ⊎ IsReferenceBytes u →
    ends_in_reference false (u ++ rest) ≡ ends_in_reference false rest
unit_closed u rest (inl none) = none_open_by u rest none
unit_closed u rest (inr is) = ap (ends_in_reference false) (spread u rest is)
    ∙ others_pass is.inner rest is.others

unit_nests : (u rest : List ℕ) → (has_none u ≡ true) ⊎ IsReferenceBytes u →
    nests_none false (u ++ rest) ≡ nests_none false rest
unit_nests u rest (inl none) = none_nest_by u rest none
unit_nests u rest (inr is) = ap (nests_none false) (spread u rest is)
    ∙ others_nest is.inner rest is.others

units_closed : (us : List (List ℕ)) → AllUnits us → ends_in_reference false (joined us) ≡ false
units_closed [] all = refl
units_closed (u ∷ us) all = unit_closed u (joined us) (unit_bytes u all.0) ∙ units_closed us all.1

units_nest : (us : List (List ℕ)) → AllUnits us → nests_none false (joined us) ≡ true
units_nest [] all = refl
units_nest (u ∷ us) all = unit_nests u (joined us) (unit_bytes u all.0) ∙ units_nest us all.1

begins_by : (bytes : List ℕ) → (cut_units false bytes).0 ≡ [] → begins_character bytes ≡ true
begins_by [] e = refl
begins_by (b ∷ bs) e = by (continues b) refl
  where
    by : (t : Bool) → continues b ≡ t → not (continues b) ≡ true
    by true is = let apart : b ∷ (cut_units false bs).0 ≡ [] =
        sym (ap (λ (r : List ℕ × List (List ℕ)). r.0) (stays_open b bs is)) ∙ e in absurd cc
    by false is = rw is refl

units_open : (us : List (List ℕ)) → AllUnits us → begins_character (joined us) ≡ true
units_open us all = begins_by (joined us)
    (ap (λ (r : List ℕ × List (List ℕ)). r.0) (units_cut us all))

-- ---- so many units from the right
begins_front : (a b : List ℕ) → begins_character (a ++ b) ≡ true → begins_character a ≡ true
begins_front [] b e = refl
begins_front (x ∷ xs) b e = e

nests_front : (inside : Bool) (a b : List ℕ) → nests_none inside (a ++ b) ≡ true →
    nests_none inside a ≡ true
nests_front inside [] b e = refl
nests_front true (x ∷ xs) b e =
    let parts = and_parts (not (x == 38)) (nests_none (not (x == 59)) (xs ++ b)) e in
    and_from (not (x == 38)) (nests_none (not (x == 59)) xs) parts.0
    (nests_front (not (x == 59)) xs b parts.1)
nests_front false (x ∷ xs) b e = nests_front (x == 38) xs b e

-- After the front stand as many units as were passed.
pub record Reached (bytes front : List ℕ) (left count : ℕ) : Type 0 where
  pub rest : List ℕ
  pub whole : bytes ≡ front ++ rest
  pub begins : begins_character front ≡ true
  pub closed : ends_in_reference false front ≡ false
  pub nests : nests_none false front ≡ true
  pub begun : joined (units_in rest) ≡ rest
  pub passed : length (units_in rest) + left ≡ count

pub reached_none : (bytes : List ℕ) (all count : ℕ) → IsCut bytes all →
    Reached bytes bytes count count
unfolding units_in
reached_none bytes all count is = record {
  rest = [];
  whole = sym (append-nil bytes);
  begins = ap begins_character is.whole ∙ units_open is.units is.are_units;
  closed = ap (ends_in_reference false) is.whole ∙ units_closed is.units is.are_units;
  nests = ap (nests_none false) is.whole ∙ units_nest is.units is.are_units;
  begun = refl;
  passed = omega arith;
}

pub reached_more : (bytes front before : List ℕ) (left count : ℕ) → 0 < left →
    Reached bytes front left count → EndsUnit front before → Reached bytes before (left - 1) count
unfolding units_in
reached_more bytes front before left count some r is =
    let O : List ℕ → Type 0 = λ l. begins_character l ≡ true in
    let N : List ℕ → Type 0 = λ l. nests_none false l ≡ true in
    let cut = is.cut r.rest in
    let below = cut_units false r.rest in
    record {
      rest = is.unit ++ r.rest;
      whole = r.whole ∙ ap (λ l. l ++ r.rest) is.whole ∙ append_assoc before is.unit r.rest;
      begins = begins_front before is.unit (subst O is.whole r.begins);
      closed = is.closed;
      nests = nests_front false before is.unit (subst N is.whole r.nests);
      begun = ap (λ (p : List ℕ × List (List ℕ)). joined p.1) cut
          ∙ append_assoc is.unit below.0 (joined below.1)
          ∙ ap (λ l. is.unit ++ l) (sym (cut_whole false r.rest));
      passed = omega (arith, some, r.passed, ap (λ (p : List ℕ × List (List ℕ)). length p.1) cut);
    }

parted : (inside : Bool) (front rest : List ℕ) → (us : List (List ℕ))
    × ((cut_units inside (front ++ rest)).1 ≡ us ++
    (cut_units (ends_in_reference inside front) rest).1)
parted inside [] rest = ([], refl)
parted true (b ∷ bs) rest = parted (not (b == 59)) bs rest
parted false (b ∷ bs) rest = by (continues b) refl (parted false bs rest) (parted (b == 38) bs rest)
  where
    by : (t : Bool) → continues b ≡ t →
        (us : List (List ℕ)) × ((cut_units false (bs ++ rest)).1 ≡ us ++
        (cut_units (ends_in_reference false bs) rest).1) →
        (us : List (List ℕ)) × ((cut_units (b == 38) (bs ++ rest)).1 ≡ us ++
        (cut_units (ends_in_reference (b == 38) bs) rest).1) →
        (us : List (List ℕ)) × ((cut_units false (b ∷ (bs ++ rest))).1 ≡ us ++
        (cut_units (ends_in_reference (b == 38) bs) rest).1)
    by true is below begins =
        let other : (b == 38) ≡ false = ne_eqb b 38
        (λ same. let e : continues 38 ≡ true = ap continues (sym same) ∙ is in cc) in (
          below.0,
          ap (λ (r : List ℕ × List (List ℕ)). r.1) (stays_open b (bs ++ rest) is) ∙ below.1
              ∙ ap (λ t. below.0 ++ (cut_units (ends_in_reference t bs) rest).1) (sym other),
        )
    by false is below begins =
        let u = b ∷ (cut_units (b == 38) (bs ++ rest)).0 in (
          u ∷ begins.0,
          ap (λ (r : List ℕ × List (List ℕ)). r.1) (begins_anew b (bs ++ rest) is)
              ∙ ap (λ us. u ∷ us) begins.1,
        )

reached_all : (bytes front : List ℕ) (all count left : ℕ) → IsCut bytes all → left ≡ 0 →
    Reached bytes front left count → drop (length front) bytes ≡ joined
    (drop (all - count) (units_in bytes))
unfolding units_in
reached_all bytes front all count left is none r =
    let found = parted false front r.rest in
    let us : units_in bytes ≡ found.0 ++ units_in r.rest =
    ap units_in r.whole ∙ found.1 ∙ ap (λ t. found.0 ++ (cut_units t r.rest).1) r.closed in
    let place : all - count ≡ length found.0 =
    omega (
      arith,
      none,
      r.passed,
      count_is bytes all is,
      ap length us,
      length-append found.0 (units_in r.rest),
    ) in
    ap (drop (length front)) r.whole ∙ drop-append_seam front r.rest ∙ sym r.begun
    ∙ ap joined (sym (drop-append_seam found.0 (units_in r.rest))
    ∙ (λ i. drop (sym place i) (sym us i)))

pub reached_end : (bytes front : List ℕ) (all count left : ℕ) → IsCut bytes all → count ≤ all →
    Reached bytes front left count → (left ≤ 0) ⊎ (front ≡ []) →
    drop (length front) bytes ≡ joined (drop (all - count) (units_in bytes))
reached_end bytes front all count left is within r (inl none) =
    reached_all bytes front all count left is (omega arith) r
reached_end bytes front all count left is within r (inr none) =
    let same : bytes ≡ r.rest = r.whole ∙ ap (λ l. l ++ r.rest) none in
    reached_all bytes front all count left is
    (omega (arith, within, r.passed, count_is bytes all is, ap (λ l. length (units_in l)) same))
    r
