-- Where a text is cut: a list of units, joined, is cut into these units again.
use Rattle.std.proofs.Common.{◌≡◌, ℕ, ◌+◌, ◌/◌, ◌<◌, ◌≤◌, ◌⊎◌, inl, inr, List, [], ◌∷◌, ◌++◌, Bool, true, false, ◌&&◌, ◌==◌, not, refl, sym, ap, subst, ◌∙◌, arith, append_assoc}
use Rattle.std.proofs.lemmas.Bool.{and_parts, and_from, not-true, ltb-true, cases_lt, ne_eqb, lt-leb, le-leb, le-ltb}
use Rattle.std.proofs.lemmas.List.{append-nil}
use Rattle.std.specs.Prelude.{codes}
use Rattle.std.specs.List.{list_all}
use Rattle.std.specs.Char.{is_digit, digit_value}
use lib.Utf8.{encode, next}
use Rattle.pv_chars.specs.Characters.{is_char}
use Rattle.pv_chars.specs.Utf8.{continues}
use Rattle.pv_chars.specs.Texts.{joined}
use Rattle.pv_chars.specs.References.{IsPredefined}
use Rattle.pv_chars.specs.Units.{is_literal, IsUnit, AllUnits, cut_units, goes_on, unit_opens, units_in}
use Rattle.pv_chars.proofs.Utf8Lemmas.{one_byte, two_bytes, three_bytes, four_bytes, is_continues}

-- no byte of these closes a reference
abbrev no_semicolon : List ℕ → Bool
no_semicolon bytes = list_all (λ b. not (b == 59)) bytes

step_in_reference : (b : ℕ) (bs : List ℕ) → not (b == 59) ≡ true → cut_units true (b ∷ bs) ≡ goes_on b (cut_units true bs)
step_in_reference b bs e = rw e refl

pub cut_reference : (inner rest : List ℕ) → no_semicolon inner ≡ true → cut_units true (inner ++ (59 ∷ rest)) ≡ (inner ++ (59 ∷ (cut_units false rest).0), (cut_units false rest).1)
cut_reference [] rest e = refl
cut_reference (b ∷ bs) rest e =
    let parts = and_parts (not (b == 59)) (no_semicolon bs) e in
    step_in_reference b (bs ++ (59 ∷ rest)) parts.0 ∙ ap (goes_on b) (cut_reference bs rest parts.1)

-- ---- a literal character
pub begins_anew : (b : ℕ) (bs : List ℕ) → continues b ≡ false → cut_units false (b ∷ bs) ≡ unit_opens b (cut_units (b == 38) bs)
begins_anew b bs e = rw e refl

pub stays_open : (b : ℕ) (bs : List ℕ) → continues b ≡ true → cut_units false (b ∷ bs) ≡ goes_on b (cut_units false bs)
stays_open b bs e = rw e refl

low_begins : (b : ℕ) → b < 128 → continues b ≡ false
low_begins b low = rw (lt-leb 0x80 b low) refl

high_begins : (b : ℕ) → 192 ≤ b → continues b ≡ false
high_begins b high = rw (le-leb 0x80 b (omega arith), le-ltb b 0xC0 high) refl

next_continues : (n : ℕ) → continues (next n) ≡ true
next_continues n = is_continues (next n) record { low = omega arith; high = omega arith }

literal_cut : (c : ℕ) (rest : List ℕ) → is_literal c ≡ true → cut_units false (encode c ++ rest) ≡ ([], (encode c ++ (cut_units false rest).0) ∷ (cut_units false rest).1)
literal_cut c rest is = by (cases_lt c 128) (cases_lt c 2048) (cases_lt c 65536)
  where
    high_lead : (a : ℕ) (bs : List ℕ) → 192 ≤ a → cut_units false (a ∷ bs) ≡ unit_opens a (cut_units false bs)
    high_lead a bs high = begins_anew a bs (high_begins a high) ∙ ap (λ t. unit_opens a (cut_units t bs)) (ne_eqb a 38 (λ same. omega arith))

    not_ampersand : (c == 38) ≡ false
    not_ampersand = not-true (c == 38) (and_parts (is_char c && not (c == 60)) (not (c == 38)) is).1

    by : (c < 128) ⊎ (128 ≤ c) → (c < 2048) ⊎ (2048 ≤ c) → (c < 65536) ⊎ (65536 ≤ c) → cut_units false (encode c ++ rest) ≡ ([], (encode c ++ (cut_units false rest).0) ∷ (cut_units false rest).1)
    by (inl h) _ _ = rw (one_byte c h) (begins_anew c rest (low_begins c h) ∙ ap (λ t. unit_opens c (cut_units t rest)) not_ampersand)
    by (inr l) (inl h) _ =
        let a = 192 + c / 64 in
        rw (two_bytes c l h) (high_lead a (next c ∷ rest) (omega arith) ∙ ap (unit_opens a) (stays_open (next c) rest (next_continues c)))
    by (inr _) (inr l) (inl h) =
        let a = 224 + c / 4096 in
        rw (three_bytes c l h) (high_lead a (next (c / 64) ∷ next c ∷ rest) (omega arith)
        ∙ ap (unit_opens a) (stays_open (next (c / 64)) (next c ∷ rest)
        (next_continues (c / 64)) ∙ ap (goes_on (next (c / 64))) (stays_open (next c) rest
        (next_continues c))))
    by (inr _) (inr _) (inr l) =
        let a = 240 + c / 262144 in
        rw (four_bytes c l) (high_lead a (next (c / 4096) ∷ next (c / 64) ∷ next c ∷ rest)
        (omega arith) ∙ ap (unit_opens a) (stays_open (next (c / 4096))
        (next (c / 64) ∷ next c ∷ rest) (next_continues (c / 4096))
        ∙ ap (goes_on (next (c / 4096))) (stays_open (next (c / 64)) (next c ∷ rest)
        (next_continues (c / 64)) ∙ ap (goes_on (next (c / 64))) (stays_open (next c) rest
        (next_continues c)))))

-- ---- a reference
pub reference_cut : (inner rest : List ℕ) → no_semicolon inner ≡ true →
    cut_units false (38 ∷ (inner ++ (59 ∷ rest)))
    ≡ ([], (38 ∷ (inner ++ (59 ∷ (cut_units false rest).0))) ∷ (cut_units false rest).1)
reference_cut inner rest e = ap (unit_opens 38) (cut_reference inner rest e)

digits_hold_none : (base : ℕ) (digits : List ℕ) → base ≤ 36 → list_all (λ d. is_digit d base) digits ≡ true → no_semicolon digits ≡ true
digits_hold_none base [] known all = refl
digits_hold_none base (d ∷ ds) known all =
    let parts = and_parts (is_digit d base) (list_all (λ k. is_digit k base) ds) all in
    let apart : (d == 59) ≡ false =
    ne_eqb d 59 (λ same. let low : digit_value 59 < base = ltb-true (digit_value 59) base
    (let P : ℕ → Type 0 = λ k. is_digit k base ≡ true in subst P same parts.0) in omega arith) in
    and_from (not (d == 59)) (no_semicolon ds) (rw apart refl) (digits_hold_none base ds known parts.1)

names_hold_none : (name : List ℕ) → IsPredefined name → no_semicolon name ≡ true
names_hold_none name (inl e) = rw e refl
names_hold_none name (inr (inl e)) = rw e refl
names_hold_none name (inr (inr (inl e))) = rw e refl
names_hold_none name (inr (inr (inr (inl e)))) = rw e refl
names_hold_none name (inr (inr (inr (inr e)))) = rw e refl

-- a reference is `&`, something without `;`, and `;`
by_inner : (u inner rest : List ℕ) → u ≡ 38 ∷ (inner ++ codes ";") → no_semicolon inner ≡ true → cut_units false (u ++ rest) ≡ ([], (u ++ (cut_units false rest).0) ∷ (cut_units false rest).1)
by_inner u inner rest e none =
    let spread : u ++ rest ≡ 38 ∷ (inner ++ (59 ∷ rest)) = ap (λ l. l ++ rest) e ∙ ap (λ l. 38 ∷ l) (append_assoc inner (codes ";") rest) in
    let back : 38 ∷ (inner ++ (59 ∷ (cut_units false rest).0)) ≡ u ++ (cut_units false rest).0 =
    sym (ap (λ l. l ++ (cut_units false rest).0) e
    ∙ ap (λ l. 38 ∷ l) (append_assoc inner (codes ";") (cut_units false rest).0)) in
    ap (cut_units false) spread ∙ reference_cut inner rest none ∙ packed back
  where
    packed : {a b : List ℕ} → a ≡ b → ◌≡◌ {A = List ℕ × List (List ℕ)} ([], a ∷ (cut_units false rest).1) ([], b ∷ (cut_units false rest).1)
    packed f = λ i. ([], f i ∷ (cut_units false rest).1)

-- a unit at the front is cut off
pub unit_cut : (u rest : List ℕ) → IsUnit u → cut_units false (u ++ rest) ≡ ([], (u ++ (cut_units false rest).0) ∷ (cut_units false rest).1)
unit_cut u rest (inl is) = rw is.whole (literal_cut is.code rest is.is_literal)
unit_cut u rest (inr (inl (inl is))) = by_inner u (35 ∷ is.digits) rest is.whole (digits_hold_none 10 is.digits (omega arith) is.are_digits)
unit_cut u rest (inr (inl (inr is))) = by_inner u (35 ∷ 120 ∷ is.digits) rest is.whole (digits_hold_none 16 is.digits (omega arith) is.are_digits)
unit_cut u rest (inr (inr is)) = by_inner u is.name rest is.is_reference.whole (names_hold_none is.name is.is_predefined)

pub units_cut : (units : List (List ℕ)) → AllUnits units →
    ◌≡◌ {A = List ℕ × List (List ℕ)} (cut_units false (joined units)) ([], units)
units_cut [] all = refl
units_cut (u ∷ us) all =
    let below = units_cut us all.1 in
    let step = unit_cut u (joined us) all.0 in
    step ∙ (λ i. ([], (u ++ (below i).0) ∷ (below i).1)) ∙ (λ i. ([], append-nil u i ∷ us))

-- the units of joined units are these
pub units_in-joined : (units : List (List ℕ)) → AllUnits units → units_in (joined units) ≡ units
unfolding units_in
units_in-joined units all = ap (λ (p : List ℕ × List (List ℕ)). p.1) (units_cut units all)
