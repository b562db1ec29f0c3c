-- Units hold `]]>` where their bytes do.
use Rattle.std.proofs.Common.{◌≡◌, ◌≢◌, ℕ, ◌+◌, ◌/◌, ◌<◌, ◌≤◌, ◌⊎◌, inl, inr, List, [], ◌∷◌, ◌++◌, Bool, true, false, ◌&&◌, ◌||◌, ◌==◌, not, refl, sym, ap, subst, ◌∙◌, arith, append_assoc}
use Rattle.std.proofs.lemmas.Bool.{and_parts, and_from, ltb-true, cases_lt, ne_eqb}
use Rattle.std.specs.Prelude.{codes}
use Rattle.std.specs.List.{list_all}
use Rattle.std.specs.Char.{is_digit, digit_value}
use Rattle.std.specs.Str.{bytes_eq}
use Rattle.std.proofs.lemmas.Slice.Eq.{bytes_eq-Decides}
use Rattle.std.proofs.Math.Bool.{or-true}
use lib.Utf8.{encode, next}
use Rattle.pv_chars.specs.Fronts.{ContainsBytes}
use Rattle.pv_chars.specs.Texts.{joined, begins_close_mark, holds_close_mark}
use Rattle.pv_chars.specs.References.{IsPredefined}
use Rattle.pv_chars.specs.Units.{IsUnit, AllUnits}
use Rattle.pv_chars.proofs.Utf8Lemmas.{one_byte, two_bytes, three_bytes, four_bytes}

-- no byte of these is `]`
abbrev has_no_bracket : List ℕ → Bool
has_no_bracket bytes = list_all (λ b. not (b == 93)) bytes

-- The bytes of a unit: `]` may only be the first, and one of ASCII other than `&` stands alone.
record UnitBytes (u : List ℕ) : Type 0 where
  first : ℕ
  others : List ℕ
  whole : u ≡ first ∷ others
  no_bracket : has_no_bracket others ≡ true
  alone : first < 128 → first ≢ 38 → others ≡ []

no_bracket_in : (b : ℕ) (bs : List ℕ) → b ≢ 93 → has_no_bracket bs ≡ true → has_no_bracket (b ∷ bs) ≡ true
no_bracket_in b bs other none = and_from (not (b == 93)) (has_no_bracket bs) (rw (ne_eqb b 93 other) refl) none

next_no_bracket : (n : ℕ) (bs : List ℕ) → has_no_bracket bs ≡ true → has_no_bracket (next n ∷ bs) ≡ true
next_no_bracket n bs none = no_bracket_in (next n) bs (λ same. omega arith) none

literal_bytes : (c : ℕ) (u : List ℕ) → u ≡ encode c → UnitBytes u
literal_bytes c u whole = by (cases_lt c 128) (cases_lt c 2048) (cases_lt c 65536)
  where
    by : (c < 128) ⊎ (128 ≤ c) → (c < 2048) ⊎ (2048 ≤ c) → (c < 65536) ⊎ (65536 ≤ c) → UnitBytes u
    by (inl h) _ _ = record { first = c; others = []; whole = whole ∙ one_byte c h; no_bracket = refl; alone = λ low other. refl }
    by (inr l) (inl h) _ = record {
      first = 192 + c / 64;
      others = next c ∷ [];
      whole = whole ∙ two_bytes c l h;
      no_bracket = next_no_bracket c [] refl;
      alone = λ low other. absurd (omega arith);
    }
    by (inr _) (inr l) (inl h) = record {
      first = 224 + c / 4096;
      others = next (c / 64) ∷ next c ∷ [];
      whole = whole ∙ three_bytes c l h;
      no_bracket = next_no_bracket (c / 64) (next c ∷ []) (next_no_bracket c [] refl);
      alone = λ low other. absurd (omega arith);
    }
    by (inr _) (inr _) (inr l) = record {
      first = 240 + c / 262144;
      others = next (c / 4096) ∷ next (c / 64) ∷ next c ∷ [];
      whole = whole ∙ four_bytes c l;
      no_bracket = next_no_bracket (c / 4096) (next (c / 64) ∷ next c ∷ []) (next_no_bracket (c / 64) (next c ∷ []) (next_no_bracket c [] refl));
      alone = λ low other. absurd (omega arith);
    }

digits_no_bracket : (base : ℕ) (digits : List ℕ) → base ≤ 36 → list_all (λ d. is_digit d base) digits ≡ true → has_no_bracket (digits ++ codes ";") ≡ true
digits_no_bracket base [] known all = refl
digits_no_bracket base (d ∷ ds) known all =
    let parts = and_parts (is_digit d base) (list_all (λ k. is_digit k base) ds) all in
    no_bracket_in d (ds ++ codes ";")
    (λ same. let low : digit_value 93 < base = ltb-true (digit_value 93) base
    (let P : ℕ → Type 0 = λ k. is_digit k base ≡ true in subst P same parts.0) in omega arith)
    (digits_no_bracket base ds known parts.1)

reference_bytes : (u others : List ℕ) → u ≡ 38 ∷ others → has_no_bracket others ≡ true → UnitBytes u
reference_bytes u others whole none = record { first = 38; others = others; whole = whole; no_bracket = none; alone = λ low other. absurd (other refl) }

name_no_bracket : (name : List ℕ) → IsPredefined name → has_no_bracket (name ++ codes ";") ≡ true
name_no_bracket name (inl e) = rw e refl
name_no_bracket name (inr (inl e)) = rw e refl
name_no_bracket name (inr (inr (inl e))) = rw e refl
name_no_bracket name (inr (inr (inr (inl e)))) = rw e refl
name_no_bracket name (inr (inr (inr (inr e)))) = rw e refl

unit_bytes : (u : List ℕ) → IsUnit u → UnitBytes u
unit_bytes u (inl is) = literal_bytes is.code u is.whole
unit_bytes u (inr (inl (inl is))) = reference_bytes u (35 ∷ (is.digits ++ codes ";")) is.whole (digits_no_bracket 10 is.digits (omega arith) is.are_digits)
unit_bytes u (inr (inl (inr is))) = reference_bytes u (35 ∷ 120 ∷ (is.digits ++ codes ";")) is.whole (digits_no_bracket 16 is.digits (omega arith) is.are_digits)
unit_bytes u (inr (inr is)) = reference_bytes u (is.name ++ codes ";") is.is_reference.whole (name_no_bracket is.name is.is_predefined)

pub unit_some : (u : List ℕ) → IsUnit u → u ≢ []
unit_some u is none = let own = unit_bytes u is in let e = sym none ∙ own.whole in absurd cc

-- some units have some bytes
pub units_some : (units : List (List ℕ)) → AllUnits units → units ≢ [] → joined units ≢ []
units_some [] all some none = some refl
units_some (u ∷ us) all some none = let own = unit_bytes u all.0 in let e = ap (λ l. l ++ joined us) (sym own.whole) ∙ none in absurd cc

-- `]` stands after bytes of which none is one
behind : (front rest before more : List ℕ) → has_no_bracket front ≡ true → front ++ rest ≡ before ++ (93 ∷ more) → (left : List ℕ) × (rest ≡ left ++ (93 ∷ more))
behind [] rest before more none e = (before, e)
behind (b ∷ bs) rest [] more none e =
    let same : b ≡ 93 = cc in
    let P : ℕ → Type 0 = λ k. not (k == 93) ≡ true in
    let never = subst P same (and_parts (not (b == 93)) (has_no_bracket bs) none).0 in
    absurd cc
behind (b ∷ bs) rest (c ∷ cs) more none e =
    let parts = and_parts (not (b == 93)) (has_no_bracket bs) none in
    let tails : bs ++ rest ≡ cs ++ (93 ∷ more) = cc in
    behind bs rest cs more parts.1 tails

-- The first unit is this byte, and the others have these bytes.
record BeginsByte (units : List (List ℕ)) (b : ℕ) (bytes : List ℕ) : Type 0 where
  others : List (List ℕ)
  whole : units ≡ (b ∷ []) ∷ others
  are_units : AllUnits others
  bytes_are : joined others ≡ bytes

first_is : (units : List (List ℕ)) (b : ℕ) (bytes : List ℕ) → AllUnits units → b < 128 → b ≢ 38 → joined units ≡ b ∷ bytes → BeginsByte units b bytes
first_is [] b bytes all low other e = absurd cc
first_is (u ∷ us) b bytes all low other e =
    let own = unit_bytes u all.0 in
    let spread : own.first ∷ (own.others ++ joined us) ≡ b ∷ bytes = ap (λ l. l ++ joined us) (sym own.whole) ∙ e in
    let same : own.first ≡ b = cc in
    let none : own.others ≡ [] = own.alone (rw same low) (rw same other) in
    let tails : own.others ++ joined us ≡ bytes = cc in
    record {
      others = us;
      whole = ap (λ x. x ∷ us) (own.whole ∙ (λ i. same i ∷ none i));
      are_units = all.1;
      bytes_are = ap (λ l. l ++ joined us) (sym none) ∙ tails;
    }

-- where `]]>` stands in the bytes, three units are its characters
units_hold : (units : List (List ℕ)) (before after : List ℕ) → AllUnits units → joined units ≡ before ++ (codes "]]>" ++ after) → holds_close_mark units ≡ true
units_hold [] [] after all e = absurd cc
units_hold [] (b ∷ before) after all e = absurd cc
units_hold (u ∷ us) [] after all e =
    let one = first_is (u ∷ us) 93 (93 ∷ 62 ∷ after) all (omega arith) (λ f. omega arith) e in
    let two = first_is one.others 93 (62 ∷ after) one.are_units (omega arith) (λ f. omega arith) one.bytes_are in
    let three = first_is two.others 62 after two.are_units (omega arith) (λ f. omega arith) two.bytes_are in
    let whole : u ∷ us ≡ codes "]" ∷ codes "]" ∷ codes ">" ∷ three.others = one.whole ∙ ap (λ l. codes "]" ∷ l) (two.whole ∙ ap (λ l. codes "]" ∷ l) three.whole) in
    ap holds_close_mark whole
units_hold (u ∷ us) (b ∷ before) after all e =
    let own = unit_bytes u all.0 in
    let spread : own.first ∷ (own.others ++ joined us) ≡ b ∷ (before ++ (codes "]]>" ++ after)) = ap (λ l. l ++ joined us) (sym own.whole) ∙ e in
    let tails : own.others ++ joined us ≡ before ++ (codes "]]>" ++ after) = cc in
    let left = behind own.others (joined us) before (codes "]>" ++ after) own.no_bracket tails in
    ap (λ h. begins_close_mark (u ∷ us) || h) (units_hold us left.0 after all.1 left.1) ∙ or-true (begins_close_mark (u ∷ us))

pub held_by_units : (units : List (List ℕ)) → AllUnits units → ContainsBytes (joined units) (codes "]]>") → holds_close_mark units ≡ true
held_by_units units all h = units_hold units h.before h.after all h.whole

pub begins_bytes : (units : List (List ℕ)) → begins_close_mark units ≡ true → (after : List ℕ) × (joined units ≡ codes "]]>" ++ after)
begins_bytes [] e = absurd cc
begins_bytes (a ∷ []) e = absurd cc
begins_bytes (a ∷ b ∷ []) e = absurd cc
begins_bytes (a ∷ b ∷ c ∷ units) e =
    let outer = and_parts (bytes_eq a (codes "]") && bytes_eq b (codes "]")) (bytes_eq c (codes ">")) e in
    let inner = and_parts (bytes_eq a (codes "]")) (bytes_eq b (codes "]")) outer.0 in
    (joined units, rw ((bytes_eq-Decides a (codes "]")).0 inner.0, (bytes_eq-Decides b (codes "]")).0 inner.1, (bytes_eq-Decides c (codes ">")).0 outer.1) refl)

-- units that hold it do so at the front, or after the first
held_from : (u : List ℕ) (us : List (List ℕ)) (begins : Bool) → begins_close_mark (u ∷ us)
    ≡ begins → (begins || holds_close_mark us) ≡ true → (holds_close_mark us ≡ true →
    ContainsBytes (joined us) (codes "]]>")) → ContainsBytes (u ++ joined us) (codes "]]>")
held_from u us true is e below = let found = begins_bytes (u ∷ us) is in record { before = []; after = found.0; whole = found.1 }
held_from u us false is e below =
    let h = below e in
    record { before = u ++ h.before; after = h.after; whole = ap (λ l. u ++ l) h.whole ∙ sym (append_assoc u h.before (codes "]]>" ++ h.after)) }

-- where three units are its characters, `]]>` stands in the bytes
pub held_by_bytes : (units : List (List ℕ)) → holds_close_mark units ≡ true → ContainsBytes (joined units) (codes "]]>")
held_by_bytes [] e = absurd cc
held_by_bytes (u ∷ us) e = held_from u us (begins_close_mark (u ∷ us)) refl e (λ h. held_by_bytes us h)
