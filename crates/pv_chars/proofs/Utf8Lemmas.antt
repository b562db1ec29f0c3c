-- What `char_at` reads is what UTF-8 spells.
use Rattle.std.proofs.Common.{◌≡◌, ℕ, ◌+◌, ◌-◌, ◌*◌, ◌/◌, ◌<◌, ◌≤◌, List, [], ◌∷◌, ◌++◌, Bool, true, false, cond, ◌&&◌, ◌||◌, ◌⊎◌, inl, inr, ⊎_elim, Some, refl, sym, ap, subst, ◌∙◌, arith}
use Rattle.std.proofs.lemmas.Bool.{and_parts, and_from, cases_lt, le-leb, lt-ltb, le-ltb, leb-true, ltb-true, ltb-false, or_cases}
use Rattle.std.proofs.lemmas.Option.{cond_some}
use Rattle.std.specs.Prelude.{nat_le, nat_lt}
use Rattle.std.specs.Char.{IsScalar}
use Rattle.std.specs.Option.{MatchOption}
use Rattle.std.proofs.Common.{length, length-append}
use Rattle.std.proofs.lemmas.Str.{len_utf8_bounds, length-encode}
use lib.Utf8.{encode, scalar_cases, low_scalar, next}
use Rattle.pv_chars.specs.Characters.{BeginsWith, BeginsWithNone}
use Rattle.pv_chars.proofs.Options.{match_read}
use Rattle.pv_chars.specs.Utf8.{char_at, continues, of_two, code_of_three, is_of_three, of_three, code_of_four, is_of_four, of_four, led_by, led_by_three, led_by_four}

below : {X : Type 0} (m n : ℕ) (a b : X) → m < n → cond (nat_lt m n) a b ≡ a
below m n a b h = rw (lt-ltb m n h) refl

above : {X : Type 0} (m n : ℕ) (a b : X) → n ≤ m → cond (nat_lt m n) a b ≡ b
above m n a b h = rw (le-ltb m n h) refl

pub one_byte : (c : ℕ) → c < 128 → encode c ≡ c ∷ []
unfolding encode
one_byte c h = below c 128 _ _ h

pub two_bytes : (c : ℕ) → 128 ≤ c → c < 2048 → encode c ≡ (192 + c / 64) ∷ next c ∷ []
unfolding encode
two_bytes c l h = above c 128 _ _ l ∙ below c 2048 _ _ h

pub three_bytes : (c : ℕ) → 2048 ≤ c → c < 65536 → encode c ≡ (224 + c / 4096) ∷ next (c / 64) ∷ next c ∷ []
unfolding encode
three_bytes c l h = above c 128 _ _ (omega arith) ∙ above c 2048 _ _ l ∙ below c 65536 _ _ h

pub four_bytes : (c : ℕ) → 65536 ≤ c → encode c ≡ (240 + c / 262144) ∷ next (c / 4096) ∷ next (c / 64) ∷ next c ∷ []
unfolding encode
four_bytes c l = above c 128 _ _ (omega arith) ∙ above c 2048 _ _ (omega arith) ∙ above c 65536 _ _ l

-- a code point that these bytes spell begins them and the rest
begins_by : (c : ℕ) (own rest : List ℕ) → IsScalar c → encode c ≡ own → BeginsWith (own ++ rest) c rest
begins_by c own rest is e = record { scalar = is; whole = ap (λ (l : List ℕ). l ++ rest) (sym e) }

-- bytes that begin with a code point begin with one that equals it, and so do the rests
renamed : (bytes : List ℕ) (found wanted : ℕ × List ℕ) → found ≡ wanted → BeginsWith bytes found.0 found.1 → BeginsWith bytes wanted.0 wanted.1
renamed bytes found wanted e begins = let P : ℕ × List ℕ → Type 0 = λ p. BeginsWith bytes p.0 p.1 in subst P e begins

-- a byte that continues a code point
pub record Continues (b : ℕ) : Type 0 where
  pub low : 128 ≤ b
  pub high : b < 192

continues_is : (b : ℕ) → continues b ≡ true → Continues b
continues_is b e = let parts = and_parts (nat_le 0x80 b) (nat_lt b 0xC0) e in record { low = leb-true 128 b parts.0; high = ltb-true b 192 parts.1 }

pub is_continues : (b : ℕ) → Continues b → continues b ≡ true
is_continues b h = and_from (nat_le 0x80 b) (nat_lt b 0xC0) (le-leb 128 b h.low) (lt-ltb b 192 h.high)

of_two_takes : (a b d : ℕ) (rest t : List ℕ) → a < 0xE0 → of_two a b rest ≡ Some (d, t) → BeginsWith (a ∷ b ∷ rest) d t
of_two_takes a b d rest t high e =
    let found = cond_some _ _ _ e in
    let parts = and_parts (nat_le 0xC2 a) (continues b) found.0 in
    let low : 0xC2 ≤ a = leb-true 0xC2 a parts.0 in
    let more = continues_is b parts.1 in
    let code = (a - 0xC0) * 64 + (b - 0x80) in
    let first : 192 + code / 64 ≡ a = omega arith in
    let second : next code ≡ b = omega arith in
    let spelled : encode code ≡ a ∷ b ∷ [] = two_bytes code (omega arith) (omega arith) ∙ cc in
    renamed (a ∷ b ∷ rest) (code, rest) (d, t) found.1 (begins_by code (a ∷ b ∷ []) rest (low_scalar code (omega arith)) spelled)

scalar_by : (c : ℕ) → (c < 0xD800) ⊎ (0xE000 ≤ c) → c < 0x110000 → IsScalar c
scalar_by c (inl h) top = low_scalar c h
scalar_by c (inr h) top = rw (le-ltb c 55296 (omega arith), le-leb 57344 c h, lt-ltb c 1114112 top) refl

of_three_takes : (a b c d : ℕ) (rest t : List ℕ) → 0xE0 ≤ a → a < 0xF0 → of_three a b c rest ≡ Some (d, t) → BeginsWith (a ∷ b ∷ c ∷ rest) d t
of_three_takes a b c d rest t low high e =
    let code = code_of_three a b c in
    let found = cond_some (continues b && continues c && is_of_three code) (code, rest) (d, t) e in
    let all = and_parts (continues b && continues c) (is_of_three code) found.0 in
    let others = and_parts (continues b) (continues c) all.0 in
    let second = continues_is b others.0 in
    let third = continues_is c others.1 in
    let range = and_parts (nat_le 0x800 code) (nat_lt code 0xD800 || nat_le 0xE000 code) all.1 in
    let least : 0x800 ≤ code = leb-true 0x800 code range.0 in
    let apart : (code < 0xD800) ⊎ (0xE000 ≤ code) = ⊎_elim (λ h. inl (ltb-true code 0xD800 h)) (λ h. inr (leb-true 0xE000 code h)) (or_cases _ _ range.1) in
    let most : code < 65536 = omega arith in
    let first_is : 224 + code / 4096 ≡ a = omega arith in
    let second_is : next (code / 64) ≡ b = omega arith in
    let third_is : next code ≡ c = omega arith in
    let spelled : encode code ≡ a ∷ b ∷ c ∷ [] = three_bytes code least most ∙ cc in
    renamed (a ∷ b ∷ c ∷ rest) (code, rest) (d, t) found.1 (begins_by code (a ∷ b ∷ c ∷ []) rest (scalar_by code apart (omega arith)) spelled)

of_four_takes : (a b c x d : ℕ) (rest t : List ℕ) → 0xF0 ≤ a → of_four a b c x rest ≡ Some (d, t) → BeginsWith (a ∷ b ∷ c ∷ x ∷ rest) d t
of_four_takes a b c x d rest t low e =
    let code = code_of_four a b c x in
    let found = cond_some (continues b && continues c && continues x && is_of_four code) (code, rest) (d, t) e in
    let all = and_parts (continues b && continues c && continues x) (is_of_four code) found.0 in
    let others = and_parts (continues b && continues c) (continues x) all.0 in
    let front = and_parts (continues b) (continues c) others.0 in
    let second = continues_is b front.0 in
    let third = continues_is c front.1 in
    let fourth = continues_is x others.1 in
    let range = and_parts (nat_le 0x10000 code) (nat_lt code 0x110000) all.1 in
    let least : 0x10000 ≤ code = leb-true 0x10000 code range.0 in
    let most : code < 0x110000 = ltb-true code 0x110000 range.1 in
    let first_is : 240 + code / 262144 ≡ a = omega arith in
    let second_is : next (code / 4096) ≡ b = omega arith in
    let third_is : next (code / 64) ≡ c = omega arith in
    let fourth_is : next code ≡ x = omega arith in
    let spelled : encode code ≡ a ∷ b ∷ c ∷ x ∷ [] = four_bytes code least ∙ cc in
    renamed (a ∷ b ∷ c ∷ x ∷ rest) (code, rest) (d, t) found.1 (begins_by code (a ∷ b ∷ c ∷ x ∷ []) rest (scalar_by code (inr (omega arith)) most) spelled)

-- ---- the code point that is read begins the bytes
led_by_four_takes : (a b c : ℕ) (more : List ℕ) (d : ℕ) (t : List ℕ) → 0xF0 ≤ a → led_by_four a b c more ≡ Some (d, t) → BeginsWith (a ∷ b ∷ c ∷ more) d t
led_by_four_takes a b c [] d t low e = cc
led_by_four_takes a b c (x ∷ rest) d t low e = of_four_takes a b c x d rest t low e

by_three : (a b c : ℕ) (rest : List ℕ) (d : ℕ) (t : List ℕ) (test : Bool) → nat_lt a 0xF0 ≡ test →
    0xE0 ≤ a → cond test (of_three a b c rest) (led_by_four a b c rest) ≡ Some (d, t) →
    BeginsWith (a ∷ b ∷ c ∷ rest) d t
by_three a b c rest d t true is low e = of_three_takes a b c d rest t low (ltb-true a 0xF0 is) e
by_three a b c rest d t false is low e = led_by_four_takes a b c rest d t (ltb-false a 0xF0 is) e

led_by_three_takes : (a b : ℕ) (more : List ℕ) (d : ℕ) (t : List ℕ) → 0xE0 ≤ a → led_by_three a b more ≡ Some (d, t) → BeginsWith (a ∷ b ∷ more) d t
led_by_three_takes a b [] d t low e = cc
led_by_three_takes a b (c ∷ rest) d t low e = by_three a b c rest d t (nat_lt a 0xF0) refl low e

by_two : (a b : ℕ) (rest : List ℕ) (d : ℕ) (t : List ℕ) (test : Bool) → nat_lt a 0xE0 ≡ test → cond test (of_two a b rest) (led_by_three a b rest) ≡ Some (d, t) → BeginsWith (a ∷ b ∷ rest) d t
by_two a b rest d t true is e = of_two_takes a b d rest t (ltb-true a 0xE0 is) e
by_two a b rest d t false is e = led_by_three_takes a b rest d t (ltb-false a 0xE0 is) e

led_by_takes : (a : ℕ) (more : List ℕ) (d : ℕ) (t : List ℕ) → led_by a more ≡ Some (d, t) → BeginsWith (a ∷ more) d t
led_by_takes a [] d t e = cc
led_by_takes a (b ∷ rest) d t e = by_two a b rest d t (nat_lt a 0xE0) refl e

by_one : (a : ℕ) (rest : List ℕ) (d : ℕ) (t : List ℕ) (test : Bool) → nat_lt a 0x80 ≡ test → cond test (Some (a, rest)) (led_by a rest) ≡ Some (d, t) → BeginsWith (a ∷ rest) d t
by_one a rest d t true is e =
    let low = ltb-true a 0x80 is in
    renamed (a ∷ rest) (a, rest) (d, t) (cond_some true (a, rest) (d, t) e).1 (begins_by a (a ∷ []) rest (low_scalar a (omega arith)) (one_byte a low))
by_one a rest d t false is e = led_by_takes a rest d t e

pub char_at_takes : (bytes : List ℕ) (c : ℕ) (rest : List ℕ) → char_at bytes ≡ Some (c, rest) → BeginsWith bytes c rest
unfolding char_at
char_at_takes [] c rest e = cc
char_at_takes (a ∷ more) c rest e = by_one a more c rest (nat_lt a 0x80) refl e

-- ---- and what begins bytes is read
below_top : (c : ℕ) → (c < 55296) ⊎ ((57344 ≤ c) × (c < 1114112)) → c < 0x110000
below_top c (inl h) = omega arith
below_top c (inr h) = h.1

is_scalar_of_three : (c : ℕ) → 0x800 ≤ c → (c < 55296) ⊎ ((57344 ≤ c) × (c < 1114112)) → is_of_three c ≡ true
is_scalar_of_three c low (inl h) = rw (le-leb 0x800 c low, lt-ltb c 0xD800 h) refl
is_scalar_of_three c low (inr h) = rw (le-leb 0x800 c low, le-ltb c 0xD800 (omega arith), le-leb 0xE000 c h.0) refl

pub char_at-encode : (c : ℕ) (rest : List ℕ) → IsScalar c → char_at (encode c ++ rest) ≡ Some (c, rest)
unfolding char_at
char_at-encode c rest is = by (cases_lt c 128) (cases_lt c 2048) (cases_lt c 65536) (scalar_cases c is)
  where
    by : (c < 128) ⊎ (128 ≤ c) → (c < 2048) ⊎ (2048 ≤ c) → (c < 65536) ⊎ (65536 ≤ c) → (c < 55296) ⊎ ((57344 ≤ c) × (c < 1114112)) → char_at (encode c ++ rest) ≡ Some (c, rest)
    by (inl h) _ _ _ = rw (one_byte c h, lt-ltb c 128 h) refl
    by (inr l) (inl h) _ _ =
        let code : (192 + c / 64 - 0xC0) * 64 + (next c - 0x80) ≡ c = omega arith in
        rw (
          two_bytes c l h,
          le-ltb (192 + c / 64) 128 (omega arith),
          lt-ltb (192 + c / 64) 224
              (omega arith),
          le-leb 0xC2 (192 + c / 64) (omega arith),
          is_continues (next c) record { low = omega arith; high = omega arith },
          code,
        ) refl
    by (inr _) (inr l) (inl h) s =
        let a = 224 + c / 4096 in
        let code : code_of_three a (next (c / 64)) (next c) ≡ c = omega arith in
        rw (
          three_bytes c l h,
          le-ltb a 128 (omega arith),
          le-ltb a 224 (omega arith),
          lt-ltb a 240 (omega arith),
          is_continues (next (c / 64)) record { low = omega arith; high = omega arith },
          is_continues (next c) record { low = omega arith; high = omega arith },
          code,
          is_scalar_of_three c l s,
        ) refl
    by (inr _) (inr _) (inr l) s =
        let a = 240 + c / 262144 in
        let top = below_top c s in
        let code : code_of_four a (next (c / 4096)) (next (c / 64)) (next c) ≡ c = omega arith in
        rw (
          four_bytes c l,
          le-ltb a 128 (omega arith),
          le-ltb a 224 (omega arith),
          le-ltb a 240 (omega arith),
          is_continues (next (c / 4096)) record { low = omega arith; high = omega arith },
          is_continues (next (c / 64)) record { low = omega arith; high = omega arith },
          is_continues (next c) record { low = omega arith; high = omega arith },
          code,
          le-leb 0x10000 c l,
          lt-ltb c 0x110000 top,
        ) refl

pub char_at_reads : (bytes : List ℕ) → MatchOption (char_at bytes) (BeginsWithNone bytes) (λ p. BeginsWith bytes p.0 p.1)
char_at_reads bytes =
    match_read (char_at bytes) (BeginsWithNone bytes) (λ p. BeginsWith bytes p.0 p.1)
    (λ none c rest begins. let read = char_at-encode c rest begins.scalar in let same : char_at bytes ≡ Some (c, rest) = rw begins.whole read in cc)
    (λ p some. char_at_takes bytes p.0 p.1 some)

pub begins_shorter : (bytes : List ℕ) (c : ℕ) (rest : List ℕ) → BeginsWith bytes c rest → length rest < length bytes
begins_shorter bytes c rest b = let long = (len_utf8_bounds c).0 in omega (arith, ap length b.whole, length-append (encode c) rest, length-encode c)
