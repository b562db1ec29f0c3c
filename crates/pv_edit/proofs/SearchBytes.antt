-- A search of the bytes of a text for `]]>` finds what a search of its units does.
use Rattle.std.proofs.Common.{◌≡◌, ◌∙◌, ap, sym, refl, ℕ, ◌+◌, ◌/◌, ◌<◌, ◌≤◌, Bool, true, false, not, ◌&&◌, ◌⊎◌, inl, inr, List, [], ◌∷◌, ◌++◌, Option, Some, None, arith, subst}
use Rattle.std.specs.Prelude.{codes, option_and_then, ◌==◌}
use Rattle.std.proofs.lemmas.Bool.{and_parts, and_from, not-true, not_from_false, ne_eqb, eqb-true, eq-eqb, eqb-false, ltb-true, cases_lt, false_from_ne_true}
use Rattle.std.proofs.lemmas.Bool.Decides.{same_from_decides}
use Rattle.std.proofs.lemmas.Slice.Eq.{bytes_eq-Decides}
use Rattle.std.specs.List.{list_all}
use Rattle.std.proofs.lemmas.List.Folds.{list_all-append}
use Rattle.std.specs.Char.{is_digit, digit_value}
use Rattle.std.specs.Str.{bytes_eq}
use lib.Utf8.{encode, next}
use Rattle.pv_chars.specs.References.{IsPredefined}
use Rattle.pv_chars.specs.Texts.{joined}
use Rattle.pv_chars.specs.Units.{IsUnit, AllUnits}
use Rattle.pv_chars.proofs.Utf8Lemmas.{one_byte, two_bytes, three_bytes, four_bytes}
use Rattle.pv_edit.specs.CloseMarks.{behind, after_unit, after_byte, search_units, search_bytes}
use Rattle.pv_edit.specs.declared.close_marks.Brackets.{Brackets}
use Rattle.pv_edit.specs.declared.close_marks.Brackets.TheVariants.{Zero}

-- neither `]` nor `>`
abbrev is_quiet : ℕ → Bool
is_quiet b = not (b == 93) && not (b == 62)

is-quiet : (b : ℕ) → (b ≡ 93 → ⊥) → (b ≡ 62 → ⊥) → is_quiet b ≡ true
is-quiet b h k = and_from (not (b == 93)) (not (b == 62)) (not_from_false (b == 93) (ne_eqb b 93 h)) (not_from_false (b == 62) (ne_eqb b 62 k))

high-quiet : (b : ℕ) → 94 ≤ b → is_quiet b ≡ true
high-quiet b h = is-quiet b (λ e. omega arith) (λ e. omega arith)

after-quiet : (s : Brackets) (b : ℕ) → is_quiet b ≡ true → after_byte s b ≡ Some Zero
after-quiet s b h = let p = and_parts (not (b == 93)) (not (b == 62)) h in rw (not-true (b == 93) p.0, not-true (b == 62) p.1) refl

quiet-bytes : (s : Brackets) (b : ℕ) (bs : List ℕ) → list_all is_quiet (b ∷ bs) ≡ true → search_bytes s (b ∷ bs) ≡ Some Zero
quiet-bytes s b [] h = let p = and_parts (is_quiet b) true h in rw (after-quiet s b p.0) refl
quiet-bytes s b (c ∷ bs) h = let p = and_parts (is_quiet b) (list_all is_quiet (c ∷ bs)) h in ap (option_and_then (λ t. search_bytes t (c ∷ bs))) (after-quiet s b p.0) ∙ quiet-bytes Zero c bs p.1

other-unit : (b : ℕ) (bs : List ℕ) (c : ℕ) → (b ≡ c → ⊥) → bytes_eq (b ∷ bs) (c ∷ []) ≡ false
other-unit b bs c h = false_from_ne_true (bytes_eq (b ∷ bs) (c ∷ [])) (λ t. let e = (bytes_eq-Decides (b ∷ bs) (c ∷ [])).0 t in h cc)

quiet-unit : (s : Brackets) (b : ℕ) (bs : List ℕ) → list_all is_quiet (b ∷ bs) ≡ true → after_unit s (b ∷ bs) ≡ Some Zero
quiet-unit s b bs h =
    let p = and_parts (not (b == 93)) (not (b == 62)) (and_parts (is_quiet b) (list_all is_quiet bs) h).0 in
    let n : bytes_eq (b ∷ bs) (codes "]") ≡ false = other-unit b bs 93 (eqb-false b 93 (not-true (b == 93) p.0)) in
    let m : bytes_eq (b ∷ bs) (codes ">") ≡ false = other-unit b bs 62 (eqb-false b 62 (not-true (b == 62) p.1)) in
    ap (λ (x : Bool). behind s x (bytes_eq (b ∷ bs) (codes ">"))) n ∙ ap (λ (y : Bool). behind s false y) m

quiet-searched : (s : Brackets) (u : List ℕ) (b : ℕ) (bs : List ℕ) → u ≡ b ∷ bs → list_all is_quiet (b ∷ bs) ≡ true → after_unit s u ≡ search_bytes s u
quiet-searched s u b bs e h = rw e (quiet-unit s b bs h ∙ sym (quiet-bytes s b bs h))

one-eq : (c d : ℕ) → bytes_eq (c ∷ []) (d ∷ []) ≡ (c == d)
one-eq c d = same_from_decides {P = c ∷ [] ≡ d ∷ []} (bytes_eq (c ∷ []) (d ∷ [])) (c == d) (bytes_eq-Decides (c ∷ []) (d ∷ [])) (λ t. ap (λ (x : ℕ). x ∷ []) (eqb-true c d t), λ e. eq-eqb c d cc)

then-same : (o : Option Brackets) → option_and_then (λ c. Some c) o ≡ o
then-same None = refl
then-same (Some c) = refl

one-searched : (s : Brackets) (c : ℕ) → after_unit s (c ∷ []) ≡ search_bytes s (c ∷ [])
one-searched s c = ap (λ (x : Bool). behind s x (bytes_eq (c ∷ []) (codes ">"))) (one-eq c 93) ∙ ap (λ (y : Bool). behind s (c == 93) y) (one-eq c 62) ∙ sym (then-same (after_byte s c))

literal-searched : (s : Brackets) (c : ℕ) → (c < 128) ⊎ (128 ≤ c) → (c < 2048) ⊎ (2048 ≤ c) → (c < 65536) ⊎ (65536 ≤ c) → after_unit s (encode c) ≡ search_bytes s (encode c)
literal-searched s c (inl h) _ _ = rw (one_byte c h) (one-searched s c)
literal-searched s c (inr l) (inl h) _ =
    quiet-searched s (encode c) _ _ (two_bytes c l h) (and_from _ _ (high-quiet (192 + c / 64) (omega arith)) (and_from _ true (high-quiet (next c) (omega arith)) refl))
literal-searched s c (inr _) (inr l) (inl h) =
    quiet-searched s (encode c) _ _ (three_bytes c l h) (and_from _ _ (high-quiet (224 + c / 4096)
    (omega arith)) (and_from _ _ (high-quiet (next (c / 64)) (omega arith)) (and_from _ true
    (high-quiet (next c) (omega arith)) refl)))
literal-searched s c (inr _) (inr _) (inr l) =
    quiet-searched s (encode c) _ _ (four_bytes c l)
    (and_from _ _ (high-quiet (240 + c / 262144) (omega arith))
    (and_from _ _ (high-quiet (next (c / 4096)) (omega arith))
    (and_from _ _ (high-quiet (next (c / 64)) (omega arith)) (and_from _ true
    (high-quiet (next c) (omega arith)) refl))))

all-both : (p : ℕ → Bool) (xs ys : List ℕ) → list_all p xs ≡ true → list_all p ys ≡ true → list_all p (xs ++ ys) ≡ true
all-both p xs ys h k = list_all-append p xs ys ∙ and_from (list_all p xs) (list_all p ys) h k

digits-quiet : (base : ℕ) (digits : List ℕ) → base ≤ 16 → list_all (λ d. is_digit d base) digits ≡ true → list_all is_quiet digits ≡ true
digits-quiet base [] known all = refl
digits-quiet base (d ∷ ds) known all =
    let p = and_parts (is_digit d base) (list_all (λ k. is_digit k base) ds) all in
    let apart = λ (n : ℕ) (high : 16 ≤ digit_value n) (same : d ≡ n). let low : digit_value n
    < base = ltb-true (digit_value n) base
    (let P : ℕ → Type 0 = λ k. is_digit k base ≡ true in subst P same p.0) in let no : ⊥ =
    omega arith in no in
    and_from (is_quiet d) (list_all is_quiet ds) (is-quiet d (apart 93 (omega arith)) (apart 62 (omega arith))) (digits-quiet base ds known p.1)

name-quiet : (name : List ℕ) → IsPredefined name → list_all is_quiet name ≡ true
name-quiet name (inl e) = rw e refl
name-quiet name (inr (inl e)) = rw e refl
name-quiet name (inr (inr (inl e))) = rw e refl
name-quiet name (inr (inr (inr (inl e)))) = rw e refl
name-quiet name (inr (inr (inr (inr e)))) = rw e refl

unit-searched : (s : Brackets) (u : List ℕ) → IsUnit u → after_unit s u ≡ search_bytes s u
unit-searched s u (inl is) = rw is.whole (literal-searched s is.code (cases_lt is.code 128) (cases_lt is.code 2048) (cases_lt is.code 65536))
unit-searched s u (inr (inl (inl is))) = quiet-searched s u 38 (35 ∷ (is.digits ++ codes ";"))
    is.whole (all-both is_quiet is.digits (codes ";") (digits-quiet 10 is.digits (omega arith)
    is.are_digits) refl)
unit-searched s u (inr (inl (inr is))) = quiet-searched s u 38 (35 ∷ 120 ∷ (is.digits ++ codes ";"))
    is.whole (all-both is_quiet is.digits (codes ";") (digits-quiet 16 is.digits (omega arith)
    is.are_digits) refl)
unit-searched s u (inr (inr is)) = quiet-searched s u 38 (is.name ++ codes ";") is.is_reference.whole (all-both is_quiet is.name (codes ";") (name-quiet is.name is.is_predefined) refl)

bytes-on : (s : Brackets) (xs ys : List ℕ) → search_bytes s (xs ++ ys) ≡ option_and_then (λ c. search_bytes c ys) (search_bytes s xs)
bytes-on s [] ys = refl
bytes-on s (x ∷ xs) ys =
    elim (after_byte s x) as (λ o. option_and_then (λ c. search_bytes c (xs ++ ys)) o ≡ option_and_then (λ c. search_bytes c ys) (option_and_then (λ c. search_bytes c xs) o))
    [ None ↦ refl | Some c ↦ bytes-on c xs ys ]

-- by the bytes of a text
pub units-searched : (s : Brackets) (us : List (List ℕ)) → AllUnits us → search_units s us ≡ search_bytes s (joined us)
units-searched s [] all = refl
units-searched s (u ∷ us) all =
    (elim (after_unit s u) as (λ o. option_and_then (λ c. search_units c us) o ≡ option_and_then (λ c. search_bytes c (joined us)) o) [ None ↦ refl | Some c ↦ units-searched c us all.1 ])
    ∙ ap (option_and_then (λ c. search_bytes c (joined us))) (unit-searched s u all.0) ∙ sym (bytes-on s u (joined us))
