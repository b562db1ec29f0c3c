-- Where units begin: after a run without `&` as many as bytes of it continue no character, and after a reference one.
use Rattle.std.proofs.Common.{◌≡◌, ◌≢◌, ℕ, zero, suc, ◌+◌, ◌-◌, ◌<◌, ◌≤◌, ◌⊎◌, inl, inr, List, [], ◌∷◌, ◌++◌, Bool, true, false, ◌==◌, not, length}
use Rattle.std.proofs.Common.{take, drop, refl, sym, ap, ◌∙◌, arith, add-one, append_assoc, length-append}
use Rattle.std.proofs.lemmas.Bool.{and_parts, and_from, not-true, ne_eqb}
use Rattle.std.proofs.lemmas.List.{append-nil, take-append-drop, drop-drop, length-take, length-drop}
use Rattle.std.proofs.Math.Seq.{drop-append_seam, drop-nil, drop-length}
use Rattle.std.specs.List.{list_all}
use Rattle.pv_chars.specs.Utf8.{continues}
use Rattle.pv_chars.specs.Fronts.{ContainsBytes, EndsAt}
use Rattle.pv_chars.specs.Texts.{joined}
use Rattle.pv_chars.specs.Units.{cut_units, units_in, AllUnits, IsCut, BeginsAmpersand}
use Rattle.pv_chars.specs.UnitPlaces.{openings, has_no_ampersand, EndsBeforeAmpersand}
use Rattle.pv_chars.proofs.CutLemmas.{begins_anew, stays_open}
use Rattle.pv_chars.proofs.MeansLemmas.{unit_some, units_bytes, cut_is, count_is}

-- ---- nothing is lost where bytes are cut
pub cut_whole : (in_reference : Bool) (bytes : List ℕ) → bytes ≡ (cut_units in_reference bytes).0 ++ joined (cut_units in_reference bytes).1
cut_whole false [] = refl
cut_whole true [] = refl
cut_whole true (b ∷ bs) = ap (λ l. b ∷ l) (cut_whole (not (b == 59)) bs)
cut_whole false (b ∷ bs) = by (continues b) refl (cut_whole false bs) (cut_whole (b == 38) bs)
  where
    by : (t : Bool) → continues b ≡ t → bs ≡ (cut_units false bs).0
        ++ joined (cut_units false bs).1 → bs ≡ (cut_units (b == 38) bs).0
        ++ joined (cut_units (b == 38) bs).1 → b ∷ bs ≡ (cut_units false (b ∷ bs)).0
        ++ joined (cut_units false (b ∷ bs)).1
    by true e stays begins = ap (λ l. b ∷ l) stays ∙ sym (ap (λ (r : List ℕ × List (List ℕ)). r.0 ++ joined r.1) (stays_open b bs e))
    by false e stays begins = ap (λ l. b ∷ l) begins ∙ sym (ap (λ (r : List ℕ × List (List ℕ)). r.0 ++ joined r.1) (begins_anew b bs e))

-- ---- the bytes that continue a character
pub continued : (bytes : List ℕ) (b : ℕ) (bs : List ℕ) → bytes ≡ b ∷ bs → continues b ≡ true → units_in bs ≡ units_in bytes
unfolding units_in
continued bytes b bs e is = sym (ap (λ l. (cut_units false l).1) e ∙ ap (λ (r : List ℕ × List (List ℕ)). r.1) (stays_open b bs is))

pub begun_whole : (bytes : List ℕ) (b : ℕ) (bs : List ℕ) → bytes ≡ b ∷ bs → continues b ≡ false → bytes ≡ joined (units_in bytes)
unfolding units_in
begun_whole bytes b bs e is = cut_whole false bytes
    ∙ ap (λ l. l ++ joined (cut_units false bytes).1) (ap (λ l. (cut_units false l).0) e
    ∙ ap (λ (r : List ℕ × List (List ℕ)). r.0) (begins_anew b bs is))

pub none_whole : (bytes : List ℕ) → length bytes < 1 → bytes ≡ joined (units_in bytes)
unfolding units_in
none_whole [] none = refl
none_whole (b ∷ bs) none = absurd (omega arith)

-- ---- a run without `&`
pub characters_passed : (run rest : List ℕ) → has_no_ampersand run ≡ true → drop (openings run) (units_in (run ++ rest)) ≡ units_in rest
unfolding units_in
characters_passed [] rest none = refl
characters_passed (b ∷ bs) rest none =
    let parts = and_parts (not (b == 38)) (has_no_ampersand bs) none in
    by (continues b) refl (not-true (b == 38) parts.0) (characters_passed bs rest parts.1)
  where
    by : (t : Bool) → continues b ≡ t → (b == 38) ≡ false →
        drop (openings bs) (cut_units false (bs ++ rest)).1 ≡ (cut_units false rest).1 →
        drop (openings (b ∷ bs)) (cut_units false (b ∷ (bs ++ rest))).1 ≡ (cut_units false rest).1
    by true e other below = rw e below
    by false e other below = rw (e, other, add-one (openings bs)) below

-- ---- a byte that stands nowhere
abbrev pub lacks_byte : ℕ → List ℕ → Bool
lacks_byte byte bytes = list_all (λ b. not (b == byte)) bytes

pub nowhere_lacks : (byte : ℕ) (bytes : List ℕ) → (ContainsBytes bytes (byte ∷ []) → ⊥) → lacks_byte byte bytes ≡ true
nowhere_lacks byte [] none = refl
nowhere_lacks byte (b ∷ bs) none =
    and_from (not (b == byte)) (lacks_byte byte bs) (rw (ne_eqb b byte (λ same. none record { before = []; after = bs; whole = ap (λ c. c ∷ bs) same })) refl)
    (nowhere_lacks byte bs (λ holds. none record { before = b ∷ holds.before; after = holds.after; whole = ap (λ l. b ∷ l) holds.whole }))

pub before_lacks : (byte : ℕ) (bytes before after : List ℕ) → EndsAt (byte ∷ []) bytes before after → lacks_byte byte before ≡ true
before_lacks byte bytes before after ends = nowhere_lacks byte before (λ holds.
    let behind = holds.after ++ (byte ∷ after) in
    let whole : bytes ≡ holds.before ++ ((byte ∷ []) ++ behind) = ends.whole ∙ ap (λ l. l ++ (byte ∷ after)) holds.whole ∙ append_assoc holds.before (byte ∷ holds.after) (byte ∷ after) in
    omega (arith, ends.first holds.before behind whole, ap length holds.whole, length-append holds.before (byte ∷ holds.after)))

pub front_found : (bytes before after : List ℕ) → EndsAt (38 ∷ []) bytes before after → EndsBeforeAmpersand bytes before
front_found bytes before after ends = record { rest = 38 ∷ after; whole = ends.whole; has_no_ampersand = before_lacks 38 bytes before after ends; ends = inr (after, refl) }

pub front_all : (bytes : List ℕ) → (ContainsBytes bytes (38 ∷ []) → ⊥) → EndsBeforeAmpersand bytes bytes
front_all bytes none = record { rest = []; whole = sym (append-nil bytes); has_no_ampersand = nowhere_lacks 38 bytes none; ends = inl refl }

-- ---- a reference
-- the units after the reference that bytes are in
abbrev pub behind_open : List ℕ → List (List ℕ)
behind_open bytes = (cut_units true bytes).1

pub reference_begun : (bytes : List ℕ) → BeginsAmpersand bytes → drop 1 (units_in bytes) ≡ behind_open bytes
unfolding units_in
reference_begun bytes begins = rw begins.1 refl

pub semicolon_ends : (bytes : List ℕ) (b : ℕ) (bs : List ℕ) → bytes ≡ b ∷ bs → b ≡ 59 → behind_open bytes ≡ units_in bs
unfolding units_in
semicolon_ends bytes b bs e same = rw (e, same) refl

pub stays_in : (bytes : List ℕ) (b : ℕ) (bs : List ℕ) → bytes ≡ b ∷ bs → b ≢ 59 → behind_open bytes ≡ behind_open bs
stays_in bytes b bs e other = let apart : (b == 59) ≡ false = ne_eqb b 59 other in rw (e, apart) refl

pub never_ends : (bytes : List ℕ) → length bytes < 1 → behind_open bytes ≡ units_in bytes
unfolding units_in
never_ends [] none = refl
never_ends (b ∷ bs) none = absurd (omega arith)

pub others_fit : (bytes all : List ℕ) → length bytes ≤ length all → length (take (length bytes - 1) (drop 1 bytes)) ≤ length all
others_fit bytes all less = omega (arith, less, length-take (length bytes - 1) (drop 1 bytes), length-drop 1 bytes)

-- ---- a run of some bytes
pub run_passed : (bytes run front rest : List ℕ) (most : ℕ) → run ≡ take most bytes →
    EndsBeforeAmpersand run front → rest ≡ drop (length front) bytes →
    drop (openings front) (units_in bytes) ≡ units_in rest
run_passed bytes run front rest most taken is e =
    let behind = is.rest ++ drop most bytes in
    let whole : bytes ≡ front ++ behind = sym (take-append-drop most bytes) ∙ ap (λ l. l ++ drop most bytes) (sym taken ∙ is.whole) ∙ append_assoc front is.rest (drop most bytes) in
    let rest_is : rest ≡ behind = e ∙ ap (drop (length front)) whole ∙ drop-append_seam front behind in
    ap (λ l. drop (openings front) (units_in l)) whole ∙ characters_passed front behind is.has_no_ampersand ∙ ap units_in (sym rest_is)

pub run_ends : (bytes run front rest : List ℕ) (most : ℕ) → run ≡ take most bytes → EndsBeforeAmpersand run front → length front ≢ length run → rest ≡ drop (length front) bytes → BeginsAmpersand rest
run_ends bytes run front rest most taken is other e = by is.ends
  where
    whole : bytes ≡ front ++ (is.rest ++ drop most bytes)
    whole = sym (take-append-drop most bytes) ∙ ap (λ l. l ++ drop most bytes) (sym taken ∙ is.whole) ∙ append_assoc front is.rest (drop most bytes)

    rest_is : rest ≡ is.rest ++ drop most bytes
    rest_is = e ∙ ap (drop (length front)) whole ∙ drop-append_seam front (is.rest ++ drop most bytes)

    by : (is.rest ≡ []) ⊎ BeginsAmpersand is.rest → BeginsAmpersand rest
    by (inl none) = absurd (other (sym (ap length (is.whole ∙ ap (λ l. front ++ l) none ∙ append-nil front))))
    by (inr b) = (b.0 ++ drop most bytes, rest_is ∙ ap (λ l. l ++ drop most bytes) b.1)

pub reference_also : (bytes rest more : List ℕ) (n : ℕ) → drop n (units_in bytes) ≡ units_in rest → drop 1 (units_in rest) ≡ units_in more → drop (n + 1) (units_in bytes) ≡ units_in more
reference_also bytes rest more n passed one = sym (drop-drop 1 n (units_in bytes)) ∙ ap (drop 1) passed ∙ one

-- ---- units of one byte each
single_bytes_at : (u : List ℕ) (us : List (List ℕ)) (n : ℕ) → length u ≡ 1 → drop n (joined us) ≡ joined (drop n us) → drop (suc n) (u ++ joined us) ≡ joined (drop n us)
single_bytes_at [] us n e below = absurd (omega arith)
single_bytes_at (b ∷ []) us n e below = below
single_bytes_at (b ∷ c ∷ bs) us n e below = absurd (omega arith)

pub single_bytes : (us : List (List ℕ)) (n : ℕ) → AllUnits us → length us ≡ length (joined us) → drop n (joined us) ≡ joined (drop n us)
single_bytes us zero all e = refl
single_bytes [] (suc n) all e = refl
single_bytes (u ∷ us) (suc n) all e =
    let long = length-append u (joined us) in
    let some = unit_some u all.0 in
    let fewer = units_bytes us all.1 in
    single_bytes_at u us n (omega arith) (single_bytes us n all.1 (omega arith))

pub each_byte : (bytes : List ℕ) (all n : ℕ) → IsCut bytes all → all ≡ length bytes → drop n bytes ≡ joined (drop n (units_in bytes))
each_byte bytes all n is e =
    let whole = is.whole in
    let singles : length is.units ≡ length (joined is.units) = sym is.count_is ∙ e ∙ ap length whole in
    ap (drop n) whole ∙ single_bytes is.units n is.are_units singles ∙ ap (λ us. joined (drop n us)) (sym (cut_is bytes all is))

pub none_behind : (bytes : List ℕ) (all n : ℕ) → IsCut bytes all → n ≡ all → [] ≡ joined (drop n (units_in bytes))
none_behind bytes all n is e = sym (ap joined (ap (λ k. drop k (units_in bytes)) (e ∙ count_is bytes all is) ∙ drop-length (units_in bytes)))

-- ---- the end of the walk
nothing_left : (n : ℕ) → units_in [] ≡ drop n (units_in [])
unfolding units_in
nothing_left n = sym (drop-nil n)

pub walked : (bytes rest : List ℕ) (left n : ℕ) → drop left (units_in rest) ≡ drop n (units_in bytes) → (left ≤ 0) ⊎ (rest ≡ []) → joined (units_in rest) ≡ joined (drop n (units_in bytes))
walked bytes rest left n passed (inl none) = let zero_left : left ≡ 0 = omega arith in ap joined (ap (λ k. drop k (units_in rest)) (sym zero_left) ∙ passed)
walked bytes rest left n passed (inr e) = ap joined (ap units_in e ∙ nothing_left left ∙ ap (λ l. drop left (units_in l)) (sym e) ∙ passed)
