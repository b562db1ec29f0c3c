-- A text cut from the left, and that its parts are texts.
use Rattle.std.proofs.Common.{◌≡◌, ◌≢◌, inl, inr, ℕ, zero, suc, ◌+◌, ◌-◌, ◌<◌, ◌≤◌, Bool, true, false, not, ◌==◌, List, [], ◌∷◌, ◌++◌, length, take}
use Rattle.std.proofs.Common.{drop, Result, Ok, Err, refl, sym, ◌∙◌, ap, subst, arith, append_assoc, append-nil, length-append}
use Rattle.std.specs.Prelude.{codes}
use Rattle.std.proofs.lemmas.Bool.{true≢false, false_from_ne_true}
use Rattle.std.proofs.lemmas.List.{take-append-drop, take_at, length-take-le}
use Rattle.pv_chars.specs.Texts.{joined, begins_close_mark, holds_close_mark}
use Rattle.pv_chars.specs.Units.{AllUnits, BeginsUnit, TextMeans, TextRestMeans, ends, unit, fault, cut_units, units_in}
use Rattle.pv_chars.specs.Utf8.{continues}
use Rattle.pv_chars.specs.declared.errors.TextError.{TextError}
use Rattle.pv_chars.proofs.CloseMarks.{held_by_units, held_by_bytes, begins_bytes, units_some}
use Rattle.pv_chars.proofs.CutLemmas.{units_in-joined}
use Rattle.pv_chars.proofs.MeansLemmas.{joined-append, text_means_only}
use Rattle.pv_standoff.specs.Laws.{TextsHaveNoCloseMark}
use Rattle.pv_standoff.specs.Texts.{SpellsUnits}

-- ---- where units begin
abbrev is_cut_so : Bool → List ℕ → Type 0
is_cut_so s bytes = (cut_units s bytes).0 ++ joined (cut_units s bytes).1 ≡ bytes

joined-cut_units : (s : Bool) (bytes : List ℕ) → is_cut_so s bytes
joined-cut_units s [] = refl
joined-cut_units true (b ∷ bs) = ap (λ l. b ∷ l) (joined-cut_units (not (b == 59)) bs)
joined-cut_units false (b ∷ bs) = by (continues b) refl (joined-cut_units false bs) (joined-cut_units (b == 38) bs)
  where
    by : (c : Bool) → continues b ≡ c → is_cut_so false bs → is_cut_so (b == 38) bs → is_cut_so false (b ∷ bs)
    by true e on anew = rw e (ap (λ l. b ∷ l) on)
    by false e on anew = rw e (ap (λ l. b ∷ l) anew)

-- after so many units the reader stands, in a reference or not
abbrev pub IsBehind : List ℕ → Bool → List ℕ → ℕ → Type 0
IsBehind bytes s rest n = (cut_units s rest).1 ≡ drop n (units_in bytes)

pub behind-start : (bytes : List ℕ) → IsBehind bytes false bytes 0
unfolding units_in
behind-start bytes = refl

pub behind-reference : (bytes bs : List ℕ) (b n : ℕ) → IsBehind bytes true (b ∷ bs) n → IsBehind bytes (not (b == 59)) bs n
behind-reference bytes bs b n h = h

pub behind-continued : (bytes bs : List ℕ) (b n : ℕ) → continues b ≡ true → IsBehind bytes false (b ∷ bs) n → IsBehind bytes false bs n
behind-continued bytes bs b n c h = rw c at h

drop-next : {X : Type 0} (us vs : List X) (v : X) (n : ℕ) → v ∷ vs ≡ drop n us → vs ≡ drop (n + 1) us
drop-next [] vs v zero e = absurd cc
drop-next [] vs v (suc n) e = absurd cc
drop-next (u ∷ us) vs v zero e = let t : vs ≡ us = cc in t
drop-next (u ∷ us) vs v (suc n) e = let below = drop-next us vs v n e in let k : suc (n + 1) ≡ suc n + 1 = omega arith in below ∙ ap (λ m. drop m (u ∷ us)) k

pub behind-begun : (bytes bs : List ℕ) (b n : ℕ) → continues b ≡ false → IsBehind bytes false (b ∷ bs) n → IsBehind bytes (b == 38) bs (n + 1)
behind-begun bytes bs b n c h = let h' = rw c at h in drop-next (units_in bytes) (cut_units (b == 38) bs).1 (b ∷ (cut_units (b == 38) bs).0) n h'

-- a unit begins here
pub behind-here : (bytes bs : List ℕ) (b n : ℕ) → continues b ≡ false → IsBehind bytes false (b ∷ bs) n → b ∷ bs ≡ joined (drop n (units_in bytes))
behind-here bytes bs b n c h =
    let w = joined-cut_units false (b ∷ bs) in
    let front = rw c at w in
    let h' = rw c at h in
    sym front ∙ ap joined h'

drop-none : {X : Type 0} (us : List X) (n m : ℕ) → n ≤ m → [] ≡ drop n us → [] ≡ drop m us
drop-none [] zero zero l e = refl
drop-none [] zero (suc m) l e = refl
drop-none [] (suc n) zero l e = refl
drop-none [] (suc n) (suc m) l e = refl
drop-none (u ∷ us) zero m l e = absurd cc
drop-none (u ∷ us) (suc n) zero l e = absurd (omega arith)
drop-none (u ∷ us) (suc n) (suc m) l e = drop-none us n m (omega arith) e

pub behind-end : (bytes : List ℕ) (s : Bool) (n m : ℕ) → n ≤ m → IsBehind bytes s [] n → [] ≡ joined (drop m (units_in bytes))
behind-end bytes s n m l h = ap joined (drop-none (units_in bytes) n m l h)

-- ---- parts of a text
all-left-units : (a b : List (List ℕ)) → AllUnits (a ++ b) → AllUnits a
all-left-units [] b h = tt
all-left-units (x ∷ a) b h = (h.0, all-left-units a b h.1)

all-right-units : (a b : List (List ℕ)) → AllUnits (a ++ b) → AllUnits b
all-right-units [] b h = h
all-right-units (x ∷ a) b h = all-right-units a b h.1

-- `]]>` stands in no part of units where it doesn't stand
none-left : (a b : List (List ℕ)) → AllUnits (a ++ b) → holds_close_mark (a ++ b) ≡ false → holds_close_mark a ≡ false
none-left a b all none = false_from_ne_true (holds_close_mark a) (λ h.
    let c = held_by_bytes a h in
    let held = held_by_units (a ++ b) all (record {
      before = c.before;
      after = c.after ++ joined b;
      whole = joined-append a b ∙ ap (λ l. l ++ joined b) c.whole ∙ append_assoc c.before (codes "]]>" ++ c.after) (joined b);
    }) in
    true≢false (sym held ∙ none))

none-right : (a b : List (List ℕ)) → AllUnits (a ++ b) → holds_close_mark (a ++ b) ≡ false → holds_close_mark b ≡ false
none-right a b all none = false_from_ne_true (holds_close_mark b) (λ h.
    let c = held_by_bytes b h in
    let held = held_by_units (a ++ b) all (record {
      before = joined a ++ c.before;
      after = c.after;
      whole = joined-append a b ∙ ap (λ l. joined a ++ l) c.whole ∙ sym (append_assoc (joined a) c.before (codes "]]>" ++ c.after));
    }) in
    true≢false (sym held ∙ none))

pub spells-left : (a b : List (List ℕ)) (bytes : List ℕ) → SpellsUnits bytes (a ++ b) → SpellsUnits (joined a) a
spells-left a b bytes s = record { are_units = all-left-units a b s.are_units; whole = refl; none = none-left a b s.are_units s.none }

pub spells-right : (a b : List (List ℕ)) (bytes : List ℕ) → SpellsUnits bytes (a ++ b) → SpellsUnits (joined b) b
spells-right a b bytes s = record { are_units = all-right-units a b s.are_units; whole = refl; none = none-right a b s.are_units s.none }

pub spells-take : (n : ℕ) (us : List (List ℕ)) (bytes : List ℕ) → SpellsUnits bytes us → SpellsUnits (joined (take n us)) (take n us)
spells-take n us bytes s = spells-left (take n us) (drop n us) bytes (subst (SpellsUnits bytes) (sym (take-append-drop n us)) s)

pub spells-drop : (n : ℕ) (us : List (List ℕ)) (bytes : List ℕ) → SpellsUnits bytes us → SpellsUnits (joined (drop n us)) (drop n us)
spells-drop n us bytes s = spells-right (take n us) (drop n us) bytes (subst (SpellsUnits bytes) (sym (take-append-drop n us)) s)

pub spelled-units : (bytes : List ℕ) (us : List (List ℕ)) → SpellsUnits bytes us → units_in bytes ≡ us
spelled-units bytes us s = ap units_in s.whole ∙ units_in-joined us s.are_units

-- ---- the front of a text
pub cut_whole : (rest more : List ℕ) (us : List (List ℕ)) (n : ℕ) → SpellsUnits rest us → more ≡ joined (drop n us) → rest ≡ joined (take n us) ++ more
cut_whole rest more us n s e =
    s.whole ∙ ap joined (sym (take-append-drop n us)) ∙ joined-append (take n us) (drop n us) ∙ ap (λ l. joined (take n us) ++ l) (sym e)

front_taken : (a b : List ℕ) → take (length (a ++ b) - length b) (a ++ b) ≡ a
front_taken a b = let l = length-append a b in take_at a b (length (a ++ b) - length b) (omega (arith, l))

pub front_is : (rest more : List ℕ) (us : List (List ℕ)) (n : ℕ) → SpellsUnits rest us → more ≡ joined (drop n us) → take (length rest - length more) rest ≡ joined (take n us)
front_is rest more us n s e = let w = cut_whole rest more us n s e in ap (λ l. take (length l - length more) l) w ∙ front_taken (joined (take n us)) more

pub some_front : (rest more : List ℕ) (us : List (List ℕ)) (n : ℕ) → 0 < n → n ≤ length us → SpellsUnits rest us → joined (take n us) ≡ [] → ⊥
some_front rest more us n some within s e =
    units_some (take n us) (spells-take n us rest s).are_units (λ none. let l = length-take-le n us within in let k = ap length none in omega (arith, l, k, some)) e

pub spells_front : (rest part : List ℕ) (us : List (List ℕ)) (n : ℕ) → SpellsUnits rest us → part ≡ joined (take n us) → SpellsUnits part (units_in part)
spells_front rest part us n s e =
    let t = spells-take n us rest s in
    subst (λ l. SpellsUnits l (units_in l)) (sym e) (subst (SpellsUnits (joined (take n us))) (sym (spelled-units (joined (take n us)) (take n us) t)) t)

-- ---- what a text means
rest_means : (before us : List (List ℕ)) → AllUnits us → holds_close_mark us ≡ false → TextRestMeans before (joined us) (Ok (before ++ us))
rest_means before [] all none = subst (λ l. TextRestMeans before [] (Ok l)) (sym (append-nil before)) (ends refl)
rest_means before (u ∷ us) all none =
    let begins : BeginsUnit (u ++ joined us) u (joined us) = record {
      is_unit = all.0;
      whole = refl;
      no_close_mark = λ c. true≢false (sym (held_by_units (u ∷ us) all (record { before = []; after = c.0; whole = c.1 })) ∙ none);
    } in
    let below = rest_means (before ++ u ∷ []) us all.1 (none-right (u ∷ []) us all none) in
    unit u (joined us) begins (subst (λ l. TextRestMeans (before ++ u ∷ []) (joined us) (Ok l)) (append_assoc before (u ∷ []) us) below)

pub text_means : (bytes : List ℕ) (us : List (List ℕ)) → bytes ≢ [] → SpellsUnits bytes us → TextMeans bytes (Ok us)
text_means bytes us some s = inr (some, subst (λ l. TextRestMeans [] l (Ok us)) (sym s.whole) (rest_means [] us s.are_units s.none))

pub text_only : (bytes : List ℕ) (us vs : List (List ℕ)) → bytes ≢ [] → SpellsUnits bytes us → TextMeans bytes (Ok vs) → vs ≡ us
text_only bytes us vs some s m = let e = text_means_only bytes (Ok vs) (Ok us) m (text_means bytes us some s) in cc

-- the units that are meant, after these
abbrev Unmarked : List (List ℕ) → List ℕ → Result (List (List ℕ)) TextError → Type 0
Unmarked before rest (Ok us) = (vs : List (List ℕ)) × (us ≡ before ++ vs) × (rest ≡ joined vs) × (holds_close_mark vs ≡ false)
Unmarked before rest (Err e) = Unit {0}

more_unmarked : (before : List (List ℕ)) (u rest more : List ℕ) (o : Result (List (List ℕ)) TextError) → BeginsUnit rest u more → Unmarked (before ++ u ∷ []) more o → Unmarked before rest o
more_unmarked before u rest more (Ok us) b (vs, e, w, none) =
    let whole : rest ≡ joined (u ∷ vs) = b.whole ∙ ap (λ l. u ++ l) w in
    let front : begins_close_mark (u ∷ vs) ≡ false = false_from_ne_true (begins_close_mark (u ∷ vs)) (λ h. let c = begins_bytes (u ∷ vs) h in b.no_close_mark (c.0, whole ∙ c.1)) in
    (u ∷ vs, e ∙ append_assoc before (u ∷ []) vs, whole, rw front none)
more_unmarked before u rest more (Err e) b h = tt

unmarked : {before : List (List ℕ)} {rest : List ℕ} {o : Result (List (List ℕ)) TextError} → TextRestMeans before rest o → Unmarked before rest o
unmarked {before = before} (ends e) = ([], sym (append-nil before), e, refl)
unmarked {before = before} {rest = rest} {o = o} (unit u more b t) = more_unmarked before u rest more o b (unmarked t)
unmarked (fault e f) = tt

pub texts_have_no_close_mark : TextsHaveNoCloseMark
texts_have_no_close_mark bytes units (inl m) = absurd (let e = m.1 in cc)
texts_have_no_close_mark bytes units (inr m) = let u = unmarked m.1 in ap holds_close_mark u.1 ∙ u.3
