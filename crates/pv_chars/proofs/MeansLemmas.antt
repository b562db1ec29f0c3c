-- What a text means: one thing only, and what a loop over units has found.
use Rattle.std.proofs.Common.{◌≡◌, ◌≢◌, ℕ, zero, suc, ◌+◌, ◌<◌, ◌≤◌, ◌-◌, ◌⊎◌, inl, inr, List, [], ◌∷◌, ◌++◌, Bool, true, false, ◌&&◌, ◌==◌, not}
use Rattle.std.proofs.Common.{length, take, drop, Result, Ok, Err, refl, sym, ap, subst, ◌∙◌, arith, append_assoc, length-append}
use Rattle.std.proofs.lemmas.List.{append-nil, nil_from_length, take-append-drop, length-take, length-drop}
use Rattle.std.proofs.lemmas.Bool.{and_parts, ltb-true, eqb-true, eqb-false, not-true}
use Rattle.std.proofs.lemmas.Str.{encode_ascii}
use Rattle.std.specs.Prelude.{codes, nat_lt}
use Rattle.std.specs.List.{list_all}
use lib.Utf8.{encode, next}
use Rattle.std.proofs.Common.{◌||◌, ◌/◌}
use Rattle.std.specs.List.{list_any}
use Rattle.std.proofs.lemmas.Bool.{cases_lt}
use Rattle.std.proofs.Math.Bool.{or-false}
use Rattle.std.proofs.lemmas.Bool.Decides.{nat_tests}
use Rattle.std.proofs.lemmas.List.Folds.{list_any-append}
use Rattle.pv_chars.specs.Spaces.{is_space}
use Rattle.pv_chars.specs.Texts.{is_data, has_data}
use Rattle.pv_chars.specs.References.{IsPredefined}
use Rattle.pv_chars.proofs.Utf8Lemmas.{one_byte, two_bytes, three_bytes, four_bytes}
use Rattle.pv_chars.specs.Texts.{joined}
use Rattle.pv_chars.specs.Units.{is_literal, is_simple, is_lone, IsUnit, AllUnits, BeginsCloseMark, BeginsUnit, HasTextFault, TextRestMeans, ends}
use Rattle.pv_chars.specs.Units.{unit, fault, TextMeans, MeansUnits, IsCut, units_in, HasUnitFault, BeginsAnyUnit, BeginsSomeUnit}
use Rattle.pv_chars.specs.declared.errors.TextError.{TextError}
use Rattle.pv_chars.specs.declared.errors.TextError.TheVariants.{Empty, BadChar, BadReference, Entity, CloseMark, NoMemory}
use Rattle.pv_chars.proofs.CharacterLemmas.{cut_at}
use Rattle.pv_chars.proofs.CutLemmas.{units_in-joined}
use Rattle.pv_chars.proofs.UnitReading.{same_unit, unit_or_fault, same_fault, nothing_is_no_fault, nothing_is_no_unit}

pub joined-append : (us vs : List (List ℕ)) → joined (us ++ vs) ≡ joined us ++ joined vs
joined-append [] vs = refl
joined-append (u ∷ us) vs = ap (λ l. u ++ l) (joined-append us vs) ∙ sym (append_assoc u (joined us) (joined vs))

pub joined_push : (us : List (List ℕ)) (u : List ℕ) → joined (us ++ u ∷ []) ≡ joined us ++ u
joined_push us u = joined-append us (u ∷ []) ∙ ap (λ l. joined us ++ l) (append-nil u)

-- ---- one meaning
pub means_only : {before : List (List ℕ)} {rest : List ℕ} {o p : Result (List (List ℕ)) TextError} → TextRestMeans before rest o → TextRestMeans before rest p → o ≡ p
means_only (ends e) (ends f) = refl
means_only (ends e) (unit v n b r) = absurd (nothing_is_no_unit _ v n e b)
means_only (ends e) (fault k f) = absurd (nothing_is_no_fault _ k _ e f)
means_only (unit u m a q) (ends f) = absurd (nothing_is_no_unit _ u m f a)
means_only {before} {rest} {o} {p} (unit u m a q) (unit v n b r) =
    let same = same_unit rest u v m n a b in
    let P : List ℕ → List ℕ → Type 0 = λ x y. TextRestMeans (before ++ x ∷ []) y p in
    means_only q (subst (λ (y : List ℕ). P u y) (sym same.1) (subst (λ (x : List ℕ). P x n) (sym same.0) r))
means_only (unit u m a q) (fault k f) = absurd (unit_or_fault _ u m _ k a f)
means_only (fault k e) (ends f) = absurd (nothing_is_no_fault _ k _ f e)
means_only (fault k e) (unit v n b r) = absurd (unit_or_fault _ v n _ k b e)
means_only (fault k e) (fault l f) = ap Err (same_fault _ _ k l e f)

pub text_means_only : (bytes : List ℕ) (o p : Result (List (List ℕ)) TextError) → TextMeans bytes o → TextMeans bytes p → o ≡ p
text_means_only bytes o p (inl a) (inl b) = a.1 ∙ sym b.1
text_means_only bytes o p (inl a) (inr b) = absurd (b.0 a.0)
text_means_only bytes o p (inr a) (inl b) = absurd (a.0 b.0)
text_means_only bytes o p (inr a) (inr b) = means_only a.1 b.1

-- ---- the units that a loop has found
AllUnits-push : (us : List (List ℕ)) (u : List ℕ) → AllUnits us → IsUnit u → AllUnits (us ++ u ∷ [])
AllUnits-push [] u all is = (is, tt)
AllUnits-push (x ∷ xs) u all is = (all.0, AllUnits-push xs u all.1 is)

pub record HasUnits (bytes rest : List ℕ) (count : ℕ) : Type 0 where
  pub units : List (List ℕ)
  pub are_units : AllUnits units
  pub whole : bytes ≡ joined units ++ rest
  pub count_is : count ≡ length units
  pub short : count + length rest ≤ length bytes
  pub leads : (o : Result (List (List ℕ)) TextError) → TextRestMeans units rest o → TextRestMeans [] bytes o

pub no_units : (bytes : List ℕ) → HasUnits bytes bytes 0
no_units bytes = record { units = []; are_units = tt; whole = refl; count_is = refl; short = omega arith; leads = λ o m. m }

unit_is_some : (bytes u rest : List ℕ) → BeginsUnit bytes u rest → 0 < length u
unit_is_some bytes [] rest b = absurd (nothing_is_no_unit [] [] [] refl record { is_unit = b.is_unit; whole = refl; no_close_mark = λ c. let e = c.1 in cc })
unit_is_some bytes (x ∷ xs) rest b = omega arith

pub unit_more : (bytes rest more : List ℕ) (count : ℕ) → HasUnits bytes rest count → (u : List ℕ) × BeginsUnit rest u more → HasUnits bytes more (count + 1)
unit_more bytes rest more count h found =
    let u = found.0 in
    let b = found.1 in
    let some = unit_is_some rest u more b in
    record {
      units = h.units ++ u ∷ [];
      are_units = AllUnits-push h.units u h.are_units b.is_unit;
      whole = h.whole ∙ ap (λ l. joined h.units ++ l) b.whole ∙ sym (append_assoc (joined h.units) u more) ∙ ap (λ l. l ++ more) (sym (joined_push h.units u));
      count_is = omega (arith, h.count_is, length-append h.units (u ∷ []));
      short = omega (arith, h.short, ap length b.whole, length-append u more);
      leads = λ o m. h.leads o (unit u more b m);
    }

pub units_end : (bytes rest : List ℕ) (count : ℕ) → HasUnits bytes rest count → rest ≡ [] → MeansUnits bytes count
units_end bytes rest count h e = record {
  units = h.units;
  are_units = h.are_units;
  whole = h.whole ∙ ap (λ l. joined h.units ++ l) e ∙ append-nil (joined h.units);
  count_is = h.count_is;
  means = h.leads (Ok h.units) (ends e);
}

pub units_fault : (bytes rest : List ℕ) (count at : ℕ) (e : TextError) → HasUnits bytes rest count → at + length rest ≡ length bytes → HasTextFault e at rest → TextRestMeans [] bytes (Err e)
units_fault bytes rest count at e h place f =
    let here : at ≡ length (joined h.units) = omega (arith, place, ap length h.whole, length-append (joined h.units) rest) in
    h.leads (Err e) (fault e (subst (λ (k : ℕ). HasTextFault e k rest) here f))

pub more_shorter : (rest more : List ℕ) → (u : List ℕ) × BeginsUnit rest u more → length more < length rest
more_shorter rest more found = let some = unit_is_some rest found.0 more found.1 in omega (arith, ap length found.1.whole, length-append found.0 more)

-- ---- simple text
singles : List ℕ → List (List ℕ)
singles [] = []
singles (b ∷ bs) = (b ∷ []) ∷ singles bs

singles_joined : (bytes : List ℕ) → bytes ≡ joined (singles bytes)
unfolding singles
singles_joined [] = refl
singles_joined (b ∷ bs) = ap (λ l. b ∷ l) (singles_joined bs)

singles_length : (bytes : List ℕ) → length bytes ≡ length (singles bytes)
unfolding singles
singles_length [] = refl
singles_length (b ∷ bs) = omega (arith, singles_length bs)

simple_unit : (b : ℕ) → is_simple b ≡ true → IsUnit (b ∷ [])
simple_unit b e =
    let parts = and_parts (is_literal b && nat_lt b 128) (not (b == 62)) e in
    let front = and_parts (is_literal b) (nat_lt b 128) parts.0 in
    inl record { code = b; is_literal = front.0; whole = sym (encode_ascii b (ltb-true b 128 front.1)) }

singles_are_units : (bytes : List ℕ) → list_all is_simple bytes ≡ true → AllUnits (singles bytes)
unfolding singles
singles_are_units [] e = tt
singles_are_units (b ∷ bs) e = let parts = and_parts (is_simple b) (list_all is_simple bs) e in (simple_unit b parts.0, singles_are_units bs parts.1)

simple_no_mark : (bytes : List ℕ) → list_all is_simple bytes ≡ true → BeginsCloseMark bytes → ⊥
simple_no_mark bytes e mark =
    let P : List ℕ → Type 0 = λ l. list_all is_simple l ≡ true in
    let whole = subst P mark.1 e in
    let third = (and_parts (is_simple 62) (list_all is_simple mark.0) (and_parts (is_simple 93)
    (is_simple 62 && list_all is_simple mark.0) (and_parts (is_simple 93) (is_simple 93 &&
    (is_simple 62 && list_all is_simple mark.0)) whole).1).1).0 in cc

simple_means : (before : List (List ℕ)) (bytes : List ℕ) → list_all is_simple bytes ≡ true → TextRestMeans before bytes (Ok (before ++ singles bytes))
unfolding singles
simple_means before [] e = let P : List (List ℕ) → Type 0 = λ l. TextRestMeans before [] (Ok l) in subst P (sym (append-nil before)) (ends refl)
simple_means before (b ∷ bs) e =
    let parts = and_parts (is_simple b) (list_all is_simple bs) e in
    let begins : BeginsUnit (b ∷ bs) (b ∷ []) bs = record { is_unit = simple_unit b parts.0; whole = refl; no_close_mark = simple_no_mark (b ∷ bs) e } in
    let below = simple_means (before ++ (b ∷ []) ∷ []) bs parts.1 in
    let P : List (List ℕ) → Type 0 = λ l. TextRestMeans (before ++ (b ∷ []) ∷ []) bs (Ok l) in
    unit (b ∷ []) bs begins (subst P (append_assoc before ((b ∷ []) ∷ []) (singles bs)) below)

pub simple_units : (bytes : List ℕ) → list_all is_simple bytes ≡ true → MeansUnits bytes (length bytes)
simple_units bytes e = record { units = singles bytes; are_units = singles_are_units bytes e; whole = singles_joined bytes; count_is = singles_length bytes; means = simple_means [] bytes e }

-- ---- the fields of a text
pub cut_is : (bytes : List ℕ) (count : ℕ) → (c : IsCut bytes count) → units_in bytes ≡ c.units
cut_is bytes count c = ap units_in c.whole ∙ units_in-joined c.units c.are_units

pub cut_of : (bytes items : List ℕ) (count : ℕ) → MeansUnits bytes count → bytes ≢ [] → items ≡ bytes → IsCut items count
cut_of bytes items count m some e = record { units = m.units; are_units = m.are_units; some = λ none. some (m.whole ∙ ap joined none); whole = e ∙ m.whole; count_is = m.count_is }

pub means_cut : (bytes items : List ℕ) (count : ℕ) → MeansUnits bytes count → bytes ≢ [] → items ≡ bytes → TextMeans bytes (Ok (units_in items))
means_cut bytes items count m some e =
    let same : units_in items ≡ m.units = ap units_in (e ∙ m.whole) ∙ units_in-joined m.units m.are_units in
    let P : List (List ℕ) → Type 0 = λ l. TextRestMeans [] bytes (Ok l) in
    inr (some, subst P (sym same) m.means)

pub unit_fault_is : (bytes : List ℕ) (at : ℕ) (e : TextError) → HasUnitFault e at bytes → HasTextFault e at bytes
unit_fault_is bytes at Empty f = f
unit_fault_is bytes at (BadChar k) f = f
unit_fault_is bytes at (BadReference k) f = f
unit_fault_is bytes at (Entity k) f = f
unit_fault_is bytes at (CloseMark k) f = absurd f
unit_fault_is bytes at NoMemory f = f

pub unit_by : (bytes rest : List ℕ) → (BeginsCloseMark bytes → ⊥) → BeginsAnyUnit bytes rest → BeginsSomeUnit bytes rest
unit_by bytes rest no_mark b = (b.item, record { is_unit = b.is_item; whole = b.whole; no_close_mark = no_mark })

pub not_empty : (bytes : List ℕ) (empty : Bool) → empty ≡ (length bytes == 0) → empty ≡ false → bytes ≢ []
not_empty bytes empty e f none = let full : (length bytes == 0) ≡ true = ap (λ (l : List ℕ). length l == 0) none in cc

pub is_nothing : (bytes : List ℕ) (empty : Bool) → empty ≡ (length bytes == 0) → empty ≡ true → bytes ≡ []
is_nothing bytes empty e f = nil_from_length bytes (eqb-true (length bytes) 0 (sym e ∙ f))

-- ---- parts of a text
pub unit_some : (u : List ℕ) → IsUnit u → 0 < length u
unit_some [] is = absurd (nothing_is_no_unit [] [] [] refl record { is_unit = is; whole = refl; no_close_mark = λ c. let e = c.1 in cc })
unit_some (x ∷ xs) is = omega arith

pub units_bytes : (units : List (List ℕ)) → AllUnits units → length units ≤ length (joined units)
units_bytes [] all = omega arith
units_bytes (u ∷ us) all =
    let below = units_bytes us all.1 in
    let some = unit_some u all.0 in omega (arith, length-append u (joined us))

pub count_fits : (bytes : List ℕ) (count : ℕ) → IsCut bytes count → count ≤ length bytes
count_fits bytes count c = let h = units_bytes c.units c.are_units in omega (arith, c.count_is, ap length c.whole)

pub AllUnits-append : (us vs : List (List ℕ)) → AllUnits us → AllUnits vs → AllUnits (us ++ vs)
AllUnits-append [] vs a b = b
AllUnits-append (u ∷ us) vs a b = (a.0, AllUnits-append us vs a.1 b)

pub cut_units-append : (bytes other both : List ℕ) (count more : ℕ) → IsCut bytes count → IsCut other more → both ≡ bytes ++ other → IsCut both (count + more)
cut_units-append bytes other both count more a b e = record {
  units = a.units ++ b.units;
  are_units = AllUnits-append a.units b.units a.are_units b.are_units;
  some = λ none. a.some (nil_from_length a.units (omega (arith, ap length none, length-append a.units b.units)));
  whole = e ∙ (λ i. a.whole i ++ b.whole i) ∙ sym (joined-append a.units b.units);
  count_is = omega (arith, a.count_is, b.count_is, length-append a.units b.units);
}

pub units_in-append : (bytes other both : List ℕ) (count more : ℕ) → (a : IsCut bytes count) → (b : IsCut other more) → both ≡ bytes ++ other → units_in both ≡ units_in bytes ++ units_in other
unfolding cut_units-append
units_in-append bytes other both count more a b e =
    cut_is both (count + more) (cut_units-append bytes other both count more a b e) ∙ (λ i. sym (cut_is bytes count a) i ++ sym (cut_is other more b) i)

AllUnits-take : (n : ℕ) (us : List (List ℕ)) → AllUnits us → AllUnits (take n us)
AllUnits-take zero us a = tt
AllUnits-take (suc n) [] a = tt
AllUnits-take (suc n) (u ∷ us) a = (a.0, AllUnits-take n us a.1)

AllUnits-drop : (n : ℕ) (us : List (List ℕ)) → AllUnits us → AllUnits (drop n us)
AllUnits-drop zero us a = a
AllUnits-drop (suc n) [] a = tt
AllUnits-drop (suc n) (u ∷ us) a = AllUnits-drop n us a.1

-- ---- data
unit_data : (u : List ℕ) → IsUnit u → is_data u ≡ list_any (λ b. not (is_space b)) u
unit_data u (inl is) = rw is.whole (by (cases_lt is.code 128) (cases_lt is.code 2048) (cases_lt is.code 65536))
  where
    white_high : (a : ℕ) (bs : List ℕ) → 128 ≤ a → list_any (λ b. not (is_space b)) (a ∷ bs) ≡ true
    white_high a bs high = let black : is_space a ≡ false = grind (arith, nat_tests) in rw black refl

    by : (is.code < 128) ⊎ (128 ≤ is.code) → (is.code < 2048) ⊎ (2048 ≤ is.code) → (is.code < 65536) ⊎ (65536 ≤ is.code) → is_data (encode is.code) ≡ list_any (λ b. not (is_space b)) (encode is.code)
    by (inl h) _ _ = rw (one_byte is.code h) (sym (or-false (not (is_space is.code))))
    by (inr l) (inl h) _ = rw (two_bytes is.code l h) (sym (white_high (192 + is.code / 64) (next is.code ∷ []) (omega arith)))
    by (inr _) (inr l) (inl h) = rw (three_bytes is.code l h) (sym (white_high (224 + is.code / 4096) (next (is.code / 64) ∷ next is.code ∷ []) (omega arith)))
    by (inr _) (inr _) (inr l) = rw (four_bytes is.code l) (sym (white_high (240 + is.code / 262144) (next (is.code / 4096) ∷ next (is.code / 64) ∷ next is.code ∷ []) (omega arith)))
unit_data u (inr (inl (inl is))) = rw is.whole refl
unit_data u (inr (inl (inr is))) = rw is.whole refl
unit_data u (inr (inr is)) = rw is.is_reference.whole (by is.name is.is_predefined)
  where
    by : (name : List ℕ) → IsPredefined name → is_data (codes "&" ++ (name ++ codes ";")) ≡ list_any (λ b. not (is_space b)) (codes "&" ++ (name ++ codes ";"))
    by name (inl e) = rw e refl
    by name (inr (inl e)) = rw e refl
    by name (inr (inr (inl e))) = rw e refl
    by name (inr (inr (inr (inl e)))) = rw e refl
    by name (inr (inr (inr (inr e)))) = rw e refl

units_data : (us : List (List ℕ)) → AllUnits us → has_data us ≡ list_any (λ b. not (is_space b)) (joined us)
units_data [] all = refl
units_data (u ∷ us) all = (λ i. unit_data u all.0 i || units_data us all.1 i) ∙ sym (list_any-append (λ b. not (is_space b)) u (joined us))

pub cut_data : (bytes : List ℕ) (count : ℕ) → IsCut bytes count → has_data (units_in bytes) ≡ list_any (λ b. not (is_space b)) bytes
cut_data bytes count c = ap has_data (cut_is bytes count c) ∙ units_data c.units c.are_units ∙ ap (list_any (λ b. not (is_space b))) (sym c.whole)

-- ---- a part of a text
-- what cuts a text cuts bytes that equal it
pub cut_named : (bytes items : List ℕ) (count : ℕ) → IsCut items count → bytes ≡ items → IsCut bytes count
cut_named bytes items count c e = subst (λ (l : List ℕ). IsCut l count) (sym e) c

pub count_is : (bytes : List ℕ) (count : ℕ) → IsCut bytes count → count ≡ length (units_in bytes)
count_is bytes count c = c.count_is ∙ ap length (sym (cut_is bytes count c))

pub cut_units : (bytes : List ℕ) (count : ℕ) → IsCut bytes count → AllUnits (units_in bytes)
cut_units bytes count c = subst AllUnits (sym (cut_is bytes count c)) c.are_units

pub cut_whole : (bytes : List ℕ) (count : ℕ) → IsCut bytes count → bytes ≡ joined (units_in bytes)
cut_whole bytes count c = c.whole ∙ ap joined (sym (cut_is bytes count c))

module _ (bytes rest : List ℕ) (all n : ℕ) (is : IsCut bytes all) (behind : rest ≡ joined (drop n (units_in bytes))) where
  pub behind_view : units_in rest ≡ drop n (units_in bytes)
  behind_view = ap units_in behind ∙ units_in-joined (drop n (units_in bytes)) (AllUnits-drop n (units_in bytes) (cut_units bytes all is))

  front_and_rest : bytes ≡ joined (take n (units_in bytes)) ++ rest
  front_and_rest =
      let us = units_in bytes in
      cut_whole bytes all is ∙ ap joined (sym (take-append-drop n us)) ∙ joined-append (take n us) (drop n us) ∙ ap (λ l. joined (take n us) ++ l) (sym behind)

  pub behind_shorter : length rest ≤ length bytes
  behind_shorter = omega (arith, ap length front_and_rest, length-append (joined (take n (units_in bytes))) rest)

  -- the bytes before them
  module _ (front items : List ℕ) (some : 0 < n) (within : n ≤ all) (cut : front ≡ take (length bytes - length rest) bytes) (same : items ≡ front) where
    pub front_cut : IsCut items n
    front_cut =
        let us = units_in bytes in
        let count : n ≡ length (take n us) = omega (arith, length-take n us, count_is bytes all is) in
        record {
          units = take n us;
          are_units = AllUnits-take n us (cut_units bytes all is);
          some = λ none. omega (arith, ap length none, count);
          whole = same ∙ cut ∙ (cut_at bytes (joined (take n us)) rest front_and_rest).0;
          count_is = count;
        }

    pub front_view : units_in items ≡ take n (units_in bytes)
    unfolding front_cut
    front_view = cut_is items n front_cut

  -- these bytes
  module _ (items : List ℕ) (some : n < all) (same : items ≡ rest) where
    pub back_cut : IsCut items (all - n)
    back_cut =
        let us = units_in bytes in
        let count : all - n ≡ length (drop n us) = omega (arith, length-drop n us, count_is bytes all is) in
        record {
          units = drop n us;
          are_units = AllUnits-drop n us (cut_units bytes all is);
          some = λ none. omega (arith, ap length none, count);
          whole = same ∙ behind;
          count_is = count;
        }

    pub back_view : units_in items ≡ drop n (units_in bytes)
    back_view = ap units_in same ∙ behind_view

-- ---- a byte that is a unit whatever stands after it
pub lone_unit : (bytes rest : List ℕ) (b : ℕ) → bytes ≡ b ∷ rest → is_lone b ≡ true → BeginsSomeUnit bytes rest
lone_unit bytes rest b e is =
    let parts = and_parts (is_simple b) (not (b == 93)) is in (
      b ∷ [],
      record {
        is_unit = simple_unit b parts.0;
        whole = e;
        no_close_mark = λ mark. let first = mark.1 in let same : b ≡ 93 = cc in let apart =
            eqb-false b 93 (not-true (b == 93) parts.1) in apart same;
      },
    )
