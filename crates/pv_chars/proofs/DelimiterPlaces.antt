-- Where a delimiter stands, by places and by what is before it and after it.
use Rattle.std.proofs.Common.{◌≡◌, ℕ, ◌+◌, ◌<◌, ◌≤◌, ⊎_elim, List, ◌++◌, length, take, drop, get_or, refl, sym, ap, ◌∙◌, arith, length-append}
use Rattle.std.proofs.lemmas.List.{take_at, drop_at, take-append-drop, drop-drop, get_or_append_left, get_or-append-add, length-take}
use Rattle.std.proofs.lemmas.Bool.{cases_lt}
use Rattle.std.proofs.Common.{add-one, suc, [], ◌∷◌}
use Rattle.std.proofs.Math.Seq.{split_at}
use Rattle.std.proofs.lemmas.List.{get_or_at}
use Rattle.std.proofs.lemmas.Bool.{eq-eqb, eqb-true}
use Rattle.memchr.specs.Find.{is_byte, Passes, OccursAt, Nowhere, NoneBefore}
use Rattle.memchr.proofs.lemmas.MatchLemmas.{OccursAt-split}
use Rattle.pv_chars.specs.Fronts.{ContainsBytes, EndsAt}

pub occurs_behind : (bytes part before after : List ℕ) → bytes ≡ before ++ (part ++ after) → OccursAt bytes part (length before)
occurs_behind bytes part before after whole = record {
  fits = omega (arith, ap length whole, length-append before (part ++ after), length-append part after);
  reads = λ j below. ap (λ l. get_or l (length before + j) 0) whole ∙ get_or-append-add before (part ++ after) j 0 ∙ get_or_append_left part after 0 j below;
}

pub split_where : (bytes part : List ℕ) (k : ℕ) → OccursAt bytes part k → bytes ≡ take k bytes ++ (part ++ drop (k + length part) bytes)
split_where bytes part k occurs = sym (take-append-drop k bytes) ∙ ap (λ l. take k bytes ++ l) (OccursAt-split bytes part k occurs)

pub holds_none : (bytes part : List ℕ) → Nowhere (OccursAt bytes part) 0 (length bytes + 1) → ContainsBytes bytes part → ⊥
holds_none bytes part none holds = none (length holds.before) (omega arith)
    (omega (arith, ap length holds.whole, length-append holds.before (part ++ holds.after)))
    (occurs_behind bytes part holds.before holds.after holds.whole)

pub not_less : (k n : ℕ) → (n < k → ⊥) → k ≤ n
not_less k n never = ⊎_elim (λ less. absurd (never less)) (λ more. more) (cases_lt n k)

pub ends_where : (delimiter bytes : List ℕ) (k : ℕ) → OccursAt bytes delimiter k →
    NoneBefore (OccursAt bytes delimiter) 0 (length bytes + 1) k →
    EndsAt delimiter bytes (take k bytes) (drop (k + length delimiter) bytes)
ends_where delimiter bytes k occurs none = record {
  whole = split_where bytes delimiter k occurs;
  first = λ other more whole.
      let at = occurs_behind bytes delimiter other more whole in
      let least = not_less k (length other) (λ less. none.before (length other) (omega arith) less at) in
      omega (arith, length-take k bytes);
}

-- before and after are determined
pub same_end : (delimiter bytes before after other more : List ℕ) → EndsAt delimiter bytes before after → EndsAt delimiter bytes other more → (before ≡ other) × (after ≡ more)
same_end delimiter bytes before after other more a b =
    let less = a.first other more b.whole in
    let no_less = b.first before after a.whole in
    let long : length before ≡ length other = omega arith in
    let front : before ≡ other = sym (take_at before (delimiter ++ after) (length before) refl)
    ∙ ap (take (length before)) (sym a.whole ∙ b.whole) ∙ take_at other (delimiter ++ more)
    (length before) (sym long) in
    let behind : delimiter ++ after ≡ delimiter ++ more = sym (drop_at before (delimiter ++ after)
    (length before) refl) ∙ ap (drop (length before)) (sym a.whole ∙ b.whole)
    ∙ drop_at other (delimiter ++ more) (length before) (sym long) in
    (front, sym (drop_at delimiter after (length delimiter) refl) ∙ ap (drop (length delimiter)) behind ∙ drop_at delimiter more (length delimiter) refl)

-- as two cuts give it
pub ends_cut : (delimiter bytes before found after : List ℕ) (k : ℕ) → OccursAt bytes delimiter k →
    NoneBefore (OccursAt bytes delimiter) 0 (length bytes + 1) k → before ≡ take k bytes →
    found ≡ drop k bytes → after ≡ drop (length delimiter) found → EndsAt delimiter bytes before after
ends_cut delimiter bytes before found after k occurs none front back behind =
    rw (front, behind ∙ ap (drop (length delimiter)) back ∙ drop-drop (length delimiter) k bytes)
    (ends_where delimiter bytes k occurs none)

-- ---- a delimiter of one byte
byte_behind : (byte : ℕ) (bytes before after : List ℕ) → bytes ≡ before ++ (byte ∷ after) → Passes (is_byte byte) bytes (length before)
byte_behind byte bytes before after whole = eq-eqb _ _ (ap (λ l. get_or l (length before) 0) whole ∙ get_or_at before byte after 0 (length before) refl)

pub byte_nowhere : (byte : ℕ) (bytes : List ℕ) → Nowhere (Passes (is_byte byte) bytes) 0 (length bytes) → ContainsBytes bytes (byte ∷ []) → ⊥
byte_nowhere byte bytes none holds = none (length holds.before) (omega arith)
    (omega (arith, ap length holds.whole, length-append holds.before (byte ∷ holds.after)))
    (byte_behind byte bytes holds.before holds.after holds.whole)

pub byte_ends : (byte : ℕ) (bytes before found after : List ℕ) (k : ℕ) →
    Passes (is_byte byte) bytes k → NoneBefore (Passes (is_byte byte) bytes) 0 (length bytes) k →
    before ≡ take k bytes → found ≡ drop k bytes → after ≡ drop 1 found →
    EndsAt (byte ∷ []) bytes before after
byte_ends byte bytes before found after k passes none front back behind =
    let at : get_or bytes k 0 ≡ byte = eqb-true _ _ passes in
    let cut_units : bytes ≡ take k bytes ++ (get_or bytes k 0 ∷ drop (suc k) bytes) = split_at bytes k 0 none.high in
    let rest : after ≡ drop (suc k) bytes = behind ∙ ap (drop 1) back ∙ drop-drop 1 k bytes ∙ ap (λ n. drop n bytes) (add-one k) in
    record {
      whole = cut_units ∙ ap (λ b. take k bytes ++ (b ∷ drop (suc k) bytes)) at ∙ ap (λ l. l ++ (byte ∷ drop (suc k) bytes)) (sym front) ∙ ap (λ l. before ++ (byte ∷ l)) (sym rest);
      first = λ other more whole.
          let least = not_less k (length other) (λ less. none.before (length other) (omega arith) less (byte_behind byte bytes other more whole)) in
          omega (arith, ap length front, length-take k bytes);
    }
