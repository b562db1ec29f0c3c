-- The values of a row, read one by one.
use Rattle.std.proofs.Common.{◌≡◌, ◌<◌, ℕ, List, [], ◌∷◌, ◌++◌, map, refl, sym, ap, ◌∙◌}
use Rattle.std.proofs.Common.{append_assoc, arith, decimal, subst, None}
use Rattle.pv_words.specs.Numbers.{AreNumbers, number_spelled, IsNumberBefore}
use Rattle.pv_words.specs.Words.{words}
use Rattle.pv_words.proofs.NumberWords.{decimal-free, number_spelled-decimal}
use Rattle.pv_words.proofs.FirstWords.{Free, Free-append}
use Rattle.pv_words.proofs.Cuts.{one-number-before, same-decimal}
use Rattle.pv_denial_text.specs.Fronts.{AreValueWords}

-- a byte that isn't in some bytes doesn't stand among them
not-among : (d : ℕ) (a b x : List ℕ) → Free d a → a ≡ b ++ (d ∷ x) → ⊥
not-among d [] [] x f is = cc
not-among d [] (y ∷ ys) x f is = cc
not-among d (z ∷ zs) [] x f is = let same : z ≡ d = cc in f.0 same
not-among d (z ∷ zs) (y ∷ ys) x f is = let less : zs ≡ ys ++ (d ∷ x) = cc in not-among d zs ys x f.1 less

-- a value before others
pub more-values : (rest after : List ℕ) (v : ℕ) (more : List ℕ) → IsNumberBefore rest v after → AreValueWords after more → AreValueWords rest (v ∷ more)
more-values rest after v [] b a = absurd (a.some refl)
more-values rest after v (u ∷ us) b a = record {
  some = λ e. cc;
  in_range = (b.within, a.in_range);
  whole = b.whole ∙ ap (λ l. decimal v ++ (32 ∷ l)) a.whole;
}

-- values that begin with this one
pub record AreBehind (after : List ℕ) (v : ℕ) (all : List ℕ) : Type 0 where
  pub more : List ℕ
  pub is : all ≡ v ∷ more
  pub are : AreValueWords after more

pub first-value : (rest after : List ℕ) (v : ℕ) (all : List ℕ) → IsNumberBefore rest v after → AreValueWords rest all → AreBehind after v all
first-value rest after v [] b a = absurd (a.some refl)
first-value rest after v (u ∷ []) b a =
    absurd (not-among 32 (decimal u) (decimal v) after (decimal-free 32 u (omega arith) a.in_range.0) (sym a.whole ∙ b.whole))
first-value rest after v (u ∷ w ∷ ws) b a =
    let same = one-number-before rest v u after (words (map decimal (w ∷ ws))) b record { within = a.in_range.0; whole = a.whole } in
    record {
      more = w ∷ ws;
      is = ap (λ n. n ∷ w ∷ ws) (sym same.numbers);
      are = record { some = λ e. cc; in_range = a.in_range.1; whole = same.rests };
    }

-- some values are read, and these bytes are left
pub record HaveRead (bytes values rest : List ℕ) : Type 0 where
  pub forth : (more : List ℕ) → AreValueWords rest more → AreValueWords bytes (values ++ more)
  pub back : (all : List ℕ) → AreValueWords bytes all → (more : List ℕ) × (all ≡ values ++ more) × AreValueWords rest more

pub none-read : (bytes : List ℕ) → HaveRead bytes [] bytes
none-read bytes = record { forth = λ more a. a; back = λ all a. (all, refl, a) }

pub value-read : (bytes values rest : List ℕ) (v : ℕ) (after : List ℕ) → HaveRead bytes values rest → IsNumberBefore rest v after → HaveRead bytes (values ++ v ∷ []) after
value-read bytes values rest v after h b = record {
  forth = λ more a. subst (AreValueWords bytes) (sym (append_assoc values (v ∷ []) more)) (h.forth (v ∷ more) (more-values rest after v more b a));
  back = λ all a.
      let x = h.back all a in let y = first-value rest after v x.0 b x.2 in
      (y.more, x.1 ∙ ap (λ l. values ++ l) y.is ∙ sym (append_assoc values (v ∷ []) y.more), y.are);
}

-- neither a number before a blank nor one alone is left
no-last : (rest : List ℕ) (all : List ℕ) → ((n : ℕ) (behind : List ℕ) → IsNumberBefore rest n behind → ⊥) → number_spelled rest ≡ None → AreValueWords rest all → ⊥
no-last rest [] none other a = a.some refl
no-last rest (u ∷ []) none other a =
    let read = number_spelled-decimal u a.in_range.0 in
    let these = ap number_spelled a.whole in
    cc
no-last rest (u ∷ w ∷ ws) none other a = none u (words (map decimal (w ∷ ws))) record { within = a.in_range.0; whole = a.whole }

pub no-values : (bytes values rest : List ℕ) → HaveRead bytes values rest →
    ((n : ℕ) (behind : List ℕ) → IsNumberBefore rest n behind → ⊥) → number_spelled rest ≡ None →
    (all : List ℕ) → AreValueWords bytes all → ⊥
no-values bytes values rest h none other all a = let x = h.back all a in no-last rest x.0 none other x.2

-- bytes are one list of values at most
pub one-values : (bytes a b : List ℕ) → AreValueWords bytes a → AreValueWords bytes b → a ≡ b
one-values bytes [] b h k = absurd (h.some refl)
one-values bytes (u ∷ []) [] h k = absurd (k.some refl)
one-values bytes (u ∷ []) (v ∷ []) h k = ap (λ n. n ∷ []) (same-decimal u v h.in_range.0 k.in_range.0 (sym h.whole ∙ k.whole))
one-values bytes (u ∷ []) (v ∷ y ∷ ys) h k =
    absurd (not-among 32 (decimal u) (decimal v) (words (map decimal (y ∷ ys))) (decimal-free 32 u (omega arith) h.in_range.0) (sym h.whole ∙ k.whole))
one-values bytes (u ∷ x ∷ xs) b h k =
    let rest = words (map decimal (x ∷ xs)) in
    let y = first-value bytes rest u b record { within = h.in_range.0; whole = h.whole } k in
    let below = one-values rest (x ∷ xs) y.more record { some = λ e. cc; in_range = h.in_range.1; whole = refl } y.are in
    ap (λ l. u ∷ l) below ∙ sym y.is

-- no LF stands among them
pub values-free : (d : ℕ) (values : List ℕ) → d < 32 → AreNumbers values → Free d (words (map decimal values))
values-free d [] low a = tt
values-free d (u ∷ []) low a = decimal-free d u (omega arith) a.0
values-free d (u ∷ w ∷ ws) low a =
    Free-append d (decimal u) _ (decimal-free d u (omega arith) a.0) (λ same. absurd (omega arith), values-free d (w ∷ ws) low a.1)
