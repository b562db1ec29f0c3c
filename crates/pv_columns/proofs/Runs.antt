-- A free column reaches over what it takes each token of.
use Rattle.std.proofs.Common.{Bool, List, Some, [], arith, length, slice_get, subst, suc, sym, zero, ℕ, ◌+◌, ◌<◌, ◌∷◌, ◌≡◌, ◌≤◌}
use Rattle.pv_model.specs.declared.models.Token.{Token}
use Rattle.pv_columns.specs.ColumnRules.{ReadThrough}
use Rattle.pv_columns.specs.Laws.{FreeReachesTaken}
use Rattle.pv_columns.specs.Marks.{AreLiveMarks, IsMarked}
use Rattle.pv_columns.specs.declared.rules.ColumnRule.{ColumnRule}
use Rattle.pv_columns.specs.Takes.{IsFree, Repeats, Takes, TakesEach, free_leads, free_repeats, repeats_column, repeats_token}
use Rattle.pv_columns.proofs.Spans.{between, join, token_at}
use Rattle.pv_columns.proofs.TakenTokens.{among_reached, by_columns, by_token, reaches_taken, takes_reaches}

module _ (rules : List ColumnRule) (word : List Token) (live : List Bool) (marks : AreLiveMarks rules word live) where
  as_columns : (cs ds : List ℕ) (i j : ℕ) → cs ≡ ds → ReadThrough rules word ds i j → ReadThrough rules word cs i j
  as_columns cs ds i j e d = let P : List ℕ → Type 0 = λ v. ReadThrough rules word v i j in subst P (sym e) d

  step : (c i j : ℕ) (t : Token) → slice_get word i ≡ Some t → Repeats rules live t c → ReadThrough rules word (c ∷ []) (suc i) j → ReadThrough rules word (c ∷ []) i j
  step c i j t f (repeats_token r con e s z) d = by_token rules word live marks c r i j t f con e s (as_columns r.columns.items (c ∷ []) (suc i) j z d)
  step c i j t f (repeats_column a r con e s z v) d =
      by_columns rules word live marks c r i j con e s
      (as_columns r.columns.items (a ∷ c ∷ []) i j z (join rules word a (c ∷ []) i (suc i) j (takes_reaches rules word live marks t i f a v) d))

  runs : (c : ℕ) → IsMarked live c → ((t : Token) → Takes rules live t c → Repeats rules live t c) → (n i j : ℕ) → j ≡ i + n → j ≤ length word → TakesEach rules live word c i j →
      ReadThrough rules word (c ∷ []) i j
  runs c m rep zero i j e l u = let P : ℕ → Type 0 = λ v. ReadThrough rules word (c ∷ []) i v in let z : i ≡ j = omega arith in subst P z (marks.sound c i m)
  runs c m rep (suc n) i j e l u =
      let h : i < length word = omega arith in let t = token_at word i h in
      step c i j t.0 t.1 (rep t.0 (u i t.0 (omega arith) (omega arith) t.1)) (runs c m rep n (suc i) j (omega arith) l (λ k o a b f. u k o (omega arith) b f))

  pub free_reaches : (c : ℕ) → IsFree rules live c → (i j : ℕ) → i ≤ j → j ≤ length word → TakesEach rules live word c i j → ReadThrough rules word (c ∷ []) i j
  free_reaches c (free_repeats _ m rep) i j h l u = let n = between i j h in runs c m rep n.0 i j n.1 l u
  free_reaches c (free_leads _ d r con e s a m free all) i j h l u =
      by_columns rules word live marks c r i j con e s
      (among_reached rules word live marks d i j r.columns.items a m (free_reaches d free i j h l (λ k t x y f. all t (u k t x y f))))

pub free_reaches_taken : FreeReachesTaken
free_reaches_taken rules word live marks alone c i j free h l =
    ((λ d. reaches_taken rules word live marks alone c i j d), (λ u. free_reaches rules word live marks c free i j h l u))
