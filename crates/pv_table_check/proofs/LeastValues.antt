-- Entries of the least values, as they are put together.
use Rattle.std.proofs.Common.{◌≡◌, ◌<◌, ◌≤◌, ◌+◌, ◌⊎◌, ℕ, List, [], ◌∷◌, ◌++◌, refl, inl, inr, sym, ap, subst, length, get_or, arith, ◌∙◌}
use Rattle.std.specs.List.{Contains}
use Rattle.std.proofs.lemmas.Bool.{cases_lt}
use Rattle.std.proofs.lemmas.List.{get_or_push, length_push, get_or_default}
use Rattle.pv_tables.specs.declared.tables.Entry.{Entry}
use Rattle.pv_table_check.specs.Members.{AreLeast, IsNoMore}
use Rattle.pv_table_check.proofs.RowValues.{more_at}

module _ {X : Type 0} where
  pub in_more : (xs : List X) (y x : X) → Contains xs x → Contains (xs ++ y ∷ []) x
  in_more xs y x (k, lt, e) = let l = length_push xs y in (k, omega arith, more_at xs y x k lt ∙ e)

  pub last_in : (xs : List X) (y : X) → Contains (xs ++ y ∷ []) y
  last_in xs y = let l = length_push xs y in (length xs, omega arith, get_or_push xs y y (length xs) refl)

  pub of_more : (xs : List X) (y x : X) → Contains (xs ++ y ∷ []) x → Contains xs x ⊎ (y ≡ x)
  of_more xs y x (k, lt, e) = by_place (cases_lt k (length xs))
    where
      by_place : (k < length xs) ⊎ (length xs ≤ k) → Contains xs x ⊎ (y ≡ x)
      by_place (inl l) = inl (k, l, sym (more_at xs y x k l) ∙ e)
      by_place (inr l) = let n = length_push xs y in inr (sym (get_or_push xs y x k (omega arith)) ∙ e)

  pub all_in_more : (all xs : List X) (y : X) → ((x : X) → Contains xs x → Contains all x) → Contains all y → (x : X) → Contains (xs ++ y ∷ []) x → Contains all x
  all_in_more all xs y h is x m = by_case (of_more xs y x m)
    where
      by_case : Contains xs x ⊎ (y ≡ x) → Contains all x
      by_case (inl n) = h x n
      by_case (inr e) = subst (λ z. Contains all z) e is

-- those of the entries up to a place are told by what was found
pub record AreSoFar (all : List Entry) (n : ℕ) (found : List Entry) : Type 0 where
  pub are : (e : Entry) → Contains found e → Contains all e
  pub least : (k : ℕ) (d : Entry) → k < n → (l : Entry) × Contains found l × IsNoMore (get_or all k d) l

module _ (all : List Entry) (n : ℕ) (found : List Entry) (s : AreSoFar all n found) where
  -- what is told already
  pub told : (e : Entry) → e ≡ get_or all n e → n < length all → (l : Entry) × Contains found l × IsNoMore e l → AreSoFar all (n + 1) found
  told e is lt t = record { are = s.are; least = λ k d less. by_place k d less (cases_lt k n) }
    where
      by_place : (k : ℕ) (d : Entry) → k < n + 1 → (k < n) ⊎ (n ≤ k) → (l : Entry) × Contains found l × IsNoMore (get_or all k d) l
      by_place k d less (inl x) = s.least k d x
      by_place k d less (inr x) =
          let same : n ≡ k = omega arith in
          let here : e ≡ get_or all k d = is ∙ get_or_default all n e d lt ∙ ap (λ j. get_or all j d) same in
          subst (λ f. (l : Entry) × Contains found l × IsNoMore f l) here t

  -- one that is put with them
  pub put : (e : Entry) → e ≡ get_or all n e → n < length all → AreSoFar all (n + 1) (found ++ e ∷ [])
  put e is lt = record { are = all_in_more all found e s.are (n, lt, sym is); least = λ k d less. by_place k d less (cases_lt k n) }
    where
      by_place : (k : ℕ) (d : Entry) → k < n + 1 → (k < n) ⊎ (n ≤ k) → (l : Entry) × Contains (found ++ e ∷ []) l × IsNoMore (get_or all k d) l
      by_place k d less (inl x) = let t = s.least k d x in (t.0, in_more found e t.0 t.1, t.2)
      by_place k d less (inr x) =
          let same : n ≡ k = omega arith in
          let here : e ≡ get_or all k d = is ∙ get_or_default all n e d lt ∙ ap (λ j. get_or all j d) same in
          (e, last_in found e, subst (λ f. IsNoMore f e) here (refl, refl, omega arith))

pub all_told : (all : List Entry) (n : ℕ) (found : List Entry) → AreSoFar all n found → length all ≤ n → AreLeast all found
all_told all n found s le = record {
  are = s.are;
  least = λ e (k, lt, is). let t = s.least k e (omega arith) in (t.0, t.1, subst (λ f. IsNoMore f t.0) is t.2);
}
