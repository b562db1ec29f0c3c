-- Verdicts of lists by their numbers.
use Rattle.std.proofs.Common.{List, Some, [], ap, arith, length, refl, slice_get, subst, suc, sym, zero, ℕ, ◌++◌, ◌<◌, ◌∙◌, ◌∷◌, ◌≡◌, ◌≢◌}
use Rattle.std.specs.List.{AllByRecursion}
use Rattle.pv_dtd.specs.Plain.{PlainDtd}
use Rattle.pv_tree.specs.Lists.{Listed}
use Rattle.pv_missing.specs.VerdictLaws.{FirstImpossibleAt, VerdictsByNumber}
use Rattle.pv_missing.specs.Verdicts.{AreVerdicts, AreVerdictsByNumber, IsFirstImpossible, IsFirstVerdict, IsLive, IsVerdict}
use Rattle.pv_missing.proofs.VerdictLists.{first_from, first_own, live_of, not_live}
use Rattle.pv_tree.specs.declared.nodes.Verdict.{Verdict}
use Rattle.pv_tree.specs.declared.nodes.Verdict.TheVariants as verdict

module _ {M : Type 0} (g : PlainDtd) (root : List ℕ) where
  by_number : (lists : List (Listed M)) (vs : List Verdict) → AreVerdicts g root lists vs → AreVerdictsByNumber g root lists vs
  by_number [] vs a = let e : vs ≡ [] = a in record { as_many = ap length e; each = λ k list v f h. absurd cc }
  by_number (list ∷ lists) vs a =
      let more = by_number lists a.1 a.4 in
      let P : List Verdict → Type 0 = AreVerdictsByNumber g root (list ∷ lists) in
      subst P (sym a.2) (record { as_many = ap suc more.as_many; each = each_from list lists a.0 a.1 a.3 more })
    where
      each_from : (list : Listed M) (lists : List (Listed M)) (v : Verdict) (vs : List Verdict) → IsVerdict g root list v → AreVerdictsByNumber g root lists vs →
          (k : ℕ) (l : Listed M) (w : Verdict) → slice_get (list ∷ lists) k ≡ Some l → slice_get (v ∷ vs) k ≡ Some w → IsVerdict g root l w
      each_from list lists v vs j more zero l w e f =
          let x : list ≡ l = cc in let y : v ≡ w = cc in
          subst (λ (o : Listed M). IsVerdict g root o w) x (subst (IsVerdict g root list) y j)
      each_from list lists v vs j more (suc k) l w e f = more.each k l w e f

  from_number : (lists : List (Listed M)) (vs : List Verdict) → AreVerdictsByNumber g root lists vs → AreVerdicts g root lists vs
  from_number [] [] b = refl
  from_number [] (v ∷ vs) b = let e = b.as_many in absurd (omega arith)
  from_number (list ∷ lists) [] b = let e = b.as_many in absurd (omega arith)
  from_number (list ∷ lists) (v ∷ vs) b = (
    v,
    vs,
    refl,
    b.each 0 list v refl refl,
    from_number lists vs
        (record { as_many = let e = b.as_many in omega arith; each = λ k l w e f. b.each (suc k) l w e f }),
  )

  -- the number of the first list that isn't live is that of the first Impossible verdict
  first_at : (lists : List (Listed M)) (vs : List Verdict) → AreVerdicts g root lists vs → (before : List (Listed M)) (list : Listed M) (after : List (Listed M)) → lists ≡ before ++ list ∷ after →
      AllByRecursion (IsLive g root) before → (IsLive g root list → ⊥) → IsFirstVerdict verdict.Impossible vs (length before)
  first_at [] vs a [] list after e all not = absurd cc
  first_at [] vs a (b ∷ before) list after e all not = absurd cc
  first_at (l ∷ lists) vs a [] list after e all not =
      let s : list ≡ l = cc in
      let i = not_live g root l a.0 (subst (λ (o : Listed M). IsLive g root o → ⊥) s not) a.3 in
      record { is_there = ap (λ ws. slice_get ws 0) a.2 ∙ ap Some i; none_before = λ i h. absurd (omega arith) }
  first_at (l ∷ lists) vs a (b ∷ before) list after e all not =
      let s : l ≡ b = cc in
      let t : lists ≡ before ++ list ∷ after = cc in
      let more = first_at lists a.1 a.4 before list after t all.1 not in
      let live = subst (IsLive g root) (sym s) all.0 in
      let P : List Verdict → Type 0 = λ ws. IsFirstVerdict verdict.Impossible ws (suc (length before)) in
      subst P (sym a.2) (record { is_there = more.is_there; none_before = earlier l live a.0 a.1 (length before) a.3 more })
    where
      isnt : (l : Listed M) → IsLive g root l → (v : Verdict) → IsVerdict g root l v → v ≢ verdict.Impossible
      isnt l live v j e = subst (IsVerdict g root l) e j live

      earlier : (l : Listed M) → IsLive g root l → (v : Verdict) (vs : List Verdict) (n : ℕ) → IsVerdict g root l v → IsFirstVerdict verdict.Impossible vs n →
          (i : ℕ) → i < suc n → slice_get (v ∷ vs) i ≢ Some verdict.Impossible
      earlier l live v vs n j more zero h e = isnt l live v j cc
      earlier l live v vs n j more (suc i) h e = more.none_before i (omega arith) e

  from_first_at : (lists : List (Listed M)) (vs : List Verdict) → AreVerdicts g root lists vs → (k : ℕ) (list : Listed M) → IsFirstVerdict verdict.Impossible vs k → slice_get lists k ≡ Some list →
      IsFirstImpossible g root lists list.path
  from_first_at [] vs a k list f e = absurd cc
  from_first_at (l ∷ lists) vs a zero list f e =
      let s : l ≡ list = cc in
      let w = a.2 in let h = f.is_there in
      let q : Some a.0 ≡ Some verdict.Impossible = ap (λ ws. slice_get ws 0) (sym w) ∙ h in
      let v : a.0 ≡ verdict.Impossible = cc in
      let own = first_own g root l lists (subst (IsVerdict g root l) v a.3) in
      subst (λ (o : Listed M). IsFirstImpossible g root (l ∷ lists) o.path) s own
  from_first_at (l ∷ lists) vs a (suc k) list f e =
      let P : List Verdict → Type 0 = λ ws. IsFirstVerdict verdict.Impossible ws (suc k) in
      let h = subst P a.2 f in
      let live = live_of g root l a.0 (λ v. h.none_before 0 (omega arith) (ap Some v)) a.3 in
      first_from g root l lists list.path live (from_first_at lists a.1 a.4 k list (record { is_there = h.is_there; none_before = λ i q. h.none_before (suc i) (omega arith) }) e)

  at_split : (lists before after : List (Listed M)) (list : Listed M) → lists ≡ before ++ list ∷ after → slice_get lists (length before) ≡ Some list
  at_split lists before after list e = ap (λ (ls : List (Listed M)). slice_get ls (length before)) e ∙ own_place before
    where
      own_place : (before : List (Listed M)) → slice_get (before ++ list ∷ after) (length before) ≡ Some list
      own_place [] = refl
      own_place (b ∷ before) = own_place before

pub verdicts_by_number : (M : Type 0) → VerdictsByNumber M
verdicts_by_number M g root lists vs = (by_number g root lists vs, from_number g root lists vs)

pub first_impossible_at : (M : Type 0) → FirstImpossibleAt M
first_impossible_at M g root path lists vs a = (
  (λ f. (length f.before, f.list, first_at g root lists vs a f.before f.list f.after f.is_split f.all_before f.is_not, at_split g root lists f.before f.after f.list f.is_split, f.is_path)),
  (λ c. let P : List ℕ → Type 0 = IsFirstImpossible g root lists in subst P (sym c.4) (from_first_at g root lists vs a c.0 c.1 c.2 c.3)),
)
