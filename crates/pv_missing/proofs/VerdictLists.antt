-- Verdicts of several lists.
use Rattle.std.specs.Prelude.{slice_index_or}
use Rattle.std.proofs.Common.{List, [], ap, arith, length, refl, suc, sym, zero, ℕ, ◌++◌, ◌<◌, ◌∙◌, ◌∷◌, ◌≡◌, ◌≢◌}
use Rattle.std.specs.List.{Contains}
use Rattle.pv_dtd.specs.Plain.{PlainDtd}
use Rattle.pv_tree.specs.Lists.{Listed}
use Rattle.pv_tree.proofs.FirstLists.{first_behind}
use Rattle.pv_missing.specs.VerdictLaws.{ImpossibleHasFirst, OneListOfVerdicts}
use Rattle.pv_missing.specs.Verdicts.{AreVerdicts, IsFirstImpossible, IsLive, IsVerdict}
use Rattle.pv_missing.proofs.Verdict.{one_verdict}
use Rattle.pv_tree.specs.declared.nodes.Verdict.{Verdict}
use Rattle.pv_tree.specs.declared.nodes.Verdict.TheVariants as verdict

pub one_list_of_verdicts : (M : Type 0) → OneListOfVerdicts M
one_list_of_verdicts M g root [] vs vs' a b = a ∙ sym b
one_list_of_verdicts M g root (list ∷ lists) vs vs' a b =
    let v = one_verdict M g root list a.0 b.0 a.3 b.3 in
    let r = one_list_of_verdicts M g root lists a.1 b.1 a.4 b.4 in
    let p = a.2 in let q = b.2 in cc

-- a list of a verdict other than Impossible is live
pub live_of : {M : Type 0} (g : PlainDtd) (root : List ℕ) (list : Listed M) (v : Verdict) → v ≢ verdict.Impossible → IsVerdict g root list v → IsLive g root list
live_of g root list verdict.Valid n j = j.0
live_of g root list verdict.Possible n j = j.0
live_of g root list verdict.Impossible n j = absurd (n refl)

pub first_own : {M : Type 0} (g : PlainDtd) (root : List ℕ) (list : Listed M) (lists : List (Listed M)) → IsVerdict g root list verdict.Impossible → IsFirstImpossible g root (list ∷ lists) list.path
first_own g root list lists j = record { before = []; list = list; after = lists; is_split = refl; all_before = tt; is_not = j; is_path = refl }

pub first_from : {M : Type 0} (g : PlainDtd) (root : List ℕ) (list : Listed M)
    (lists : List (Listed M)) (path : List ℕ) → IsLive g root list →
    IsFirstImpossible g root lists path → IsFirstImpossible g root (list ∷ lists) path
first_from g root list lists path l f = first_behind (IsLive g root) (list ∷ []) lists path (l, tt) f

contains_behind : (v : Verdict) (vs : List Verdict) (w : Verdict) → v ≢ w → (k : ℕ) → k < length (v ∷ vs) → slice_index_or (v ∷ vs) k w ≡ w → Contains vs w
contains_behind v vs w n zero h e = absurd (n e)
contains_behind v vs w n (suc k) h e = (k, omega arith, e)

contains_more : (v : Verdict) (vs : List Verdict) (w : Verdict) → Contains vs w → Contains (v ∷ vs) w
contains_more v vs w c = (suc c.0, let h = c.1 in omega arith, c.2)

contains_none : (vs : List Verdict) (w : Verdict) → vs ≡ [] → Contains vs w → ⊥
contains_none vs w e c = let h = c.1 in let z : length vs ≡ 0 = ap length e in omega arith

-- the first impossible list is after a list that isn't impossible
first_later : {M : Type 0} (g : PlainDtd) (root : List ℕ) (list : Listed M) (lists : List (Listed M)) (v : Verdict) (vs : List Verdict) → v ≢ verdict.Impossible → IsVerdict g root list v →
    (Contains vs verdict.Impossible → (path : List ℕ) × IsFirstImpossible g root lists path) → Contains (v ∷ vs) verdict.Impossible → (path : List ℕ) × IsFirstImpossible g root (list ∷ lists) path
first_later g root list lists v vs n j below c =
    let f = below (contains_behind v vs verdict.Impossible n c.0 c.1 c.2) in (f.0, first_from g root list lists f.0 (live_of g root list v n j) f.1)

first_among : {M : Type 0} (g : PlainDtd) (root : List ℕ) (list : Listed M) (lists : List (Listed M)) (v : Verdict) (vs : List Verdict) → IsVerdict g root list v →
    (Contains vs verdict.Impossible → (path : List ℕ) × IsFirstImpossible g root lists path) → Contains (v ∷ vs) verdict.Impossible → (path : List ℕ) × IsFirstImpossible g root (list ∷ lists) path
first_among g root list lists verdict.Valid vs j below c = first_later g root list lists verdict.Valid vs (λ e. cc) j below c
first_among g root list lists verdict.Possible vs j below c = first_later g root list lists verdict.Possible vs (λ e. cc) j below c
first_among g root list lists verdict.Impossible vs j below c = (list.path, first_own g root list lists j)

first_of_some : {M : Type 0} (g : PlainDtd) (root : List ℕ) (lists : List (Listed M)) (vs : List Verdict) → AreVerdicts g root lists vs → Contains vs verdict.Impossible →
    (path : List ℕ) × IsFirstImpossible g root lists path
first_of_some g root [] vs a c = absurd (contains_none vs verdict.Impossible a c)
first_of_some g root (list ∷ lists) vs a c = first_among g root list lists a.0 a.1 a.3 (first_of_some g root lists a.1 a.4) (rw a.2 at c)

-- a list that isn't live has the verdict Impossible
pub not_live : {M : Type 0} (g : PlainDtd) (root : List ℕ) (list : Listed M) (v : Verdict) → (IsLive g root list → ⊥) → IsVerdict g root list v → v ≡ verdict.Impossible
not_live g root list verdict.Valid n j = absurd (n j.0)
not_live g root list verdict.Possible n j = absurd (n j.0)
not_live g root list verdict.Impossible n j = refl

contains_own : (v : Verdict) (vs : List Verdict) → Contains (v ∷ vs) v
contains_own v vs = (0, omega arith, refl)

some_of_first : {M : Type 0} (g : PlainDtd) (root : List ℕ) (lists : List (Listed M)) (vs : List Verdict) → AreVerdicts g root lists vs →
    (before : List (Listed M)) (list : Listed M) (after : List (Listed M)) → lists ≡ before ++ list ∷ after → (IsLive g root list → ⊥) → Contains vs verdict.Impossible
some_of_first g root [] vs a [] list after e n = absurd cc
some_of_first g root [] vs a (b ∷ before) list after e n = absurd cc
some_of_first g root (l ∷ lists) vs a [] list after e n =
    let s : list ≡ l = cc in
    let v = not_live g root l a.0 (rw s at n) a.3 in
    rw (a.2, v) (contains_own verdict.Impossible a.1)
some_of_first g root (l ∷ lists) vs a (b ∷ before) list after e n =
    let s : lists ≡ before ++ list ∷ after = cc in
    rw a.2 (contains_more a.0 a.1 verdict.Impossible (some_of_first g root lists a.1 a.4 before list after s n))

pub impossible_has_first : (M : Type 0) → ImpossibleHasFirst M
impossible_has_first M g root lists vs a = (first_of_some g root lists vs a, λ f. some_of_first g root lists vs a f.1.before f.1.list f.1.after f.1.is_split f.1.is_not)
