-- The verdicts of the lists of a document, and the first Impossible one.
use Rattle.std.proofs.Common.{List, None, Option, Some, [], ap, length, refl, slice_get, subst, suc, zero, ℕ, ◌++◌, ◌∙◌, ◌∷◌, ◌≡◌, ◌≢◌}
use Rattle.std.specs.Prelude.{IsNone, MatchOption, ◌↔◌}
use Rattle.std.specs.List.{AllByRecursion}
use Rattle.pv_dtd.specs.Plain.{PlainDtd}
use Rattle.pv_tree.specs.Lists.{Listed, lists_of}
use Rattle.pv_tree.specs.Plain.{PlainDoc}
use Rattle.pv_tree.specs.View.{view}
use Rattle.pv_tree.proofs.JoinedLists.{all_right}
use Rattle.pv_missing.specs.Completions.{IsPotentiallyValid}
use Rattle.pv_missing.specs.DocumentLaws.{IsPotentiallyValidByLists}
use Rattle.pv_dtd.specs.Proper.{IsProperDtd}
use Rattle.pv_missing.specs.Proper.{IsProperDoc}
use Rattle.pv_missing.specs.VerdictLaws.{FirstImpossibleAt}
use Rattle.pv_missing.specs.Verdicts.{AreVerdicts, HaveVerdicts, IsFirstImpossible, IsLive, IsVerdict}
use Rattle.pv_tree.specs.declared.nodes.Mark.{Mark}
use Rattle.pv_tree.specs.declared.nodes.Verdict.{Verdict}
use Rattle.pv_tree.specs.declared.nodes.Verdict.TheVariants as verdict
use Rattle.pv_fresh.specs.Firsts.{IsFirstPath}

pub verdicts_more : {M : Type 0} (g : PlainDtd) (root : List ℕ) (lists : List (Listed M)) (vs : List Verdict) (list : Listed M) (v : Verdict) → AreVerdicts g root lists vs → IsVerdict g root list v →
    AreVerdicts g root (lists ++ list ∷ []) (vs ++ v ∷ [])
verdicts_more g root [] vs list v a j = let none : vs ≡ [] = a in (v, [], rw none refl, j, refl)
verdicts_more g root (l ∷ lists) vs list v a j =
    let more = verdicts_more g root lists a.1 list v a.4 j in
    let whole = a.2 in (a.0, a.1 ++ v ∷ [], rw whole refl, a.3, more)

live_by : (g : PlainDtd) (root : List ℕ) (list : Listed Mark) (v : Verdict) → IsVerdict g root list v → v ≢ verdict.Impossible → IsLive g root list
live_by g root list verdict.Valid j isnt = j.0
live_by g root list verdict.Possible j isnt = j.0
live_by g root list verdict.Impossible j isnt = absurd (isnt refl)

all_live : (g : PlainDtd) (root : List ℕ) (lists : List (Listed Mark)) (vs : List Verdict) →
    AreVerdicts g root lists vs → ((k : ℕ) → slice_get vs k ≢ Some verdict.Impossible) →
    AllByRecursion (IsLive g root) lists
all_live g root [] vs a none = tt
all_live g root (l ∷ lists) vs a none =
    let whole = a.2 in
    (live_by g root l a.0 a.3 (λ e. none 0 (rw whole (ap Some e))), all_live g root lists a.1 a.4 (λ k e. none (suc k) (rw whole e)))

there : (g : PlainDtd) (root : List ℕ) (lists : List (Listed Mark)) (vs : List Verdict) (k : ℕ)
    (v : Verdict) → AreVerdicts g root lists vs → slice_get vs k ≡ Some v → (list : Listed Mark)
    × (slice_get lists k ≡ Some list)
there g root [] vs k v a e = let none : vs ≡ [] = a in let no = rw none at e in absurd cc
there g root (l ∷ lists) vs zero v a e = (l, refl)
there g root (l ∷ lists) vs (suc k) v a e = let whole = a.2 in there g root lists a.1 k v a.4 (rw whole at e)

-- verdicts and the path of the first Impossible list
pub have_verdicts : FirstImpossibleAt Mark →
    (g : PlainDtd) (root : List ℕ) (lists : List (Listed Mark)) (vs : List Verdict)
    (first : Option (List ℕ)) → AreVerdicts g root lists vs → IsFirstPath lists vs first →
    HaveVerdicts g root lists (record { verdicts = vs; first = first })
have_verdicts law g root lists vs None are f = record { are_verdicts = are; is_first = all_live g root lists vs are f }
have_verdicts law g root lists vs (Some path) are f =
    let list = there g root lists vs f.0 verdict.Impossible are f.1.is_there in
    record { are_verdicts = are; is_first = (law g root path lists vs are).1 (f.0, list.0, f.1, list.1, f.2 list.0 list.1) }

-- there are as many verdicts as lists
pub as_many : {M : Type 0} (g : PlainDtd) (root : List ℕ) (lists : List (Listed M)) (vs : List Verdict) → AreVerdicts g root lists vs → length vs ≡ length lists
as_many g root [] vs a = ap length a
as_many g root (list ∷ lists) vs a = ap length a.2 ∙ ap suc (as_many g root lists a.1 a.4)

-- there is no impossible list exactly where the document is potentially valid
pub none_is_possible : {M : Type 0} (by_lists : IsPotentiallyValidByLists M) (g : PlainDtd) (root : List ℕ) (doc : PlainDoc M) (first : Option (List ℕ)) → IsProperDtd g → IsProperDoc doc →
    MatchOption first (AllByRecursion (IsLive g root) (lists_of doc)) (IsFirstImpossible g root (lists_of doc)) → IsNone first ↔ IsPotentiallyValid g root (view doc.root)
none_is_possible by_lists g root doc None p q f = (λ e. (by_lists g root doc p q).1 f, λ v. refl)
none_is_possible by_lists g root doc (Some path) p q f = (
  λ e. absurd cc,
  λ v. absurd (let all = subst (AllByRecursion (IsLive g root)) f.is_split ((by_lists g root doc p q).0 v) in f.is_not (all_right (IsLive g root) f.before (f.list ∷ f.after) all).0),
)
