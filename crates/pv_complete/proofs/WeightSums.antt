-- Walks that add weights, part by part.
use Rattle.std.proofs.Common.{Bool, List, None, Some, [], append-nil, append_assoc, ap, arith, drop, length, refl, sym, zero-add, ℕ, ◌+◌, ◌++◌, ◌<◌}
use Rattle.std.proofs.Common.{◌∙◌, ◌≤◌, ◌∷◌, ◌≡◌, false, inl, inr, suc, true, zero}
use Rattle.std.proofs.lemmas.List.{drop_all, drop_more}
use Rattle.std.proofs.lemmas.Option.{get_or_from_slice_get, slice_get_within}
use Rattle.std.specs.Prelude.{min, slice_get}
use Rattle.pv_dtd.specs.Plain.{PlainDtd}
use Rattle.pv_dtd.specs.Proper.{IsProperDtd}
use Rattle.pv_tree.specs.Lists.{IsFirstNot, Listed, an_element, lists_of, the_document}
use Rattle.pv_model.specs.Plain.{PlainToken}
use Rattle.pv_tree.specs.Plain.{Forest, PlainDoc}
use Rattle.pv_tree.specs.Words.{word_of}
use Rattle.pv_tree.specs.View.{view}
use Rattle.pv_tree.proofs.JoinedLists.{all_joined}
use Rattle.pv_tree.proofs.FirstLists.{first_before, first_behind}
use Rattle.pv_tree.specs.declared.nodes.Mark.{Mark}
use Rattle.pv_tree.specs.declared.nodes.Verdict.{Verdict}
use Rattle.pv_tree.specs.declared.nodes.Verdict.TheVariants as verdict
use Rattle.pv_rules.specs.Derivations.{IsWeight, heaviest}
use Rattle.pv_rules.specs.Rules.{Rule}
use Rattle.pv_rules.specs.Sites.{PlainSite}
use Rattle.pv_missing.specs.LiveWords.{IsLiveWord}
use Rattle.pv_missing.specs.Completions.{IsPotentiallyValid}
use Rattle.pv_missing.specs.Proper.{IsProperDoc}
use Rattle.pv_missing.specs.Verdicts.{AreVerdicts, IsLiveBy, IsVerdict, is_possible}
use Rattle.pv_missing.specs.ListWeights.{site_of, whole}
use Rattle.pv_missing.specs.Widths.{IsListForWeights}
use Rattle.pv_missing.proofs.Verdict.{one_verdict}
use Rattle.pv_tables.specs.WeightLaws.{LiveWeighs, PossibleWeigh, PossibleWeightsAddUp}
use Rattle.pv_complete.specs.Loads.{LoadsMore, AddsUp, PlainLoad, StopsAtList, UsesVerdict}
use Rattle.pv_complete.specs.NeededElements.{AreListsForVerdicts, CanWeigh, IsHeavy, Needs}
use Rattle.pv_complete.specs.NeededElements.{WeighsIn}

-- the verdict that is next, and those after it
pub drop_next : (vs : List Verdict) (k n : ℕ) (v : Verdict) → slice_get vs k ≡ Some v → n ≡ k + 1 → drop k vs ≡ v ∷ drop n vs
drop_next vs k n v e f =
    let more = drop_more vs k v (slice_get_within vs k v e) in
    let here = get_or_from_slice_get vs k v v e in
    more ∙ rw (here, f) refl

pub drop_none : (vs : List Verdict) (k : ℕ) → slice_get vs k ≡ None → drop k vs ≡ []
drop_none vs k e = drop_all k vs (past vs k e)
  where
    past : (xs : List Verdict) (i : ℕ) → slice_get xs i ≡ None → length xs ≤ i
    past [] i e = omega arith
    past (x ∷ xs) zero e = absurd cc
    past (x ∷ xs) (suc i) e = let p = past xs i e in omega arith

module _ (g : PlainDtd) (root : List ℕ) (vs : List Verdict) where
  pub adds_nothing : (at : PlainLoad) → at.total ≤ heaviest → AddsUp g root [] vs at at
  adds_nothing at few more are = record {
    left = are;
    sum = 0;
    total = omega arith;
    weigh = λ b w. rw (zero-add b) w;
    weighed = tt;
  }

  pub adds_on : (lists others : List (Listed Mark)) (old middle new : PlainLoad) → AddsUp g root lists vs old middle → AddsUp g root others vs middle new →
      AddsUp g root (lists ++ others) vs old new
  adds_on lists others old middle new f h more are = record {
    left = b.left;
    sum = a.sum + b.sum;
    total = let x = a.total in let y = b.total in omega arith;
    weigh = λ n w. let e : (a.sum + b.sum) + n ≡ a.sum + (b.sum + n) = omega arith in rw (append_assoc lists others more, e) (a.weigh (b.sum + n) (b.weigh n w));
    weighed = all_joined (CanWeigh g root) lists others a.weighed b.weighed;
  }
    where
      a : LoadsMore g root lists (others ++ more) vs old middle
      a = f (others ++ more) (rw append_assoc at are)

      b : LoadsMore g root others more vs middle new
      b = h more a.left

  -- a list that isn't Possible
  pub adds_none : (list : Listed Mark) (v : Verdict) (old new : PlainLoad) → drop old.used vs ≡ v ∷ drop new.used vs → (v ≡ verdict.Possible → ⊥) → new.total ≡ old.total → old.total ≤ heaviest →
      AddsUp g root (list ∷ []) vs old new
  adds_none list v old new next not same few more (u, rest, e, is, others) = record {
    left = rw tail at others;
    sum = 0;
    total = omega arith;
    weigh = λ b w. rw (next, zero-add b) (skipped v not more (drop new.used vs) b w);
    weighed = ((λ p. absurd (not (one_verdict Mark g root list v verdict.Possible (rw head at is) p))), tt);
  }
    where
      head : u ≡ v
      head = cc (e, next)

      tail : rest ≡ drop new.used vs
      tail = cc (e, next)

      skipped : (o : Verdict) → (o ≡ verdict.Possible → ⊥) → (lists : List (Listed Mark)) (us : List Verdict) (b : ℕ) → PossibleWeigh g root lists us b → PossibleWeigh g root (list ∷ lists) (o ∷ us) b
      skipped verdict.Valid n lists us b w = w
      skipped verdict.Possible n lists us b w = absurd (n refl)
      skipped verdict.Impossible n lists us b w = w

  -- a Possible list, and its weight
  pub adds_weight : (list : Listed Mark) (k : ℕ) (old new : PlainLoad) → drop old.used vs ≡ verdict.Possible ∷ drop new.used vs → LiveWeighs g root list k → IsListForWeights g list →
      new.total ≡ min heaviest (old.total + k) → AddsUp g root (list ∷ []) vs old new
  adds_weight list k old new next weighs fits total more (u, rest, e, is, others) = record {
    left = let tail : rest ≡ drop new.used vs = cc (e, next) in rw tail at others;
    sum = k;
    total = total;
    weigh = λ b w. rw next (k, b, refl, weighs, w);
    weighed = ((λ p. fits), tt);
  }

  -- a list whose verdict is wanted has one
  pub adds_past : (list : Listed Mark) (old new : PlainLoad) → drop old.used vs ≡ [] → AddsUp g root (list ∷ []) vs old new
  adds_past list old new none more (u, rest, e, is, others) = absurd cc

  pub live_site : (list : Listed Mark) → IsLiveBy g root list.owner list.kids → site_of g root list.owner ≡ None → ⊥
  live_site list live none = no_site list.owner live none
    where
      no_site : (o : _) → IsLiveBy g root o list.kids → site_of g root o ≡ None → ⊥
      no_site the_document l e = let n = l.is_owner in let s = rw n at e in cc
      no_site (an_element x) l e = let n = l.is_owner in let s = rw n at e in cc

  -- the owner of a Possible list has a site
  pub adds_no_owner : (list : Listed Mark) (old new : PlainLoad) → drop old.used vs ≡ verdict.Possible ∷ drop new.used vs → site_of g root list.owner ≡ None → AddsUp g root (list ∷ []) vs old new
  adds_no_owner list old new next none more (u, rest, e, is, others) =
      let head : u ≡ verdict.Possible = cc (e, next) in let p : IsVerdict g root list verdict.Possible = rw head at is in absurd (live_site list p.0 none)

  pub stops_here : (list : Listed Mark) (rest : List Verdict) (old : PlainLoad) →
      drop old.used vs ≡ verdict.Possible ∷ rest → (IsListForWeights g list → ⊥) →
      StopsAtList g root (list ∷ []) vs old list.path
  stops_here list rest old next wide more (u, others, e, is, are) = record {
    before = [];
    list = list;
    after = [];
    is_split = refl;
    all_before = tt;
    is_not = λ can. wide (can (let head : u ≡ verdict.Possible = cc (e, next) in rw head at is));
    is_path = refl;
  }

  pub stops_before : (lists others : List (Listed Mark)) (old : PlainLoad) (path : List ℕ) → StopsAtList g root lists vs old path → StopsAtList g root (lists ++ others) vs old path
  stops_before lists others old path f more are = first_before (CanWeigh g root) lists others path (f (others ++ more) (rw append_assoc at are))

  pub stops_behind : (lists others : List (Listed Mark)) (old middle : PlainLoad) (path : List ℕ) → AddsUp g root lists vs old middle → StopsAtList g root others vs middle path →
      StopsAtList g root (lists ++ others) vs old path
  stops_behind lists others old middle path f h more are =
      let a = f (others ++ more) (rw append_assoc at are) in
      first_behind (CanWeigh g root) lists others path a.weighed (h more a.left)

module _ (g : PlainDtd) (root : List ℕ) where
  at_start : (lists : List (Listed Mark)) (vs : List Verdict) (old : PlainLoad) → old.used ≡ 0 → AreVerdicts g root lists vs → AreVerdicts g root (lists ++ []) (drop old.used vs)
  at_start lists vs old none are = rw (append-nil lists, none) are

  in_all : (lists : List (Listed Mark)) (vs : List Verdict) (old : PlainLoad) (s : ℕ) → old.used ≡ 0 → PossibleWeigh g root (lists ++ []) (drop old.used vs) s → PossibleWeigh g root lists vs s
  in_all lists vs old s none w = rw (append-nil lists, none) at w

  -- where a walk over all lists stops
  pub stops_in : (lists : List (Listed Mark)) (vs : List Verdict) (old : PlainLoad)
      (path : List ℕ) → old.used ≡ 0 → AreVerdicts g root lists vs →
      StopsAtList g root lists vs old path → IsFirstNot (CanWeigh g root) lists path
  stops_in lists vs old path none are f = f [] (at_start lists vs old none are)

  -- what a walk over all lists has added is the least number, cut
  pub weighs_in : PossibleWeightsAddUp Mark → (doc : PlainDoc Mark) (vs : List Verdict) (old new : PlainLoad) → IsProperDtd g → IsProperDoc doc →
      AreVerdicts g root (lists_of doc) vs → IsPotentiallyValid g root (view doc.root) → AreListsForVerdicts g doc → old.used ≡ 0 → old.total ≡ 0 →
      AddsUp g root (lists_of doc) vs old new → WeighsIn g root doc new.total
  weighs_in law doc vs old new proper proper_doc are possible narrow none nil f = record {
    can = record { narrow = narrow; possible = possible; weighed = a.weighed };
    sum = a.sum;
    is_cut = let t = a.total in omega arith;
    least = law g root doc vs a.sum proper proper_doc are possible w;
  }
    where
      a : LoadsMore g root (lists_of doc) [] vs old new
      a = f [] (at_start (lists_of doc) vs old none are)

      w : PossibleWeigh g root (lists_of doc) vs a.sum
      w = let e : a.sum + 0 ≡ a.sum = omega arith in in_all (lists_of doc) vs old a.sum none (rw e at (a.weigh 0 refl))

-- the sum is the least number where it isn't cut
pub needs_of : (g : PlainDtd) (root : List ℕ) (doc : PlainDoc Mark) (k n : ℕ) → WeighsIn g root doc k → n ≡ k → k < heaviest → Needs g root doc n
needs_of g root doc k n w e few = record {
  can = w.can;
  least = record {
    completes = rw same (w.least.reached (let c = w.is_cut in omega arith));
    least = λ m h. let le = w.least.below m h in omega arith;
  };
  light = omega arith;
}
  where
    same : n ≡ w.sum
    same = let c = w.is_cut in omega arith

pub heavy_of : (g : PlainDtd) (root : List ℕ) (doc : PlainDoc Mark) (k : ℕ) → WeighsIn g root doc k → heaviest ≤ k → IsHeavy g root doc
heavy_of g root doc k w many = record { can = w.can; heavy = λ n h. let le = w.least.below n h in let c = w.is_cut in omega arith }

-- the weight of a list by the word of its kids
pub weighs_by : (g : PlainDtd) (root : List ℕ) (list : Listed Mark) (kids : Forest Mark) (s : PlainSite) (k : ℕ) → list.kids ≡ kids → site_of g root list.owner ≡ Some s →
    (live : List PlainToken) × IsLiveWord g (word_of g kids) live × IsWeight (Rule g live) (whole s live) k → LiveWeighs g root list k
weighs_by g root list kids s k e f (live, is, w) = (s, live, f, rw e is, w)

module _ (g : PlainDtd) (root : List ℕ) (vs : List Verdict) (list : Listed Mark) (old new : PlainLoad) where
  -- a list whose verdict isn't Possible, or hasn't come
  pub adds_other : UsesVerdict vs old.used new.used false → new.total ≡ old.total → old.total ≤ heaviest → AddsUp g root (list ∷ []) vs old new
  adds_other (inl none) same few = adds_past g root vs list old new none
  adds_other (inr (v, next, not)) same few = adds_none g root vs list v old new next not same few

not_possible : (v : Verdict) → is_possible v ≡ false → v ≡ verdict.Possible → ⊥
not_possible verdict.Valid e f = cc
not_possible verdict.Possible e f = cc
not_possible verdict.Impossible e f = cc

only_possible : (v : Verdict) → is_possible v ≡ true → v ≡ verdict.Possible
only_possible verdict.Valid e = absurd cc
only_possible verdict.Possible e = refl
only_possible verdict.Impossible e = absurd cc

pub takes_next : (vs : List Verdict) (k n : ℕ) (v : Verdict) (b : Bool) → slice_get vs k ≡ Some v → n ≡ k + 1 → b ≡ is_possible v → UsesVerdict vs k n b
takes_next vs k n v true e f h = let p = only_possible v (sym h) in drop_next vs k n v e f ∙ ap (λ x. x ∷ drop n vs) p
takes_next vs k n v false e f h = inr (v, drop_next vs k n v e f, not_possible v (sym h))
