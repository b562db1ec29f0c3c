-- What is missing in a document, whatever its marks are, and what a session can't be told of it.
use Rattle.std.proofs.Common.{◌≡◌, ◌⊎◌, inl, inr, List, None, Some, refl, subst, sym, ℕ}
use Rattle.std.specs.Prelude.{◌↔◌}
use Rattle.std.proofs.Math.Logic.{∥∥₁_map}
use Rattle.std.specs.List.{AllByRecursion}
use Rattle.pv_cache.specs.Rows.{TellVerdicts}
use Rattle.pv_cache.specs.Stamps.{doc_as, stamp_of, stamps_of}
use Rattle.pv_cache.proofs.ListMarks.{all_as, all_narrow_from, all_narrow_to, first_as, first_to, list_as, lists_as, verdicts_from}
use Rattle.pv_cache.proofs.OtherMarks.{heads_as, word_as}
use Rattle.pv_reach.proofs.OtherMarks.{view_as}
use Rattle.pv_complete.specs.NeededElements.{AreLiveVerdicts, CanNeed, CanWeigh, HasCause, Needs}
use Rattle.pv_complete.specs.NeededElements.{StopsAtImpossible, StopsAtWide}
use Rattle.pv_complete.specs.declared.errors.NeedError.{NeedError}
use Rattle.pv_complete.specs.declared.errors.NeedError.TheVariants.{Impossible, NoMemory, TooHeavy, TooMany, TooWide}
use Rattle.pv_dtd.specs.Plain.{PlainDtd}
use Rattle.pv_dtd.specs.Proper.{IsProperDtd}
use Rattle.pv_missing.proofs.DocLists.{live_locality}
use Rattle.pv_missing.proofs.VerdictHeads.{verdict_by_heads}
use Rattle.pv_missing.specs.Widths.{IsFirstTooWide, IsListForVerdict, IsListForWeights}
use Rattle.pv_missing.specs.Completions.{IsPotentiallyValid}
use Rattle.pv_fresh.specs.Answers.{IsImpossibleAt}
use Rattle.pv_missing.specs.Verdicts.{AreVerdicts, HaveVerdicts, IsFirstImpossible, IsLive, PlainVerdicts}
use Rattle.pv_session.specs.SessionFacts.{IsSession}
use Rattle.pv_session.specs.Sessions.{PlainSession, stamped_document}
use Rattle.pv_tree.specs.Lists.{Listed, lists_of}
use Rattle.pv_tree.specs.Plain.{PlainDoc}
use Rattle.pv_tree.specs.View.{view}
use Rattle.pv_tree.specs.declared.nodes.Mark.{Mark}
use Rattle.pv_tree.specs.declared.nodes.Verdict.TheVariants as verdict
use Rattle.pv_opening.proofs.OnePossibility.{none_first}

module _ {M N : Type 0} (f : M → N) (g : PlainDtd) (root : List ℕ) where
  weigh_to : (list : Listed M) → CanWeigh g root list → CanWeigh g root (list_as f list)
  weigh_to list can judged =
      let fits : IsListForWeights g list = can ((verdict_by_heads N M g root (list_as f list) list verdict.Possible refl (heads_as f list.kids)).0 judged) in
      rw (word_as f g list.kids) fits

  weigh_from : (list : Listed M) → CanWeigh g root (list_as f list) → CanWeigh g root list
  weigh_from list can judged =
      let fits : IsListForWeights g (list_as f list) = can ((verdict_by_heads M N g root list (list_as f list) verdict.Possible refl (sym (heads_as f list.kids))).0 judged) in
      rw (word_as f g list.kids) at fits

  narrow_to : (list : Listed M) → IsListForVerdict g list → IsListForVerdict g (list_as f list)
  narrow_to list fits = rw (word_as f g list.kids) fits

  narrow_from : (list : Listed M) → IsListForVerdict g (list_as f list) → IsListForVerdict g list
  narrow_from list fits = rw (word_as f g list.kids) at fits

  module _ (doc : PlainDoc M) where
    can_need_as : CanNeed g root doc → CanNeed g root (doc_as f doc)
    can_need_as can = record {
      narrow = all_narrow_to f doc g can.narrow;
      possible = rw (view_as f doc.root) can.possible;
      weighed = subst (AllByRecursion (CanWeigh g root)) (sym (lists_as f doc)) (all_as f (CanWeigh g root) (CanWeigh g root) weigh_to (lists_of doc) can.weighed);
    }

    pub needs_as : (n : ℕ) → Needs g root doc n → Needs g root (doc_as f doc) n
    needs_as n needs = record { can = can_need_as needs.can; least = rw (view_as f doc.root) needs.least; light = needs.light }

    impossible_as : (path : List ℕ) → StopsAtImpossible g root doc path → StopsAtImpossible g root (doc_as f doc) path
    impossible_as path stops = record { narrow = all_narrow_to f doc g stops.narrow; first = first_to f doc g root path stops.first }

    pub wide_as : (path : List ℕ) → StopsAtWide g root doc path → StopsAtWide g root (doc_as f doc) path
    wide_as path stops = record {
      narrow = all_narrow_to f doc g stops.narrow;
      possible = rw (view_as f doc.root) stops.possible;
      first = rw (lists_as f doc) (first_as f (CanWeigh g root) (CanWeigh g root) weigh_to weigh_from (lists_of doc) path stops.first);
    }

    too_wide_as : (path : List ℕ) → IsFirstTooWide g (lists_of doc) path → IsFirstTooWide g (lists_of (doc_as f doc)) path
    too_wide_as path first = rw (lists_as f doc) (first_as f (IsListForVerdict g) (IsListForVerdict g) narrow_to narrow_from (lists_of doc) path first)

    pub cause_as : (e : NeedError) → HasCause g root doc e → HasCause g root (doc_as f doc) e
    cause_as (Impossible path) stops = impossible_as path stops
    cause_as (TooWide path) (inl first) = inl (too_wide_as path first)
    cause_as (TooWide path) (inr stops) = inr (wide_as path stops)
    cause_as TooHeavy heavy = record { can = can_need_as heavy.can; heavy = rw (view_as f doc.root) heavy.heavy }
    cause_as TooMany none = absurd none
    cause_as NoMemory none = tt

-- ---- a session whose DTD is proper
module _ (s : PlainSession) (is : IsSession s) (proper : IsProperDtd s.dtd) where
  -- its document is potentially valid exactly where each list is live
  abbrev by_lists : IsPotentiallyValid s.dtd s.root (view s.doc.root) ↔ AllByRecursion (IsLive s.dtd s.root) (lists_of s.doc)
  by_lists = live_locality ℕ s.dtd s.root s.doc proper (record { rooted = is.kept.rooted; units = is.kept.units })

  impossible_here : (path : List ℕ) → IsFirstImpossible s.dtd s.root (lists_of s.doc) path → IsImpossibleAt s.root s.dtd s.doc path
  impossible_here path first = record {
    narrow = is.holdable.narrow;
    impossible = λ possible. none_first (IsLive s.dtd s.root) (lists_of s.doc) path (by_lists.0 possible) first;
    first = first;
  }

  -- the first impossible list of its document, where it is told
  pub impossible_told : (path : List ℕ) → ∥ StopsAtImpossible s.dtd s.root s.doc path ∥₁ → ∥ IsImpossibleAt s.root s.dtd s.doc path ∥₁
  impossible_told path stops = ∥∥₁_map stops (λ stops. impossible_here path stops.first)

  pub told_impossible : (vs : PlainVerdicts) (path : List ℕ) → vs.first ≡ Some path → TellVerdicts (stamped_document s) vs → ∥ IsImpossibleAt s.root s.dtd s.doc path ∥₁
  told_impossible vs path e tell = ∥∥₁_map tell (λ have. let first : IsFirstImpossible s.dtd s.root (lists_of s.doc) path = rw e at have.is_first in impossible_here path first)

  all_live : (vs : PlainVerdicts) → vs.first ≡ None → HaveVerdicts s.dtd s.root (lists_of s.doc) vs → AllByRecursion (IsLive s.dtd s.root) (lists_of s.doc)
  all_live vs none have = rw none at have.is_first

-- What the verdicts that a session tells, none of them Impossible, tell of its document: it is this one, whatever its marks are.
module _ (s : PlainSession) (g : PlainDtd) (root : List ℕ) (doc : PlainDoc Mark)
    (vs : PlainVerdicts) (same_dtd : g ≡ s.dtd) (same_root : root ≡ s.root)
    (same_doc : stamps_of doc ≡ s.doc) (is : IsSession s)
    (proper : IsProperDtd s.dtd) (tell : TellVerdicts (stamped_document s) vs) (none : vs.first ≡ None) where
  narrow_lists : AllByRecursion (IsListForVerdict s.dtd) (lists_of doc)
  narrow_lists = all_narrow_from stamp_of doc s.dtd (subst (λ (d : PlainDoc ℕ). AllByRecursion (IsListForVerdict s.dtd) (lists_of d)) (sym same_doc) is.holdable.narrow)

  can_be_valid : IsPotentiallyValid s.dtd s.root (view s.doc.root) → IsPotentiallyValid s.dtd s.root (view doc.root)
  can_be_valid possible =
      let of_stamps : IsPotentiallyValid s.dtd s.root (view (stamps_of doc).root) = subst (λ (d : PlainDoc ℕ). IsPotentiallyValid s.dtd s.root (view d.root)) (sym same_doc) possible in
      rw (view_as stamp_of doc.root) at of_stamps

  are_verdicts : AreVerdicts s.dtd s.root (lists_of s.doc) vs.verdicts → AreVerdicts s.dtd s.root (lists_of doc) vs.verdicts
  are_verdicts are = verdicts_from stamp_of doc s.dtd s.root vs.verdicts (subst (λ (d : PlainDoc ℕ). AreVerdicts s.dtd s.root (lists_of d) vs.verdicts) (sym same_doc) are)

  pub live_verdicts : ∥ AreLiveVerdicts g root doc vs.verdicts ∥₁
  live_verdicts =
      rw (same_dtd, same_root)
      (∥∥₁_map tell (λ have. record { narrow = narrow_lists; possible = can_be_valid ((by_lists s is proper).1 (all_live s is proper vs none have)); verdicts = are_verdicts have.are_verdicts }))

  pub needs_told : (n : ℕ) → (AreLiveVerdicts g root doc vs.verdicts → Needs g root doc n) → ∥ Needs s.dtd s.root s.doc n ∥₁
  needs_told n f = ∥∥₁_map live_verdicts (λ live. rw (same_dtd, same_root, same_doc) at (needs_as stamp_of g root doc n (f live)))

  pub cause_told : (e : NeedError) → (AreLiveVerdicts g root doc vs.verdicts → HasCause g root doc e) → ∥ HasCause s.dtd s.root s.doc e ∥₁
  cause_told e f = ∥∥₁_map live_verdicts (λ live. rw (same_dtd, same_root, same_doc) at (cause_as stamp_of g root doc e (f live)))

-- no list of it is too wide for a verdict
not_too_wide : (s : PlainSession) (path : List ℕ) → IsSession s → IsFirstTooWide s.dtd (lists_of s.doc) path ⊎ StopsAtWide s.dtd s.root s.doc path → StopsAtWide s.dtd s.root s.doc path
not_too_wide s path is (inl first) = absurd (none_first (IsListForVerdict s.dtd) (lists_of s.doc) path is.holdable.narrow first)
not_too_wide s path is (inr stops) = stops

pub wide_for_weights : (s : PlainSession) (path : List ℕ) → IsSession s →
    ∥ IsFirstTooWide s.dtd (lists_of s.doc) path ⊎ StopsAtWide s.dtd s.root s.doc path ∥₁ →
    ∥ StopsAtWide s.dtd s.root s.doc path ∥₁
wide_for_weights s path is stops = ∥∥₁_map stops (not_too_wide s path is)
