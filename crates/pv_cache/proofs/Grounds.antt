-- Why a change isn't accepted, as the ground of an edit.
use Rattle.std.proofs.Common.{List, None, Option, ap, arith, false, true, subst, sym, ℕ, ◌+◌, ◌≡◌}
use Rattle.std.proofs.Common.{◌≤◌, ◌<◌}
use Rattle.std.proofs.Math.Logic.{∥∥₁_map}
use Rattle.std.specs.List.{AllByRecursion}
use Rattle.pv_dtd.specs.Plain.{PlainDtd}
use Rattle.pv_edit.specs.BroughtElements.{BringsBare, lists_changed}
use Rattle.pv_edit.specs.ChangedLists.{changed_lists, makes}
use Rattle.pv_edit.specs.Changes.{Change, doc_after}
use Rattle.pv_edit.specs.Effects.{change_of}
use Rattle.pv_edit.specs.FittingChanges.{CanChange}
use Rattle.pv_edit.specs.Reasons.{edit_outcome, gives, is_top, kids_at, outcome, reason_of}
use Rattle.pv_edit.specs.declared.answers.EditAnswer.{EditAnswer}
use Rattle.pv_edit.specs.declared.answers.EditAnswer.TheVariants.{Impossible, Limit, NoMemory}
use Rattle.pv_edit.specs.declared.answers.EditAnswer.TheVariants.{Shape}
use Rattle.pv_edit.specs.declared.edits.Edit.{Edit}
use Rattle.pv_edit.specs.declared.reasons.Reason.{Reason}
use Rattle.pv_edit.proofs.ListsKeptByUndo.{can-made}
use Rattle.pv_missing.specs.Verdicts.{HaveImpossible, HavePossible, is_impossible}
use Rattle.pv_missing.proofs.Counts.{same_counts}
use Rattle.pv_tree.specs.Lists.{lists_of}
use Rattle.pv_tree.specs.Marks.{blank_mark}
use Rattle.pv_tree.specs.Plain.{PlainDoc, nodes_in}
use Rattle.pv_tree.specs.declared.nodes.Mark.{Mark}
use Rattle.pv_tree.specs.declared.nodes.Verdict.{Verdict}
use Rattle.pv_cache.specs.AcceptedEdits.{GetsNoWorse, GetsWorse, HaveBoth, IsAccepted, IsHoldable}
use Rattle.pv_cache.specs.AcceptedEdits.{IsNarrowAt, IsWithinLimits, MAX_EDITED_NODES}
use Rattle.pv_cache.specs.BadLists.{bad_gained, bad_lost}
use Rattle.pv_cache.specs.VerdictsAfterChange.{AreJudged, IsFirstImpossibleAt, owner_at}
use Rattle.pv_cache.specs.MarkedTasks.{IsUnaccepted}
use Rattle.pv_cache.specs.Updates.{update_doc}
use Rattle.pv_cache.specs.Moves.{HasGround}
use Rattle.pv_cache.specs.WellMarked.{IsWellMarked, told_bad, verdicts_told}
use Rattle.pv_cache.specs.declared.updates.InnerVerdict.{InnerVerdict}
use Rattle.pv_cache.proofs.ImpossibleCounts.{updated-counted}
use Rattle.pv_cache.proofs.Docs.{updated-marked}
use Rattle.pv_cache.proofs.FirstChangedList.{first-is-first}
use Rattle.pv_cache.proofs.Limits.{narrow_paths, paths_narrow}
use Rattle.pv_cache.proofs.Tasks.{judged-narrow}
use Rattle.pv_cache.proofs.TreeMarks.{doc-bad, doc-left, doc-narrow, doc-told}
use Rattle.pv_cache.proofs.MarksAlone.{doc-as}

module _ (g : PlainDtd) (root : List ℕ) where
  -- ---- a well marked document
  pub marked_holdable : (doc : PlainDoc Mark) → nodes_in doc.root ≤ MAX_EDITED_NODES →
      ∥ IsWellMarked g root doc ∥₁ → ∥ IsHoldable g doc ∥₁
  marked_holdable doc few w =
      ∥∥₁_map w (λ w. record { narrow = doc-narrow g root doc w; few = few })

  pub marked_open : (doc : PlainDoc Mark) → ∥ IsWellMarked g root doc ∥₁ →
      ∥ HavePossible g root (lists_of doc) doc.mark.left ∥₁
  marked_open doc w =
      ∥∥₁_map w (λ w. record {
        verdicts = verdicts_told doc;
        are_verdicts = doc-told g root doc w;
        count = doc-left g root doc w;
      })

  pub bad_of : (doc : PlainDoc Mark) → IsWellMarked g root doc →
      HaveImpossible g root (lists_of doc) (told_bad doc)
  bad_of doc w =
      record {
        verdicts = verdicts_told doc;
        are_verdicts = doc-told g root doc w;
        count = doc-bad doc;
      }

  pub marked_bad : (doc : PlainDoc Mark) → ∥ IsWellMarked g root doc ∥₁ →
      ∥ HaveImpossible g root (lists_of doc) (told_bad doc) ∥₁
  marked_bad doc w = ∥∥₁_map w (bad_of doc)

  -- ---- a change whose lists have these verdicts
  module _ (doc : PlainDoc Mark) (c : Change Mark) (can : CanChange c.list c doc.root)
      (unshort : is_top c.list ≡ true → c.shorten ≡ false) (bare : BringsBare c.filling)
      (v : Verdict) (i : Option InnerVerdict)
      (j : AreJudged g root (owner_at c.list doc.root) (kids_at c.list doc.root) c v i) where
    abbrev new : PlainDoc Mark
    new = update_doc c.list v i 0 (doc_after c doc)

    -- so many lists are Impossible before and after
    have_both : IsWellMarked g root doc →
        HaveBoth g root doc (doc_after c doc) (told_bad doc) (told_bad new)
    have_both w = record {
      had = bad_of doc w;
      has =
          same_counts Mark Mark is_impossible g root new (doc_after c doc) (told_bad new)
          (doc-as c.list v i 0 (doc_after c doc))
          (bad_of new (updated-marked g root doc c v i 0 w can unshort bare j));
    }

    abbrev counted : told_bad new + bad_lost c doc ≡ told_bad doc + bad_gained v i
    counted = updated-counted g root doc c v i 0 can unshort bare j

    pub gets_no_worse : bad_gained v i ≤ bad_lost c doc → ∥ IsWellMarked g root doc ∥₁ →
        ∥ GetsNoWorse g root doc (doc_after c doc) ∥₁
    gets_no_worse n w =
        ∥∥₁_map w (λ w. (told_bad doc, told_bad new, have_both w, (let k = counted in omega arith)))

    pub gets_worse : bad_lost c doc < bad_gained v i → ∥ IsWellMarked g root doc ∥₁ →
        ∥ GetsWorse g root doc (doc_after c doc) ∥₁
    gets_worse n w =
        ∥∥₁_map w (λ w. (told_bad doc, told_bad new, have_both w, (let k = counted in omega arith)))

  -- ---- a change that an edit makes
  module _ (doc : PlainDoc Mark) (edit : Edit)
      (given : reason_of blank_mark doc.root edit ≡ None) where
    abbrev c : Change Mark
    c = change_of blank_mark doc.root edit

    pub is_given : edit_outcome blank_mark doc edit ≡ gives (doc_after c doc)
    is_given = ap (λ (o : Option Reason). outcome o (doc_after c doc)) given

    module _ (lists : lists_changed c ≡ changed_lists (makes edit)) where
      pub many_ground : (MAX_EDITED_NODES < nodes_in (doc_after c doc).root) →
          HasGround blank_mark g root doc edit Limit
      many_ground n = (doc_after c doc, is_given, λ w. let h = w.few in omega arith)

      module _ (can : CanChange c.list c doc.root) (unshort : is_top c.list ≡ true →
          c.shorten ≡ false) (bare : BringsBare c.filling)
          (few : nodes_in (doc_after c doc).root ≤ MAX_EDITED_NODES) where
        narrow_within : AllByRecursion (IsNarrowAt g (doc_after c doc)) (lists_changed c) →
            IsWithinLimits g (doc_after c doc) (changed_lists (makes edit))
        narrow_within n =
            record {
              few = few;
              narrow = subst (AllByRecursion (IsNarrowAt g (doc_after c doc))) lists n;
            }

        pub refused_ground : ∥ IsWellMarked g root doc ∥₁ → (a : EditAnswer) →
            IsUnaccepted g root doc c a → HasGround blank_mark g root doc edit a
        refused_ground w (Shape reason) u = absurd u
        refused_ground w (Impossible path) u =
            let d = can-made doc.mark c.list c doc.root can unshort in
            let worse = u.1 in
            let first =
            first-is-first g root doc c worse.verdict worse.inner path can unshort bare worse.judged
            worse.first in (
              doc_after c doc,
              is_given,
              narrow_within (narrow_paths g doc c bare d.0 d.1 u.0),
              gets_worse doc c can unshort bare worse.verdict worse.inner worse.judged worse.more w,
              ∣ subst (λ (ls : List (List ℕ)).
                  IsFirstImpossibleAt g root (doc_after c doc) ls path) lists first ∣₁,
            )
        refused_ground w Limit u =
            let d = can-made doc.mark c.list c doc.root can unshort in (
              doc_after c doc,
              is_given,
              λ h.
                  u (paths_narrow g doc c bare d.0 d.1
                  (subst (AllByRecursion (IsNarrowAt g (doc_after c doc))) (sym lists) h.narrow)),
            )
        refused_ground w NoMemory u = tt

        -- it is accepted where no more lists are Impossible afterwards
        pub is_accepted : (v : Verdict) (i : Option InnerVerdict) →
            AreJudged g root (owner_at c.list doc.root) (kids_at c.list doc.root) c v i →
            bad_gained v i ≤ bad_lost c doc → ∥ IsWellMarked g root doc ∥₁ →
            IsAccepted blank_mark g root doc edit (doc_after c doc)
        is_accepted v i j n w =
            let d = can-made doc.mark c.list c doc.root can unshort in
            record {
              is_edited = is_given;
              within =
                  narrow_within
                  (narrow_paths g doc c bare d.0 d.1
                  (judged-narrow g root doc c can unshort v i j));
              no_worse = gets_no_worse doc c can unshort bare v i j n w;
            }
