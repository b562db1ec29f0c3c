-- Leaving the tags of marked elements out of events is leaving the elements out of hedges.
use Rattle.std.proofs.Common.{List, [], append-nil, ap, refl, subst, sym, ℕ, ◌+◌, ◌++◌, ◌∙◌, ◌∷◌, ◌≡◌}
use Rattle.pv_tree.specs.declared.nodes.Mark.{Mark}
use Rattle.pv_missing.specs.Completions.{LeavesOut}
use Rattle.pv_flat.specs.Plain.{events_of}
use Rattle.pv_tree.specs.Plain.{Tree}
use Rattle.pv_chars.specs.Laws.{UnitsAreDetermined}
use Rattle.pv_dtd.specs.Hedge.{elements}
use Rattle.pv_tree.specs.View.{view}
use Rattle.pv_compare.specs.LeftOut.{EventsLeaveOut, HasUnitTexts, LeavesEvents, bytewise, kept_events, marks_left}
use Rattle.pv_compare.proofs.LeftOutHedges.{Leaves, leaves, runs, shown}
use Rattle.pv_compare.proofs.OneHedge.{one-hedge}
use Rattle.pv_compare.proofs.ShownEvents.{kept-bytewise, left-bytewise, out-units, shown-tree, units-tree}

module _ (marks : List ℕ) (t all : Tree Mark) where
  kept-is : bytewise (kept_events 0 marks [] (events_of all)) ≡ bytewise (kept_events 0 marks [] (shown (view all)))
  kept-is = kept-bytewise 0 marks [] (events_of all) ∙ ap (kept_events 0 marks []) (sym (shown-tree all)) ∙ sym (kept-bytewise 0 marks [] (shown (view all)))

  left-is : marks_left 0 marks (events_of all) ≡ marks_left 0 marks (shown (view all))
  left-is = left-bytewise 0 marks (events_of all) ∙ ap (marks_left 0 marks) (sym (shown-tree all)) ∙ sym (left-bytewise 0 marks (shown (view all)))

  to-events : LeavesOut 0 (elements (view all)) marks (view t) (view all) → LeavesEvents marks (events_of all) (events_of t)
  to-events o =
      let r = runs o [] tt in
      let kept : kept_events 0 marks [] (shown (view all)) ≡ shown (view t) =
      ap (λ ms. kept_events 0 ms [] (shown (view all))) (sym (append-nil marks))
      ∙ ap (kept_events 0 (marks ++ []) []) (sym (append-nil (shown (view all)))) ∙ r.kept [] []
      ∙ append-nil (shown (view t)) in
      let left : marks_left 0 marks (shown (view all)) ≡ [] =
      ap (λ ms. marks_left 0 ms (shown (view all))) (sym (append-nil marks)) ∙ ap (marks_left 0 (marks ++ [])) (sym (append-nil (shown (view all)))) ∙ r.left [] in
      record { none_left = left-is ∙ left; same = kept-is ∙ ap bytewise kept ∙ shown-tree t }

  to-hedges : UnitsAreDetermined → HasUnitTexts t → HasUnitTexts all → LeavesEvents marks (events_of all) (events_of t) → LeavesOut 0 (elements (view all)) marks (view t) (view all)
  to-hedges determined one two e = subst (λ h. LeavesOut 0 (elements (view all)) marks h (view all)) same out
    where
      l : Leaves 0 marks (view all)
      l = leaves (view all) 0 marks

      none : l.rest ≡ []
      none = sym (ap (marks_left 0 marks) (sym (append-nil (shown (view all)))) ∙ l.runs.left []) ∙ sym left-is ∙ e.none_left

      used : l.used ≡ marks
      used = sym (append-nil l.used) ∙ ap (λ r. l.used ++ r) (sym none) ∙ sym l.split

      out : LeavesOut 0 (elements (view all)) marks l.hedge (view all)
      out = subst (λ u. LeavesOut 0 (elements (view all)) u l.hedge (view all)) used (subst (λ e. LeavesOut 0 e l.used l.hedge (view all)) (omega Rattle.std.proofs.Common.arith) l.out)

      kept : kept_events 0 marks [] (shown (view all)) ≡ shown l.hedge
      kept = ap (kept_events 0 marks []) (sym (append-nil (shown (view all)))) ∙ l.runs.kept [] [] ∙ append-nil (shown l.hedge)

      same : l.hedge ≡ view t
      same = one-hedge determined l.hedge (view t) (out-units out (units-tree all two)) (units-tree t one) (ap bytewise (sym kept) ∙ sym kept-is ∙ e.same ∙ sym (shown-tree t))

pub events_leave_out : UnitsAreDetermined → EventsLeaveOut
events_leave_out determined marks t all one two = (to-events marks t all, to-hedges marks t all determined one two)
