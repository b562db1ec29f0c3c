-- A change that an edit or an inverse makes, as a move of a document with stamps.
use Rattle.std.proofs.Common.{List, None, Option, [], ap, arith, length, nat_lt, subst, sym, ℕ, ◌+◌}
use Rattle.std.proofs.Common.{◌<◌, ◌≤◌, ◌∙◌, ◌∷◌, ◌≡◌, true, false}
use Rattle.std.proofs.Math.Bridge.{le_prop}
use Rattle.std.proofs.Math.Logic.{∥∥₁_elim, ∥∥₁_map}
use Rattle.std.proofs.lemmas.Bool.{ltb-false, ltb-true}
use Rattle.std.proofs.lemmas.Result.{err_from_is_err_and}
use Rattle.std.specs.Prelude.{Err, IfErr, Result}
use Rattle.std.specs.Result.{IsErr, IsErrAnd}
use Rattle.std.specs.Coded.{Coded-set, Unit-prop, coded_ℕ, ×_prop}
use Rattle.std.specs.List.{AllByRecursion}
use Rattle.pv_dtd.specs.Plain.{PlainDtd}
use Rattle.pv_edit.specs.BroughtElements.{BringsBare, lists_changed}
use Rattle.pv_edit.specs.ChangedLists.{changed_lists, makes, undoes}
use Rattle.pv_edit.specs.Changes.{Change, doc_after}
use Rattle.pv_edit.specs.Counts.{nodes_made, nodes_taken}
use Rattle.pv_edit.specs.Effects.{change_of}
use Rattle.pv_edit.specs.FittingChanges.{CanChange}
use Rattle.pv_edit.specs.Inverses.{IsKept, LeadsBack, change_back, doc_back, inverse_of}
use Rattle.pv_edit.specs.Laws.{EditsChangeLists, InversesChangeLists, LeadsToOne, NodesAreCounted}
use Rattle.pv_edit.specs.Reasons.{edit_outcome, gives, is_top, kids_at, reason_of}
use Rattle.pv_edit.specs.Refusals.{IsRefused, refusal_of}
use Rattle.pv_edit.specs.declared.answers.EditAnswer.{EditAnswer}
use Rattle.pv_edit.specs.declared.answers.EditAnswer.TheVariants.{Limit, Shape}
use Rattle.pv_edit.specs.declared.edits.Edit.{Edit}
use Rattle.pv_edit.specs.declared.reasons.EditError.{EditError}
use Rattle.pv_edit.specs.declared.reasons.EditError.TheVariants as error
use Rattle.pv_edit.specs.declared.inverses.Inverse.{Inverse}
use Rattle.pv_edit.specs.declared.tasks.Preparation.{Preparation}
use Rattle.pv_edit.proofs.ListsKeptByUndo.{can-made}
use Rattle.pv_edit.proofs.RemarkedReasons.{inverse-as}
use Rattle.pv_missing.specs.Verdicts.{is_impossible, is_possible}
use Rattle.pv_missing.specs.Widths.{IsListForVerdict}
use Rattle.pv_tree.specs.Lists.{lists_of}
use Rattle.pv_tree.specs.Marks.{blank_mark, unmarked_doc}
use Rattle.pv_tree.specs.Plain.{PlainDoc, nodes_in}
use Rattle.pv_tree.specs.declared.nodes.Mark.{Mark}
use Rattle.pv_tree.specs.declared.nodes.Verdict.{Verdict}
use Rattle.pv_cache.specs.AcceptedEdits.{IsAccepted, IsHoldable, MAX_EDITED_NODES}
use Rattle.pv_cache.specs.BadLists.{bad_gained, bad_lost}
use Rattle.pv_cache.specs.VerdictsAfterChange.{AreJudged, owner_at}
use Rattle.pv_cache.specs.MarkedTasks.{AreNarrowAfter, IsUnaccepted}
use Rattle.pv_cache.specs.declared.updates.InnerVerdict.{InnerVerdict}
use Rattle.pv_cache.specs.Moves.{HasBad, HasGround, HasOpen, IsEdited, IsReverted}
use Rattle.pv_cache.specs.Stamps.{doc_as, stamp_of, stamp_lists, stamped_doc_of, stamps_of}
use Rattle.pv_cache.specs.WellMarked.{IsWellMarked, told_bad}
use Rattle.pv_cache.proofs.RemarkedDocuments.{accepted_as, count_to, ground_as, holdable_alike}
use Rattle.pv_cache.proofs.RemarkedDocuments.{reverted_as}
use Rattle.pv_cache.proofs.RemarkedDocuments.{unmarked_as}
use Rattle.pv_cache.proofs.Grounds.{is_accepted, is_given, many_ground, marked_bad, marked_holdable}
use Rattle.pv_cache.proofs.Grounds.{marked_open, refused_ground}
use Rattle.pv_cache.proofs.Limits.{paths_narrow}
use Rattle.pv_cache.proofs.TreeMarks.{doc-nodes}
use Rattle.pv_cache.proofs.Widths.{narrow_at_all}
use Rattle.pv_edit.specs.declared.answers.Done.{Done}

-- ---- whether a document can be held is a proposition
all_prop : {A : Type 0} (P : A → Type 0) → ((x : A) → IsProp (P x)) → (xs : List A) →
    IsProp (AllByRecursion P xs)
all_prop P p [] = Unit-prop
all_prop P p (x ∷ xs) = ×_prop (p x) (all_prop P p xs)

holdable_prop : {M : Type 0} (g : PlainDtd) (doc : PlainDoc M) → IsProp (IsHoldable g doc)
holdable_prop g doc = λ x y.
    let n = all_prop (IsListForVerdict g) (λ list. le_prop) (lists_of doc) x.narrow y.narrow in
    let f = le_prop x.few y.few in
    ap (λ q. record { narrow = q; few = x.few }) n
    ∙ ap (λ q. record { narrow = y.narrow; few = q }) f

module _ (g : PlainDtd) (root : List ℕ) where
  -- ---- a well marked document
  pub told_nodes : (doc : PlainDoc Mark) → ∥ IsWellMarked g root doc ∥₁ →
      doc.mark.nodes ≡ nodes_in doc.root
  told_nodes doc w =
      ∥∥₁_elim w (Coded-set coded_ℕ doc.mark.nodes (nodes_in doc.root)) (doc-nodes g root doc)

  pub holdable_of : (doc : PlainDoc Mark) → nodes_in doc.root ≤ MAX_EDITED_NODES →
      ∥ IsWellMarked g root doc ∥₁ → IsHoldable g doc
  holdable_of doc few w = ∥∥₁_elim (marked_holdable g root doc few w) (holdable_prop g doc) (λ x. x)

  pub open_stamps : (doc : PlainDoc Mark) → ∥ IsWellMarked g root doc ∥₁ →
      HasOpen (stamped_doc_of g root doc) doc.mark.left
  open_stamps doc w =
      ∥∥₁_map (marked_open g root doc w) (count_to stamp_of doc g root is_possible doc.mark.left)

  pub bad_stamps : (doc : PlainDoc Mark) → ∥ IsWellMarked g root doc ∥₁ →
      HasBad (stamped_doc_of g root doc) (told_bad doc)
  bad_stamps doc w =
      ∥∥₁_map (marked_bad g root doc w) (count_to stamp_of doc g root is_impossible (told_bad doc))

  -- ---- an edit
  module _ (old : PlainDoc Mark) (edit : Edit) (given : reason_of blank_mark old.root edit ≡ None)
      (lists : EditsChangeLists Mark) where
    abbrev Ready : Change Mark → Type 0
    Ready ch =
        CanChange ch.list ch old.root × (is_top ch.list ≡ true → ch.shorten ≡ false) ×
        BringsBare ch.filling

    abbrev c : Change Mark
    c = change_of blank_mark old.root edit

    pub same_lists : lists_changed c ≡ changed_lists (makes edit)
    same_lists = lists blank_mark old (doc_after c old) edit (is_given g root old edit given)

    count_after : IsKept old.root → NodesAreCounted Mark →
        nodes_in (doc_after c old).root + nodes_taken edit ≡ nodes_in old.root + nodes_made edit
    count_after k count =
        count blank_mark old (doc_after c old) edit k.rooted (is_given g root old edit given)

    pub few_after : IsKept old.root → NodesAreCounted Mark → (n : ℕ) → n ≡ nodes_in old.root →
        false ≡ nat_lt (MAX_EDITED_NODES + nodes_taken edit) (n + nodes_made edit) →
        nodes_in (doc_after c old).root ≤ MAX_EDITED_NODES
    few_after k count n e t =
        let m = count_after k count in let l = ltb-false _ _ (sym t) in omega arith

    pub many_after : IsKept old.root → NodesAreCounted Mark → (n : ℕ) → n ≡ nodes_in old.root →
        true ≡ nat_lt (MAX_EDITED_NODES + nodes_taken edit) (n + nodes_made edit) →
        MAX_EDITED_NODES < nodes_in (doc_after c old).root
    many_after k count n e t =
        let m = count_after k count in let l = ltb-true _ _ (sym t) in omega arith

    pub too_many : MAX_EDITED_NODES < nodes_in (doc_after c old).root →
        HasGround 0 g root (stamps_of old) edit Limit
    too_many n =
        ground_as stamp_of blank_mark g root old edit Limit
        (many_ground g root old edit given same_lists n)

    -- an edit that is made
    abbrev Makes : Change Mark → Type 0
    Makes ch =
        (new : PlainDoc Mark) → ∥ IsWellMarked g root new ∥₁ → (stamp : ℕ) →
        stamps_of new ≡ stamp_lists stamp (lists_changed ch) (stamps_of (doc_after ch old)) →
        (done : Done) → done.checked ≡ length (lists_changed ch) → done.left ≡ new.mark.left →
        done.bad ≡ told_bad new → (inverse : Inverse) → inverse ≡ inverse_of old.root edit →
        IsEdited (stamped_doc_of g root old) edit stamp done inverse (stamped_doc_of g root new)

    module _ (accepted : IsAccepted 0 g root (stamps_of old) edit (stamps_of (doc_after c old)))
      where
        made_here : Makes c
        made_here new w stamp stamps done checked left bad inverse is = record {
          edited = stamps_of (doc_after c old);
          accepted = accepted;
          is_after =
              ap (λ (d : PlainDoc ℕ). record { dtd = g; root = root; doc = d }) (stamps
              ∙ ap (λ ls. stamp_lists stamp ls (stamps_of (doc_after c old))) same_lists);
          is_checked = checked ∙ ap length same_lists;
          is_left = subst (HasOpen (stamped_doc_of g root new)) (sym left) (open_stamps new w);
          is_bad = subst (HasBad (stamped_doc_of g root new)) (sym bad) (bad_stamps new w);
          is_inverse = is ∙ sym (inverse-as stamp_of old.root edit);
        }

        pub edit_made : (ch : Change Mark) → ch ≡ c → Makes ch
        edit_made ch e = subst Makes (sym e) made_here

    -- or refused
    abbrev Refuses : Change Mark → Type 0
    Refuses ch =
        (a : EditAnswer) → IsUnaccepted g root old ch a → HasGround 0 g root (stamps_of old) edit a

    module _ (few : nodes_in (doc_after c old).root ≤ MAX_EDITED_NODES)
        (w : ∥ IsWellMarked g root old ∥₁) where
      -- it is accepted where no more of the changed lists are Impossible than before
      abbrev Accepts : Change Mark → Type 0
      Accepts ch =
          (v : Verdict) (within : Option InnerVerdict) →
          AreJudged g root (owner_at ch.list old.root) (kids_at ch.list old.root) ch v within →
          bad_gained v within ≤ bad_lost ch old →
          IsAccepted 0 g root (stamps_of old) edit (stamps_of (doc_after c old))

      accepted_here : Ready c → Accepts c
      accepted_here (can, unshort, bare) v i j n =
          accepted_as stamp_of blank_mark g root old edit (doc_after c old)
          (is_accepted g root old edit given same_lists can unshort bare few v i j n w)

      pub edit_accepted : (ch : Change Mark) → ch ≡ c → Ready ch → Accepts ch
      edit_accepted ch e r = subst Accepts (sym e) (accepted_here (subst Ready e r))

      refused_here : Ready c → Refuses c
      refused_here (can, unshort, bare) a u =
          ground_as stamp_of blank_mark g root old edit a
          (refused_ground g root old edit given same_lists can unshort bare few w a u)

      pub edit_refused : (ch : Change Mark) → ch ≡ c → Ready ch → Refuses ch
      edit_refused ch e r = subst Refuses (sym e) (refused_here (subst Ready e r))

  -- ---- an inverse
  module _ (old : PlainDoc Mark) (inverse : Inverse) (before : PlainDoc Unit)
      (l : LeadsBack inverse old before) (one : LeadsToOne Mark) (ch : Change Mark)
      (e : ch ≡ change_back blank_mark old.root inverse) where
    is_before : unmarked_doc (doc_after ch old) ≡ before
    is_before =
        ap (λ (d : Change Mark). unmarked_doc (doc_after d old)) e
        ∙ sym (reverted_as (λ _. tt) blank_mark old inverse) ∙ one inverse old before l

    -- where that document can be held
    module _ (holdable : IsHoldable g before) where
      holdable_back : IsHoldable g (doc_after ch old)
      holdable_back =
          holdable_alike g root before (doc_after ch old) (ap unmarked_doc (sym is_before)
          ∙ unmarked_as (λ _. tt) (doc_after ch old)) holdable

      pub back_few : nodes_in (doc_after ch old).root ≤ MAX_EDITED_NODES
      back_few = holdable_back.few

      pub back_narrow : CanChange ch.list ch old.root →
          (is_top ch.list ≡ true → ch.shorten ≡ false) → BringsBare ch.filling →
          AreNarrowAfter g ch (kids_at ch.list old.root)
      back_narrow can unshort bare =
          let d = can-made old.mark ch.list ch old.root can unshort in
          paths_narrow g old ch bare d.0 d.1
          (narrow_at_all g (doc_after ch old) holdable_back.narrow (lists_changed ch))

    -- the change that is made
    module _ (undone : InversesChangeLists Mark) (stamp : ℕ) where
      same_undone : lists_changed ch ≡ changed_lists (undoes l.edit)
      same_undone =
          ap lists_changed e
          ∙ ap (λ (i : Inverse). lists_changed (change_back blank_mark old.root i))
          (sym l.is_inverse)
          ∙ undone blank_mark old.root before (unmarked_doc old) l.edit l.is_edited

      same_stamps : stamps_of (doc_after ch old) ≡ doc_back 0 (stamps_of old) inverse
      same_stamps =
          ap (λ (d : Change Mark). stamps_of (doc_after d old)) e
          ∙ sym (reverted_as stamp_of blank_mark old inverse)

      pub back_made : (new : PlainDoc Mark) → ∥ IsWellMarked g root new ∥₁ →
          unmarked_doc new ≡ unmarked_doc (doc_after ch old) →
          stamps_of new ≡ stamp_lists stamp (lists_changed ch) (stamps_of (doc_after ch old)) →
          (done : Done) → done.checked ≡ length (lists_changed ch) → done.left ≡ new.mark.left →
          done.bad ≡ told_bad new →
          IsReverted (stamped_doc_of g root old) inverse l.edit before stamp done
          (stamped_doc_of g root new)
      back_made new w made stamps done checked left bad = record {
        led = unmarked_as stamp_of new ∙ made ∙ is_before;
        is_after =
            ap (λ (d : PlainDoc ℕ). record { dtd = g; root = root; doc = d })
            (stamps ∙ ap (λ ls. stamp_lists stamp ls (stamps_of (doc_after ch old))) same_undone
            ∙ ap (stamp_lists stamp (changed_lists (undoes l.edit))) same_stamps);
        is_checked = checked ∙ ap length same_undone;
        is_left = subst (HasOpen (stamped_doc_of g root new)) (sym left) (open_stamps new w);
        is_bad = subst (HasBad (stamped_doc_of g root new)) (sym bad) (bad_stamps new w);
      }

  -- ---- an edit that can't be made
  pub not_shaped : (old : PlainDoc Mark) (edit : Edit) (e : EditError) →
      IsRefused (edit_outcome blank_mark old edit) e → (r : Result Preparation EditAnswer) →
      IsErr r × IsErrAnd r (λ a. a ≡ refusal_of e) →
      IfErr r (HasGround 0 g root (stamps_of old) edit)
  not_shaped old edit e h r s = by e h r (err_from_is_err_and r s.1)
    where
      ground : (e : EditError) → IsRefused (edit_outcome blank_mark old edit) e →
          HasGround 0 g root (stamps_of old) edit (refusal_of e)
      ground (error.Shape reason) h = ground_as stamp_of blank_mark g root old edit (Shape reason) h
      ground error.NoMemory h = tt

      by : (e : EditError) → IsRefused (edit_outcome blank_mark old edit) e →
          (r : Result Preparation EditAnswer) → (a : EditAnswer) × (r ≡ Err a) × (a ≡ refusal_of e) →
          IfErr r (HasGround 0 g root (stamps_of old) edit)
      by e h r (a, is, same) = rw (is, same) (ground e h)

-- an inverse leads back from a document whatever its marks are
pub leads_from : {M N : Type 0} (f : M → N) (doc : PlainDoc M) (inverse : Inverse)
    (before : PlainDoc Unit) → LeadsBack inverse (doc_as f doc) before →
    LeadsBack inverse doc before
leads_from f doc inverse before l =
    record {
      edit = l.edit;
      kept = l.kept;
      is_edited = l.is_edited ∙ ap gives (unmarked_as f doc);
      is_inverse = l.is_inverse;
    }

-- a well marked document stays one under an equal DTD and an equal name of the root
pub same_ground : (g h : PlainDtd) (root name : List ℕ) (doc : PlainDoc Mark) → g ≡ h →
    root ≡ name → ∥ IsWellMarked g root doc ∥₁ → ∥ IsWellMarked h name doc ∥₁
same_ground g h root name doc p q w =
    subst (λ (x : List ℕ). ∥ IsWellMarked h x doc ∥₁) q
    (subst (λ (d : PlainDtd). ∥ IsWellMarked d root doc ∥₁) p w)

pub stamped_ground : {g h : PlainDtd} {root name : List ℕ} (doc : PlainDoc Mark) → g ≡ h →
    root ≡ name → stamped_doc_of g root doc ≡ stamped_doc_of h name doc
stamped_ground doc p q = cc
