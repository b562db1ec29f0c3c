-- What holds of a document whatever its marks are.
use Rattle.std.proofs.Common.{Bool, List, None, Option, Some, [], ap, refl, subst, sym, ℕ, zero}
use Rattle.std.proofs.Common.{suc, length, ◌∙◌, ◌∷◌, ◌≡◌, map}
use Rattle.std.proofs.Math.Logic.{∥∥₁_map}
use Rattle.std.specs.List.{AllByRecursion}
use Rattle.std.specs.Option.{option_and_then, option_map}
use Rattle.pv_dtd.specs.Plain.{PlainDtd}
use Rattle.pv_edit.specs.ChangedLists.{changed_lists, makes}
use Rattle.pv_edit.specs.Changes.{Change, doc_after}
use Rattle.pv_edit.specs.Effects.{change_of, next_of}
use Rattle.pv_edit.specs.Inverses.{change_back, doc_back}
use Rattle.pv_edit.specs.Reasons.{Outcome, edit_outcome, gives, outcome, reason_of, refuses}
use Rattle.pv_edit.specs.declared.answers.EditAnswer.{EditAnswer}
use Rattle.pv_edit.specs.declared.answers.EditAnswer.TheVariants.{Impossible, Limit, NoMemory}
use Rattle.pv_edit.specs.declared.answers.EditAnswer.TheVariants.{Shape}
use Rattle.pv_edit.specs.declared.edits.Edit.{Edit}
use Rattle.pv_edit.specs.declared.edits.Edit.TheVariants.{AddText, DelText, Insert, Join, Rename}
use Rattle.pv_edit.specs.declared.edits.Edit.TheVariants.{SetText, Split, Unwrap, Wrap}
use Rattle.pv_edit.specs.declared.inverses.Inverse.{Inverse}
use Rattle.pv_edit.specs.declared.reasons.Reason.{Reason}
use Rattle.pv_edit.proofs.RemarkedChanges.{back-as, change_as, forest-as, node-as, root-as, spot-as}
use Rattle.pv_edit.proofs.RemarkedChanges.{spot_as, trees-as, units-as}
use Rattle.pv_edit.proofs.RemarkedReasons.{reason-as}
use Rattle.pv_edit.specs.Inverses.{name_on}
use Rattle.pv_missing.specs.Verdicts.{HaveCount, IsLiveBy, is_impossible}
use Rattle.pv_missing.proofs.Counts.{same_counts}
use Rattle.pv_missing.proofs.VerdictHeads.{live_alike}
use Rattle.pv_missing.specs.Widths.{FitsVerdict}
use Rattle.pv_tree.specs.Heads.{heads_of}
use Rattle.pv_tree.specs.Lists.{Owner, an_element, lists_of}
use Rattle.pv_tree.specs.Marks.{unmarked_doc}
use Rattle.pv_tree.specs.Plain.{Forest, PlainDoc, Tree, cdata_node, element, forest_of, map_marks}
use Rattle.pv_tree.specs.Plain.{map_marks_all, misc_node, no_trees, text_node, tree, without_marks}
use Rattle.pv_tree.specs.Places.{Spot, at_document, at_node, list_at, list_of, node_below, spot_at}
use Rattle.pv_tree.specs.Words.{word_of}
use Rattle.pv_tree.specs.declared.nodes.Verdict.{Verdict}
use Rattle.pv_cache.specs.AcceptedEdits.{GetsNoWorse, GetsWorse, HaveBoth, IsAccepted, IsHoldable}
use Rattle.pv_cache.specs.AcceptedEdits.{IsNarrowAt, IsWithinLimits}
use Rattle.pv_cache.specs.VerdictsAfterChange.{IsFirstImpossibleAt, IsLiveListAt, owner_at}
use Rattle.pv_cache.specs.Moves.{HasGround}
use Rattle.pv_cache.specs.Stamps.{doc_as}
use Rattle.pv_cache.proofs.ListMarks.{all_narrow_from, all_narrow_to}
use Rattle.pv_cache.proofs.OtherMarks.{heads_as, nodes_as, word_as}

-- the outcome with other marks
abbrev pub outcome_as : {M N : Type 0} → (M → N) → Outcome M → Outcome N
outcome_as f (gives doc) = gives (doc_as f doc)
outcome_as f (refuses reason) = refuses reason

abbrev bare_all : {M : Type 0} → Forest M → Forest Unit
bare_all ks = map_marks_all (λ _. tt) ks

module _ {M N : Type 0} (f : M → N) where
  mutual
    pub twice : (t : Tree M) → without_marks (map_marks f t) ≡ without_marks t
    twice (element x a e ks m) = ap (λ (k : Forest Unit). element x a e k tt) (all_twice ks)
    twice (text_node us) = refl
    twice (cdata_node b) = refl
    twice (misc_node b) = refl

    all_twice : (ks : Forest M) → bare_all (map_marks_all f ks) ≡ bare_all ks
    all_twice no_trees = refl
    all_twice (tree t rest) =
        ap (λ (u : Tree Unit). tree u (bare_all (map_marks_all f rest))) (twice t)
        ∙ ap (tree (without_marks t)) (all_twice rest)

  name_as : (o : Option (Spot M)) → name_on (option_map (spot_as f) o) ≡ name_on o
  name_as None = refl
  name_as (Some at_document) = refl
  name_as (Some (at_node (element x a e ks m))) = refl
  name_as (Some (at_node (text_node us))) = refl
  name_as (Some (at_node (cdata_node b))) = refl
  name_as (Some (at_node (misc_node b))) = refl

  pub change_of_as : (blank : M) (root : Tree M) (edit : Edit) →
      change_as f (change_of blank root edit) ≡ change_of (f blank) (map_marks f root) edit
  change_of_as blank root (Wrap path from to name) = refl
  change_of_as blank root (Insert path at name) = refl
  change_of_as blank root (Unwrap path) = refl
  change_of_as blank root (Rename path name) = refl
  change_of_as blank root (Split path at) = rw (units-as f path root) refl
  change_of_as blank root (Join path) =
      rw (units-as f path root, units-as f (next_of path) root) refl
  change_of_as blank root (SetText path text) = refl
  change_of_as blank root (AddText path at text) = refl
  change_of_as blank root (DelText path) = refl

  pub after_as : (c : Change M) (doc : PlainDoc M) →
      doc_after (change_as f c) (doc_as f doc) ≡ doc_as f (doc_after c doc)
  after_as c doc =
      ap (λ (t : Tree N). record (doc_as f doc) { root = t }) (root-as f c.list c doc.root)

  outcome_is : (o : Option Reason) (doc : PlainDoc M) →
      outcome o (doc_as f doc) ≡ outcome_as f (outcome o doc)
  outcome_is None doc = refl
  outcome_is (Some reason) doc = refl

  -- an edit does the same
  pub applied_as : (blank : M) (doc : PlainDoc M) (edit : Edit) →
      edit_outcome (f blank) (doc_as f doc) edit ≡ outcome_as f (edit_outcome blank doc edit)
  applied_as blank doc edit =
      ap (λ (o : Option Reason).
      outcome o (doc_after (change_of (f blank) (map_marks f doc.root) edit) (doc_as f doc)))
      (reason-as f blank doc.root edit)
      ∙ ap (λ (c : Change N). outcome (reason_of blank doc.root edit) (doc_after c (doc_as f doc)))
      (sym (change_of_as blank doc.root edit))
      ∙ ap (outcome (reason_of blank doc.root edit)) (after_as (change_of blank doc.root edit) doc)
      ∙ outcome_is (reason_of blank doc.root edit) (doc_after (change_of blank doc.root edit) doc)

  pub gives_as : (blank : M) (doc edited : PlainDoc M) (edit : Edit) →
      edit_outcome blank doc edit ≡ gives edited →
      edit_outcome (f blank) (doc_as f doc) edit ≡ gives (doc_as f edited)
  gives_as blank doc edited edit e = applied_as blank doc edit ∙ ap (outcome_as f) e

  -- and so does an inverse
  pub reverted_as : (blank : M) (doc : PlainDoc M) (inverse : Inverse) →
      doc_back (f blank) (doc_as f doc) inverse ≡ doc_as f (doc_back blank doc inverse)
  reverted_as blank doc inverse =
      ap (λ (c : Change N). doc_after c (doc_as f doc)) (sym (back-as f blank doc.root inverse))
      ∙ after_as (change_back blank doc.root inverse) doc

  module _ (doc : PlainDoc M) where
    pub unmarked_as : unmarked_doc (doc_as f doc) ≡ unmarked_doc doc
    unmarked_as =
        ap (λ (t : Tree Unit). record {
          before = doc.before;
          root = t;
          after = doc.after;
          mark = tt;
        }) (twice doc.root)

    module _ (g : PlainDtd) (root : List ℕ) where
      pub holdable_to : IsHoldable g doc → IsHoldable g (doc_as f doc)
      holdable_to h =
          record { narrow = all_narrow_to f doc g h.narrow; few = rw (nodes_as f doc.root) h.few }

      pub holdable_from : IsHoldable g (doc_as f doc) → IsHoldable g doc
      holdable_from h =
          record {
            narrow = all_narrow_from f doc g h.narrow;
            few = rw (nodes_as f doc.root) at h.few;
          }

      pub count_to : (test : Verdict → Bool) (n : ℕ) → HaveCount test g root (lists_of doc) n →
          HaveCount test g root (lists_of (doc_as f doc)) n
      count_to test n h = same_counts M N test g root doc (doc_as f doc) n (sym unmarked_as) h

      -- ---- limits
      of_kind : (t : Tree M) → list_of (map_marks f t) ≡ option_map (map (map_marks f)) (list_of t)
      of_kind (element x a e ks m) = ap Some (trees-as f ks)
      of_kind (text_node us) = refl
      of_kind (cdata_node b) = refl
      of_kind (misc_node b) = refl

      list_below : (o : Option (Tree M)) →
          option_and_then list_of (option_map (map_marks f) o)
          ≡ option_map (map (map_marks f)) (option_and_then list_of o)
      list_below None = refl
      list_below (Some t) = of_kind t

      pub list_at_as : (path : List ℕ) →
          list_at path (map_marks f doc.root)
          ≡ option_map (map (map_marks f)) (list_at path doc.root)
      list_at_as [] = refl
      list_at_as (zero ∷ path) =
          ap (option_and_then list_of) (node-as f path doc.root)
          ∙ list_below (node_below path doc.root)
      list_at_as (suc i ∷ path) = refl

      as_wide : (ts : List (Tree M)) →
          word_of g (forest_of (map (map_marks f) ts)) ≡ word_of g (forest_of ts)
      as_wide ts = ap (word_of g) (forest-as f ts) ∙ word_as f g (forest_of ts)

      narrow_path_to : (path : List ℕ) → IsNarrowAt g doc path → IsNarrowAt g (doc_as f doc) path
      narrow_path_to path h kids e = by (list_at path doc.root) refl (sym (list_at_as path) ∙ e)
        where
          by : (o : Option (List (Tree M))) → list_at path doc.root ≡ o →
              option_map (map (map_marks f)) o ≡ Some kids →
              FitsVerdict g (length (word_of g (forest_of kids)))
          by None l n = absurd cc
          by (Some ts) l n =
              let is : map (map_marks f) ts ≡ kids = cc in
              subst (λ (ks : List (Tree N)). FitsVerdict g (length (word_of g (forest_of ks)))) is
              (rw (as_wide ts) (h ts l))

      narrow_path_from : (path : List ℕ) → IsNarrowAt g (doc_as f doc) path → IsNarrowAt g doc path
      narrow_path_from path h kids e =
          let n : FitsVerdict g (length (word_of g (forest_of (map (map_marks f) kids)))) =
          h (map (map_marks f) kids) (list_at_as path ∙ ap (option_map (map (map_marks f))) e) in
          rw (as_wide kids) at n

      paths_to : (paths : List (List ℕ)) → AllByRecursion (IsNarrowAt g doc) paths →
          AllByRecursion (IsNarrowAt g (doc_as f doc)) paths
      paths_to [] h = tt
      paths_to (path ∷ paths) h = (narrow_path_to path h.0, paths_to paths h.1)

      paths_from : (paths : List (List ℕ)) → AllByRecursion (IsNarrowAt g (doc_as f doc)) paths →
          AllByRecursion (IsNarrowAt g doc) paths
      paths_from [] h = tt
      paths_from (path ∷ paths) h = (narrow_path_from path h.0, paths_from paths h.1)

      pub within_to : (paths : List (List ℕ)) → IsWithinLimits g doc paths →
          IsWithinLimits g (doc_as f doc) paths
      within_to paths h =
          record { few = rw (nodes_as f doc.root) h.few; narrow = paths_to paths h.narrow }

      pub within_from : (paths : List (List ℕ)) → IsWithinLimits g (doc_as f doc) paths →
          IsWithinLimits g doc paths
      within_from paths h =
          record { few = rw (nodes_as f doc.root) at h.few; narrow = paths_from paths h.narrow }

      -- ---- Impossible lists
      owner_as : (path : List ℕ) → owner_at path (map_marks f doc.root) ≡ owner_at path doc.root
      owner_as [] = refl
      owner_as (i ∷ path) =
          ap an_element (ap name_on (spot-as f (i ∷ path) doc.root)
          ∙ name_as (spot_at (i ∷ path) doc.root))

      heads_all : (ts : List (Tree M)) →
          heads_of (forest_of (map (map_marks f) ts)) ≡ heads_of (forest_of ts)
      heads_all ts = ap heads_of (forest-as f ts) ∙ heads_as f (forest_of ts)

      live_path_to : (path : List ℕ) → IsLiveListAt g root doc path →
          IsLiveListAt g root (doc_as f doc) path
      live_path_to path h kids e = by (list_at path doc.root) refl (sym (list_at_as path) ∙ e)
        where
          by : (o : Option (List (Tree M))) → list_at path doc.root ≡ o →
              option_map (map (map_marks f)) o ≡ Some kids →
              IsLiveBy g root (owner_at path (map_marks f doc.root)) (forest_of kids)
          by None l n = absurd cc
          by (Some ts) l n =
              let is : map (map_marks f) ts ≡ kids = cc in
              let live =
              live_alike g root (owner_at path doc.root) (forest_of ts)
              (forest_of (map (map_marks f) ts)) (sym (heads_all ts)) (h ts l) in
              subst (λ (ks : List (Tree N)).
              IsLiveBy g root (owner_at path (map_marks f doc.root)) (forest_of ks)) is
              (subst (λ (o : Owner). IsLiveBy g root o (forest_of (map (map_marks f) ts)))
              (sym (owner_as path)) live)

      live_path_from : (path : List ℕ) → IsLiveListAt g root (doc_as f doc) path →
          IsLiveListAt g root doc path
      live_path_from path h kids e =
          let live =
          h (map (map_marks f) kids) (list_at_as path ∙ ap (option_map (map (map_marks f))) e) in
          live_alike g root (owner_at path doc.root) (forest_of (map (map_marks f) kids))
          (forest_of kids) (heads_all kids)
          (subst (λ (o : Owner). IsLiveBy g root o (forest_of (map (map_marks f) kids)))
          (owner_as path) live)

      live_paths_to : (paths : List (List ℕ)) → AllByRecursion (IsLiveListAt g root doc) paths →
          AllByRecursion (IsLiveListAt g root (doc_as f doc)) paths
      live_paths_to [] h = tt
      live_paths_to (path ∷ paths) h = (live_path_to path h.0, live_paths_to paths h.1)

      live_paths_from : (paths : List (List ℕ)) →
          AllByRecursion (IsLiveListAt g root (doc_as f doc)) paths →
          AllByRecursion (IsLiveListAt g root doc) paths
      live_paths_from [] h = tt
      live_paths_from (path ∷ paths) h = (live_path_from path h.0, live_paths_from paths h.1)

      pub first_at_from : (paths : List (List ℕ)) (path : List ℕ) →
          IsFirstImpossibleAt g root (doc_as f doc) paths path →
          IsFirstImpossibleAt g root doc paths path
      first_at_from paths path h = record {
        before = h.before;
        after = h.after;
        is_split = h.is_split;
        all_before = live_paths_from h.before h.all_before;
        is_not = λ l. h.is_not (live_path_to path l);
      }

      pub first_at_to : (paths : List (List ℕ)) (path : List ℕ) →
          IsFirstImpossibleAt g root doc paths path →
          IsFirstImpossibleAt g root (doc_as f doc) paths path
      first_at_to paths path h = record {
        before = h.before;
        after = h.after;
        is_split = h.is_split;
        all_before = live_paths_to h.before h.all_before;
        is_not = λ l. h.is_not (live_path_from path l);
      }

  -- as many lists are Impossible
  both_to : (g : PlainDtd) (root : List ℕ) (doc other : PlainDoc M) (m n : ℕ) →
      HaveBoth g root doc other m n → HaveBoth g root (doc_as f doc) (doc_as f other) m n
  both_to g root doc other m n h =
      record {
        had = count_to doc g root is_impossible m h.had;
        has = count_to other g root is_impossible n h.has;
      }

  no_worse_to : (g : PlainDtd) (root : List ℕ) (doc other : PlainDoc M) →
      GetsNoWorse g root doc other → GetsNoWorse g root (doc_as f doc) (doc_as f other)
  no_worse_to g root doc other h = (h.0, h.1, both_to g root doc other h.0 h.1 h.2, h.3)

  worse_to : (g : PlainDtd) (root : List ℕ) (doc other : PlainDoc M) → GetsWorse g root doc other →
      GetsWorse g root (doc_as f doc) (doc_as f other)
  worse_to g root doc other h = (h.0, h.1, both_to g root doc other h.0 h.1 h.2, h.3)

  -- an edit is refused on the same ground
  module _ (blank : M) (g : PlainDtd) (root : List ℕ) (doc : PlainDoc M) (edit : Edit) where
    pub ground_as : (a : EditAnswer) → HasGround blank g root doc edit a →
        HasGround (f blank) g root (doc_as f doc) edit a
    ground_as (Shape reason) h = applied_as blank doc edit ∙ ap (outcome_as f) h
    ground_as Limit (edited, e, n) = (
      doc_as f edited,
      gives_as blank doc edited edit e,
      λ w.
          n (within_from edited g root (changed_lists (makes edit)) w),
    )
    ground_as (Impossible path) (edited, e, w, n, first) = (
      doc_as f edited,
      gives_as blank doc edited edit e,
      within_to edited g root (changed_lists (makes edit)) w,
      ∥∥₁_map n (worse_to g root doc edited),
      ∥∥₁_map first (first_at_to edited g root (changed_lists (makes edit)) path),
    )
    ground_as NoMemory h = tt

    -- and accepted as well
    pub accepted_as : (edited : PlainDoc M) → IsAccepted blank g root doc edit edited →
        IsAccepted (f blank) g root (doc_as f doc) edit (doc_as f edited)
    accepted_as edited h = record {
      is_edited = gives_as blank doc edited edit h.is_edited;
      within = within_to edited g root (changed_lists (makes edit)) h.within;
      no_worse = ∥∥₁_map h.no_worse (no_worse_to g root doc edited);
    }

-- ---- two documents that differ in marks alone
module _ {M N : Type 0} (g : PlainDtd) (root : List ℕ) (doc : PlainDoc M) (other : PlainDoc N)
    (same : unmarked_doc doc ≡ unmarked_doc other) where
  pub holdable_alike : IsHoldable g doc → IsHoldable g other
  holdable_alike h =
      holdable_from (λ _. tt) other g root
      (subst (IsHoldable g) same (holdable_to (λ _. tt) doc g root h))
