-- Which lists of an edited document can be too wide: those that the edit changed.
use Rattle.std.proofs.Common.{List, [], length, subst, sym, ℕ, ◌++◌, ◌∷◌, ◌≡◌, ◌⊎◌, inl, inr}
use Rattle.std.specs.List.{AllByRecursion}
use Rattle.pv_dtd.specs.Plain.{PlainDtd}
use Rattle.pv_edit.specs.ChangedLists.{changed_lists, makes}
use Rattle.pv_edit.specs.Inverses.{IsKept}
use Rattle.pv_edit.specs.Origins.{IsNone}
use Rattle.pv_edit.specs.Reasons.{edit_outcome, gives}
use Rattle.pv_edit.specs.declared.edits.Edit.{Edit}
use Rattle.pv_edit.proofs.KeptLists.{keeps-lists}
use Rattle.pv_edit.proofs.Levels.{forest-trees}
use Rattle.pv_missing.specs.Widths.{FitsVerdict, IsFirstTooWide, IsListForVerdict}
use Rattle.pv_missing.proofs.VerdictHeads.{same_word}
use Rattle.pv_cache.specs.AcceptedEdits.{IsHoldable, IsNarrowAt, IsWithinLimits}
use Rattle.pv_cache.proofs.ListPlaces.{Stands, all_stand, had_at}
use Rattle.pv_tree.specs.Heads.{heads_of}
use Rattle.pv_tree.specs.Lists.{Listed, lists_of}
use Rattle.pv_tree.specs.Plain.{PlainDoc, Tree, forest_of, trees_of}
use Rattle.pv_tree.specs.Words.{word_of}
use Rattle.pv_tree.proofs.Decisions.{are_same}
use Rattle.pv_tree.proofs.JoinedLists.{all_right}

module _ {M : Type 0} (g : PlainDtd) where
  -- where no list is too wide, none is at any path
  pub narrow_at : (doc : PlainDoc M) → AllByRecursion (IsListForVerdict g) (lists_of doc) →
      (path : List ℕ) → IsNarrowAt g doc path
  narrow_at doc h path kids l = had_at (IsListForVerdict g) doc path kids l h

  pub narrow_at_all : (doc : PlainDoc M) → AllByRecursion (IsListForVerdict g) (lists_of doc) →
      (paths : List (List ℕ)) → AllByRecursion (IsNarrowAt g doc) paths
  narrow_at_all doc h [] = tt
  narrow_at_all doc h (path ∷ paths) = (narrow_at doc h path, narrow_at_all doc h paths)

  pub within : (doc : PlainDoc M) (changed : List (List ℕ)) → IsHoldable g doc →
      IsWithinLimits g doc changed
  within doc changed h = record { few = h.few; narrow = narrow_at_all doc h.narrow changed }

  either_path : (doc : PlainDoc M) (path : List ℕ) (paths : List (List ℕ)) →
      AllByRecursion (IsNarrowAt g doc) paths → IsNone path paths ⊎ IsNarrowAt g doc path
  either_path doc path [] h = inl tt
  either_path doc path (other ∷ paths) h =
      elim (are_same path other) as (λ _. IsNone path (other ∷ paths) ⊎ IsNarrowAt g doc path) [
        | yes e ↦ inr (subst (IsNarrowAt g doc) (sym e) h.0)
        | no n ↦
            elim (either_path doc path paths h.1) as (λ _. IsNone path (other ∷ paths) ⊎
            IsNarrowAt g doc path) [ inl none ↦ inl (n, none) | inr narrow ↦ inr narrow ]
      ]

  -- a list that stands in a document whose list at that path is narrow
  narrow_list : (doc : PlainDoc M) (list : Listed M) → Stands doc.root list →
      IsNarrowAt g doc list.path → IsListForVerdict g list
  narrow_list doc list s n =
      let h : FitsVerdict g (length (word_of g (forest_of (trees_of list.kids)))) =
      n (trees_of list.kids) s.stands in
      rw (forest-trees list.kids) at h

  -- a list that the edit didn't change is as wide as it was
  kept_narrow : (blank : M) (before edited : PlainDoc M) (edit : Edit) → IsKept before.root →
      edit_outcome blank before edit ≡ gives edited →
      AllByRecursion (IsListForVerdict g) (lists_of before) → (path : List ℕ) →
      IsNone path (changed_lists (makes edit)) → IsNarrowAt g edited path
  kept_narrow blank before edited edit k a h path none kids l =
      let kept = keeps-lists blank before edited edit k.rooted a path kids l none in
      let same = kept.same in
      let e : same.others ≡ kids = let s = same.stands in cc in
      let w : word_of g (forest_of same.kids) ≡ word_of g (forest_of kids) =
      same_word g (forest_of same.kids) (forest_of kids)
      (subst (λ (ks : List (Tree M)). heads_of (forest_of same.kids) ≡ heads_of (forest_of ks)) e
      same.same_heads) in
      let n : FitsVerdict g (length (word_of g (forest_of same.kids))) =
      narrow_at before h kept.origin same.kids same.stood in
      rw w at n

  -- An edited document in which a list is too wide is past a limit.
  pub too_wide : (blank : M) (before edited : PlainDoc M) (edit : Edit) (path : List ℕ) →
      IsHoldable g before → IsKept before.root → edit_outcome blank before edit ≡ gives edited →
      IsFirstTooWide g (lists_of edited) path →
      IsWithinLimits g edited (changed_lists (makes edit)) → ⊥
  too_wide blank before edited edit path holdable k a f w =
      let all : AllByRecursion (Stands edited.root) (f.before ++ f.list ∷ f.after) =
      subst (AllByRecursion (Stands edited.root)) f.is_split (all_stand edited) in
      let s : Stands edited.root f.list =
      (all_right (Stands edited.root) f.before (f.list ∷ f.after) all).0 in
      f.is_not
      (narrow_list edited f.list s
      (elim (either_path edited f.list.path (changed_lists (makes edit)) w.narrow) as (λ _.
      IsNarrowAt g edited f.list.path) [
        | inl none ↦
            kept_narrow blank before edited edit k a holdable.narrow f.list.path none
        | inr narrow ↦
            narrow
      ]))
