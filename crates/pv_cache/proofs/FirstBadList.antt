-- The first Impossible list of a document, as its marks tell.
use Rattle.std.proofs.Common.{List, None, Option, Some, [], map, subst, suc, ℕ, ◌++◌, ◌∷◌, ◌≡◌}
use Rattle.std.proofs.Math.Logic.{∥∥₁_map}
use Rattle.std.specs.List.{AllByRecursion}
use Rattle.std.specs.Option.{MatchOption}
use Rattle.pv_cache.specs.Firsts.{first_among, first_bad, own_or}
use Rattle.pv_cache.specs.Rows.{TellVerdicts}
use Rattle.pv_cache.specs.Stamps.{stamp_of, stamped_doc_of}
use Rattle.pv_cache.specs.WellMarked.{EachList, EachListIn, IsWellMarked, TellsList, verdicts_told}
use Rattle.pv_cache.proofs.ListMarks.{have_to}
use Rattle.pv_cache.proofs.TreeMarks.{doc-told}
use Rattle.pv_dtd.specs.Plain.{PlainDtd}
use Rattle.pv_missing.specs.Verdicts.{HaveVerdicts, IsFirstImpossible, IsLive, IsVerdict}
use Rattle.pv_missing.specs.Verdicts.{PlainVerdicts}
use Rattle.pv_missing.proofs.VerdictLists.{first_from, first_own}
use Rattle.pv_tree.specs.Lists.{Listed, lists_of}
use Rattle.pv_tree.specs.MarkedLists.{MarkedList, list_alone, marked_at, marked_from, marked_of}
use Rattle.pv_tree.specs.Plain.{Forest, PlainDoc, Tree, cdata_node, element, misc_node, no_trees}
use Rattle.pv_tree.specs.Plain.{text_node, tree}
use Rattle.pv_tree.proofs.JoinedLists.{all_joined}
use Rattle.pv_tree.proofs.Walks.{unmarked_of}
use Rattle.pv_tree.specs.declared.nodes.Mark.{Mark}
use Rattle.pv_tree.specs.declared.nodes.Verdict.{Verdict}
use Rattle.pv_tree.specs.declared.nodes.Verdict.TheVariants as verdict

module _ (g : PlainDtd) (root : List ℕ) where
  -- a path tells the first Impossible one of these lists, and none that there is none
  abbrev Tells : Option (List ℕ) → List (Listed Mark) → Type 0
  Tells o lists =
      MatchOption o (AllByRecursion (IsLive g root) lists) (IsFirstImpossible g root lists)

  behind-live : (list : Listed Mark) (o : Option (List ℕ)) (lists : List (Listed Mark)) →
      IsLive g root list → Tells o lists → Tells o (list ∷ lists)
  behind-live list None lists l h = (l, h)
  behind-live list (Some path) lists l h = first_from g root list lists path l h

  own-tells : (list : Listed Mark) (v : Verdict) (o : Option (List ℕ))
      (lists : List (Listed Mark)) → IsVerdict g root list v → Tells o lists →
      Tells (own_or v list.path o) (list ∷ lists)
  own-tells list verdict.Valid o lists j h = behind-live list o lists j.0 h
  own-tells list verdict.Possible o lists j h = behind-live list o lists j.0 h
  own-tells list verdict.Impossible o lists j h = first_own g root list lists j

  abbrev Judged : MarkedList Mark → Type 0
  Judged marked = IsVerdict g root marked.list marked.mark.verdict

  abbrev mutual
    judged-at : (path : List ℕ) (t : Tree Mark) → EachList (TellsList g root) t →
        AllByRecursion Judged (marked_at path t)
    judged-at path (element x a e kids m) w = (w.0.judged, judged-from path 0 kids w.1)
    judged-at path (text_node us) w = tt
    judged-at path (cdata_node b) w = tt
    judged-at path (misc_node b) w = tt

    judged-from : (path : List ℕ) (i : ℕ) (kids : Forest Mark) →
        EachListIn (TellsList g root) kids → AllByRecursion Judged (marked_from path i kids)
    judged-from path i no_trees w = tt
    judged-from path i (tree t rest) w =
        all_joined Judged (marked_at (path ++ i ∷ []) t) (marked_from path (suc i) rest)
        (judged-at (path ++ i ∷ []) t w.0) (judged-from path (suc i) rest w.1)

  first-among : (lists : List (MarkedList Mark)) → AllByRecursion Judged lists →
      Tells (first_among lists) (map list_alone lists)
  first-among [] js = tt
  first-among (marked ∷ rest) js =
      own-tells marked.list marked.mark.verdict (first_among rest) (map list_alone rest) js.0
      (first-among rest js.1)

  module _ (doc : PlainDoc Mark) where
    first-told : IsWellMarked g root doc → Tells (first_bad doc) (lists_of doc)
    first-told w =
        subst (Tells (first_bad doc)) (unmarked_of doc)
        (first-among (marked_of doc) (w.document.judged, judged-at (0 ∷ []) doc.root w.elements))

    abbrev told : PlainVerdicts
    told = record { verdicts = verdicts_told doc; first = first_bad doc }

    have-told : IsWellMarked g root doc → HaveVerdicts g root (lists_of doc) told
    have-told w = record { are_verdicts = doc-told g root doc w; is_first = first-told w }

    pub tell_verdicts : ∥ IsWellMarked g root doc ∥₁ → (vs : PlainVerdicts) → vs ≡ told →
        TellVerdicts (stamped_doc_of g root doc) vs
    tell_verdicts w vs e = rw e (∥∥₁_map w (λ w. have_to stamp_of doc g root told (have-told w)))
