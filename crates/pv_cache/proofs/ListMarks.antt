-- The lists of a document and their verdicts, whatever its marks are.
use Rattle.std.proofs.Common.{List, None, Option, Some, [], ap, map, refl, subst, suc, sym, ℕ, ◌++◌}
use Rattle.std.proofs.Common.{◌∙◌, ◌∷◌, ◌≡◌}
use Rattle.std.proofs.lemmas.List.{map-append}
use Rattle.std.specs.List.{AllByRecursion}
use Rattle.std.specs.Option.{MatchOption}
use Rattle.pv_dtd.specs.Plain.{PlainDtd}
use Rattle.pv_missing.specs.Verdicts.{AreVerdicts, HaveVerdicts, IsFirstImpossible, IsLive}
use Rattle.pv_missing.specs.Verdicts.{PlainVerdicts}
use Rattle.pv_missing.specs.Widths.{IsListForVerdict}
use Rattle.pv_missing.proofs.VerdictHeads.{live_alike, verdict_by_heads}
use Rattle.pv_cache.specs.Stamps.{doc_as}
use Rattle.pv_cache.proofs.OtherMarks.{heads_as, word_as}
use Rattle.pv_tree.specs.Lists.{IsFirstNot, Listed, an_element, lists_at, lists_from, lists_of}
use Rattle.pv_tree.specs.Lists.{the_document}
use Rattle.pv_tree.specs.Plain.{Forest, PlainDoc, Tree, cdata_node, element, misc_node, no_trees}
use Rattle.pv_tree.specs.Plain.{map_marks, map_marks_all, text_node, tree}
use Rattle.pv_tree.specs.declared.nodes.Verdict.{Verdict}

-- a list with other marks
abbrev pub list_as : {M N : Type 0} → (M → N) → Listed M → Listed N
list_as f list = record { path = list.path; owner = list.owner; kids = map_marks_all f list.kids }

module _ {M N : Type 0} (f : M → N) where
  mutual
    at_as : (path : List ℕ) (t : Tree M) →
        lists_at path (map_marks f t) ≡ map (list_as f) (lists_at path t)
    at_as path (element x a e ks m) =
        ap (λ ls. record { path = path; owner = an_element x; kids = map_marks_all f ks } ∷ ls)
        (from_as path 0 ks)
    at_as path (text_node us) = refl
    at_as path (cdata_node b) = refl
    at_as path (misc_node b) = refl

    from_as : (path : List ℕ) (i : ℕ) (ks : Forest M) →
        lists_from path i (map_marks_all f ks) ≡ map (list_as f) (lists_from path i ks)
    from_as path i no_trees = refl
    from_as path i (tree t rest) =
        ap (λ ls. ls ++ lists_from path (suc i) (map_marks_all f rest)) (at_as (path ++ i ∷ []) t)
        ∙ ap (λ ls. map (list_as f) (lists_at (path ++ i ∷ []) t) ++ ls) (from_as path (suc i) rest)
        ∙ sym (map-append (list_as f) (lists_at (path ++ i ∷ []) t) (lists_from path (suc i) rest))

  pub all_as : (P : Listed M → Type 0) (Q : Listed N → Type 0) →
      ((list : Listed M) → P list → Q (list_as f list)) → (lists : List (Listed M)) →
      AllByRecursion P lists → AllByRecursion Q (map (list_as f) lists)
  all_as P Q to [] h = tt
  all_as P Q to (list ∷ lists) h = (to list h.0, all_as P Q to lists h.1)

  all_back : (P : Listed M → Type 0) (Q : Listed N → Type 0) →
      ((list : Listed M) → Q (list_as f list) → P list) → (lists : List (Listed M)) →
      AllByRecursion Q (map (list_as f) lists) → AllByRecursion P lists
  all_back P Q from [] h = tt
  all_back P Q from (list ∷ lists) h = (from list h.0, all_back P Q from lists h.1)

  pub first_as : (P : Listed M → Type 0) (Q : Listed N → Type 0) →
      ((list : Listed M) → P list → Q (list_as f list)) →
      ((list : Listed M) → Q (list_as f list) → P list) →
      (lists : List (Listed M)) (path : List ℕ) → IsFirstNot P lists path →
      IsFirstNot Q (map (list_as f) lists) path
  first_as P Q to back lists path h = record {
    before = map (list_as f) h.before;
    list = list_as f h.list;
    after = map (list_as f) h.after;
    is_split = ap (map (list_as f)) h.is_split ∙ map-append (list_as f) h.before (h.list ∷ h.after);
    all_before = all_as P Q to h.before h.all_before;
    is_not = λ q. h.is_not (back h.list q);
    is_path = h.is_path;
  }

  module _ (g : PlainDtd) (root : List ℕ) where
    verdicts_as : (lists : List (Listed M)) (vs : List Verdict) → AreVerdicts g root lists vs →
        AreVerdicts g root (map (list_as f) lists) vs
    verdicts_as [] vs h = h
    verdicts_as (list ∷ lists) vs (v, rest, e, j, more) = (
      v,
      rest,
      e,
      (verdict_by_heads M N g root list (list_as f list) v refl (sym (heads_as f list.kids))).0 j,
      verdicts_as lists rest more,
    )

    verdicts_back : (lists : List (Listed M)) (vs : List Verdict) →
        AreVerdicts g root (map (list_as f) lists) vs → AreVerdicts g root lists vs
    verdicts_back [] vs h = h
    verdicts_back (list ∷ lists) vs (v, rest, e, j, more) = (
      v,
      rest,
      e,
      (verdict_by_heads N M g root (list_as f list) list v refl (heads_as f list.kids)).0 j,
      verdicts_back lists rest more,
    )

    live_to : (list : Listed M) → IsLive g root list → IsLive g root (list_as f list)
    live_to list =
        live_alike g root list.owner list.kids (map_marks_all f list.kids)
        (sym (heads_as f list.kids))

    live_from : (list : Listed M) → IsLive g root (list_as f list) → IsLive g root list
    live_from list =
        live_alike g root list.owner (map_marks_all f list.kids) list.kids (heads_as f list.kids)

    first_one_as : (first : Option (List ℕ)) (lists : List (Listed M)) →
        MatchOption first (AllByRecursion (IsLive g root) lists) (IsFirstImpossible g root lists) →
        MatchOption first (AllByRecursion (IsLive g root) (map (list_as f) lists))
        (IsFirstImpossible g root (map (list_as f) lists))
    first_one_as None lists h = all_as (IsLive g root) (IsLive g root) live_to lists h
    first_one_as (Some path) lists h =
        first_as (IsLive g root) (IsLive g root) live_to live_from lists path h

    have_as : (lists : List (Listed M)) (vs : PlainVerdicts) → HaveVerdicts g root lists vs →
        HaveVerdicts g root (map (list_as f) lists) vs
    have_as lists vs h =
        record {
          are_verdicts = verdicts_as lists vs.verdicts h.are_verdicts;
          is_first = first_one_as vs.first lists h.is_first;
        }

  narrow_to : (g : PlainDtd) (list : Listed M) → IsListForVerdict g list →
      IsListForVerdict g (list_as f list)
  narrow_to g list h = rw (word_as f g list.kids) h

  narrow_from : (g : PlainDtd) (list : Listed M) → IsListForVerdict g (list_as f list) →
      IsListForVerdict g list
  narrow_from g list h = rw (word_as f g list.kids) at h

module _ {M N : Type 0} (f : M → N) (doc : PlainDoc M) where
  pub lists_as : lists_of (doc_as f doc) ≡ map (list_as f) (lists_of doc)
  lists_as =
      ap (λ ls. record {
        path = [];
        owner = the_document;
        kids = tree (map_marks f doc.root) no_trees;
      } ∷ ls) (at_as f (0 ∷ []) doc.root)

  module _ (g : PlainDtd) (root : List ℕ) where
    pub have_to : (vs : PlainVerdicts) → HaveVerdicts g root (lists_of doc) vs →
        HaveVerdicts g root (lists_of (doc_as f doc)) vs
    have_to vs h = rw lists_as (have_as f g root (lists_of doc) vs h)

    pub verdicts_to : (vs : List Verdict) → AreVerdicts g root (lists_of doc) vs →
        AreVerdicts g root (lists_of (doc_as f doc)) vs
    verdicts_to vs h =
        subst (λ ls. AreVerdicts g root ls vs) (sym lists_as)
        (verdicts_as f g root (lists_of doc) vs h)

    pub verdicts_from : (vs : List Verdict) → AreVerdicts g root (lists_of (doc_as f doc)) vs →
        AreVerdicts g root (lists_of doc) vs
    verdicts_from vs h =
        verdicts_back f g root (lists_of doc) vs (subst (λ ls. AreVerdicts g root ls vs) lists_as h)

    pub first_to : (path : List ℕ) → IsFirstImpossible g root (lists_of doc) path →
        IsFirstImpossible g root (lists_of (doc_as f doc)) path
    first_to path h =
        rw lists_as (first_as f (IsLive g root) (IsLive g root) (live_to f g root)
        (live_from f g root) (lists_of doc) path h)

  pub all_narrow_to : (g : PlainDtd) → AllByRecursion (IsListForVerdict g) (lists_of doc) →
      AllByRecursion (IsListForVerdict g) (lists_of (doc_as f doc))
  all_narrow_to g h =
      subst (AllByRecursion (IsListForVerdict g)) (sym lists_as)
      (all_as f (IsListForVerdict g) (IsListForVerdict g) (narrow_to f g) (lists_of doc) h)

  pub all_narrow_from : (g : PlainDtd) →
      AllByRecursion (IsListForVerdict g) (lists_of (doc_as f doc)) →
      AllByRecursion (IsListForVerdict g) (lists_of doc)
  all_narrow_from g h =
      all_back f (IsListForVerdict g) (IsListForVerdict g) (narrow_from f g) (lists_of doc)
      (subst (AllByRecursion (IsListForVerdict g)) lists_as h)
