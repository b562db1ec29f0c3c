-- What the marks of a well marked document tell of each list.
use Rattle.std.proofs.Common.{List, None, Option, Some, [], ap, map, refl}
use Rattle.std.proofs.Common.{subst, suc, sym, zero, ℕ, ◌++◌, ◌∙◌, ◌∷◌, ◌≡◌}
use Rattle.std.proofs.Math.Logic.{∥∥₁_map}
use Rattle.std.proofs.lemmas.List.{map-append}
use Rattle.std.specs.Option.{MatchOption, option_map}
use Rattle.pv_dtd.specs.Plain.{PlainDtd}
use Rattle.pv_edit.specs.Inverses.{name_on}
use Rattle.pv_edit.specs.declared.answers.VerdictRow.{VerdictRow}
use Rattle.pv_edit.proofs.Levels.{forest-trees}
use Rattle.pv_edit.proofs.RemarkedChanges.{forest-as, node-as}
use Rattle.pv_edit.proofs.NodePlaces.{NodeAt, at_node, node_at}
use Rattle.pv_missing.specs.Verdicts.{AreVerdicts, IsVerdict}
use Rattle.pv_missing.proofs.VerdictHeads.{verdict_by_heads}
use Rattle.pv_tree.specs.Lists.{Owner, an_element, lists_at, lists_from, lists_of, the_document}
use Rattle.pv_tree.specs.Places.{list_at, list_of, node_below, spot_at}
use Rattle.pv_tree.specs.Places.{Spot, at_document, at_node as at_spot}
use Rattle.pv_tree.specs.Plain.{Ending, Forest, PlainDoc, Tree, cdata_node, element, forest_of}
use Rattle.pv_tree.specs.Plain.{map_marks, map_marks_all, misc_node, no_trees, text_node, tree}
use Rattle.pv_tree.specs.Plain.{trees_of}
use Rattle.pv_tree.specs.declared.nodes.Mark.{Mark}
use Rattle.pv_tree.specs.declared.nodes.Verdict.{Verdict}
use Rattle.pv_cache.specs.VerdictsAfterChange.{owner_at}
use Rattle.pv_cache.specs.Rows.{AreRows, IsVerdictAt, marks_in, marks_in_all, path_of, row_path}
use Rattle.pv_cache.specs.Rows.{row_stamp, row_verdict, rows_at, rows_from, rows_of}
use Rattle.pv_cache.specs.Stamps.{stamp_of, stamped_doc_of, stamps_of}
use Rattle.pv_cache.specs.WellMarked.{IsWellMarked, TellsList, told_verdict, told_verdicts}
use Rattle.pv_cache.specs.WellMarked.{told_verdicts_in, verdicts_told}
use Rattle.pv_cache.proofs.RemarkedDocuments.{list_at_as}
use Rattle.pv_cache.proofs.Limits.{spot_list}
use Rattle.pv_cache.proofs.ListMarks.{verdicts_to}
use Rattle.pv_cache.proofs.NodeLists.{node-has}
use Rattle.pv_cache.proofs.OtherMarks.{heads_as}
use Rattle.pv_cache.proofs.TreeMarks.{doc-told}

module _ (g : PlainDtd) (root : List ℕ) (doc : PlainDoc Mark)
    (w : ∥ IsWellMarked g root doc ∥₁) where
  -- ---- the verdict at a path
  same_list : (kids : Forest Mark) →
      forest_of (map (map_marks stamp_of) (trees_of kids)) ≡ map_marks_all stamp_of kids
  same_list kids =
      forest-as stamp_of (trees_of kids) ∙ ap (map_marks_all stamp_of) (forest-trees kids)

  judged_by : (path : List ℕ) (owner : Owner) (kids : Forest Mark) (v : Verdict) →
      IsVerdict g root (record { path = []; owner = owner; kids = kids }) v →
      owner ≡ owner_at path (stamps_of doc).root →
      IsVerdict g root (record {
        path = path;
        owner = owner_at path (stamps_of doc).root;
        kids = forest_of (map (map_marks stamp_of) (trees_of kids));
      }) v
  judged_by path owner kids v j o =
      let at : IsVerdict g root (record {
        path = path;
        owner = owner;
        kids = map_marks_all stamp_of kids;
      }) v =
      (verdict_by_heads Mark ℕ g root (record { path = []; owner = owner; kids = kids })
      (record { path = path; owner = owner; kids = map_marks_all stamp_of kids }) v refl
      (sym (heads_as stamp_of kids))).0 j in
      subst (λ (q : Owner).
      IsVerdict g root (record {
        path = path;
        owner = q;
        kids = forest_of (map (map_marks stamp_of) (trees_of kids));
      }) v) o
      (subst (λ (k : Forest ℕ).
      IsVerdict g root (record { path = path; owner = owner; kids = k }) v)
      (sym (same_list kids)) at)

  pub verdict_of_top : (path : List ℕ) → spot_at path doc.root ≡ Some at_document →
      IsVerdictAt g root (stamps_of doc) path doc.mark.verdict
  verdict_of_top [] s =
      record {
        kids = map_marks stamp_of doc.root ∷ [];
        stands = refl;
        judged =
            ∥∥₁_map w (λ w.
            judged_by [] the_document (tree doc.root no_trees) doc.mark.verdict
            w.document.judged refl);
      }
  verdict_of_top (zero ∷ path) s = absurd (by (node_below path doc.root) s)
    where
      by : (o : Option (Tree Mark)) → option_map at_spot o ≡ Some at_document → ⊥
      by None e = absurd cc
      by (Some t) e = absurd cc
  verdict_of_top (suc i ∷ path) s = absurd cc

  element_stands : (path : List ℕ) (t : Tree Mark) →
      option_map at_spot (node_below path doc.root) ≡ Some (at_spot t) → NodeAt path doc.root t
  element_stands path t s = by (node_below path doc.root) refl s
    where
      by : (o : Option (Tree Mark)) → node_below path doc.root ≡ o →
          option_map at_spot o ≡ Some (at_spot t) → NodeAt path doc.root t
      by None n e = absurd cc
      by (Some u) n e = let is : u ≡ t = cc in node_at path doc.root t (n ∙ ap Some is)

  pub verdict_of_element : (path : List ℕ) (x attrs : List ℕ) (e : Ending) (kids : Forest Mark)
      (m : Mark) → spot_at path doc.root ≡ Some (at_spot (element x attrs e kids m)) →
      IsVerdictAt g root (stamps_of doc) path m.verdict
  verdict_of_element [] x attrs e kids m s = absurd cc
  verdict_of_element (zero ∷ path) x attrs e kids m s =
      let t = element x attrs e kids m in
      let n = element_stands path t s in
      let below : node_below path (map_marks stamp_of doc.root) ≡ Some (map_marks stamp_of t) =
      node-as stamp_of path doc.root ∙ ap (option_map (map_marks stamp_of)) (at_node n) in
      let owner : an_element x ≡ owner_at (zero ∷ path) (stamps_of doc).root =
      ap (λ o. an_element (name_on (option_map at_spot o))) (sym below) in
      record {
        kids = map (map_marks stamp_of) (trees_of kids);
        stands =
            list_at_as stamp_of doc g root (zero ∷ path)
            ∙ ap (option_map (map (map_marks stamp_of))) (spot_list (zero ∷ path) doc.root t s);
        judged =
            ∥∥₁_map w (λ w.
            judged_by (zero ∷ path) (an_element x) kids m.verdict
            (node-has (TellsList g root) n w.elements).0.judged owner);
      }
  verdict_of_element (suc i ∷ path) x attrs e kids m s = absurd cc

  -- no list where there is no element
  pub no_list : (path : List ℕ) → (o : Option (Spot Mark)) → spot_at path doc.root ≡ o →
      (o ≡ Some at_document → ⊥) →
      ((x attrs : List ℕ) (e : Ending) (kids : Forest Mark) (m : Mark) →
      o ≡ Some (at_spot (element x attrs e kids m)) → ⊥) →
      list_at path (stamps_of doc).root ≡ None
  no_list path o s top elem =
      list_at_as stamp_of doc g root path
      ∙ ap (option_map (map (map_marks stamp_of))) (by path o s top elem)
    where
      of_node : (t : Tree Mark) →
          ((x attrs : List ℕ) (e : Ending) (kids : Forest Mark) (m : Mark) →
          t ≡ element x attrs e kids m → ⊥) → list_of t ≡ None
      of_node (element x a e ks m) n = absurd (n x a e ks m refl)
      of_node (text_node us) n = refl
      of_node (cdata_node b) n = refl
      of_node (misc_node b) n = refl

      below : (path : List ℕ) (u : Option (Tree Mark)) → node_below path doc.root ≡ u →
          (o : Option (Spot Mark)) → option_map at_spot u ≡ o →
          ((x attrs : List ℕ) (e : Ending) (kids : Forest Mark) (m : Mark) →
          o ≡ Some (at_spot (element x attrs e kids m)) → ⊥) →
          list_at (zero ∷ path) doc.root ≡ None
      below path None n o s elem = rw n refl
      below path (Some t) n o s elem =
          rw n (of_node t (λ x a e ks m is.
          elem x a e ks m (sym s ∙ ap (λ (u : Tree Mark). Some (at_spot u)) is)))

      by : (path : List ℕ) (o : Option (Spot Mark)) → spot_at path doc.root ≡ o →
          (o ≡ Some at_document → ⊥) →
          ((x attrs : List ℕ) (e : Ending) (kids : Forest Mark) (m : Mark) →
          o ≡ Some (at_spot (element x attrs e kids m)) → ⊥) → list_at path doc.root ≡ None
      by [] o s top elem = absurd (top (sym s))
      by (zero ∷ path) o s top elem = below path (node_below path doc.root) refl o s elem
      by (suc i ∷ path) o s top elem = refl

  pub verdict_of_none : (path : List ℕ) → spot_at path doc.root ≡ None →
      list_at path (stamps_of doc).root ≡ None
  verdict_of_none path s = no_list path None s (λ e. absurd cc) (λ x a e ks m is. absurd cc)

  pub verdict_of_node : (path : List ℕ) (t : Tree Mark) → spot_at path doc.root ≡ Some (at_spot t) →
      MatchOption (told_verdict t) (list_at path (stamps_of doc).root ≡ None)
      (IsVerdictAt g root (stamps_of doc) path)
  verdict_of_node path (element x a e ks m) s = verdict_of_element path x a e ks m s
  verdict_of_node path (text_node us) s =
      no_list path (Some (at_spot (text_node us))) s (λ e. absurd cc) (λ x a e ks m is. absurd cc)
  verdict_of_node path (cdata_node b) s =
      no_list path (Some (at_spot (cdata_node b))) s (λ e. absurd cc) (λ x a e ks m is. absurd cc)
  verdict_of_node path (misc_node b) s =
      no_list path (Some (at_spot (misc_node b))) s (λ e. absurd cc) (λ x a e ks m is. absurd cc)

  -- ---- rows
  mutual
    paths_at : (path : List ℕ) (t : Tree Mark) →
        map row_path (rows_at path t) ≡ map path_of (lists_at path (map_marks stamp_of t))
    paths_at path (element x a e ks m) = ap (λ ps. path ∷ ps) (paths_from path 0 ks)
    paths_at path (text_node us) = refl
    paths_at path (cdata_node b) = refl
    paths_at path (misc_node b) = refl

    paths_from : (path : List ℕ) (i : ℕ) (ks : Forest Mark) →
        map row_path (rows_from path i ks)
        ≡ map path_of (lists_from path i (map_marks_all stamp_of ks))
    paths_from path i no_trees = refl
    paths_from path i (tree t rest) =
        map-append row_path (rows_at (path ++ i ∷ []) t) (rows_from path (suc i) rest)
        ∙ ap (λ ps. ps ++ map row_path (rows_from path (suc i) rest)) (paths_at (path ++ i ∷ []) t)
        ∙ ap (λ ps. map path_of (lists_at (path ++ i ∷ []) (map_marks stamp_of t)) ++ ps)
        (paths_from path (suc i) rest)
        ∙ sym (map-append path_of (lists_at (path ++ i ∷ []) (map_marks stamp_of t))
        (lists_from path (suc i) (map_marks_all stamp_of rest)))

  mutual
    verdicts_at : (path : List ℕ) (t : Tree Mark) →
        map row_verdict (rows_at path t) ≡ told_verdicts t
    verdicts_at path (element x a e ks m) = ap (λ vs. m.verdict ∷ vs) (verdicts_from path 0 ks)
    verdicts_at path (text_node us) = refl
    verdicts_at path (cdata_node b) = refl
    verdicts_at path (misc_node b) = refl

    verdicts_from : (path : List ℕ) (i : ℕ) (ks : Forest Mark) →
        map row_verdict (rows_from path i ks) ≡ told_verdicts_in ks
    verdicts_from path i no_trees = refl
    verdicts_from path i (tree t rest) =
        map-append row_verdict (rows_at (path ++ i ∷ []) t) (rows_from path (suc i) rest)
        ∙ ap (λ vs. vs ++ map row_verdict (rows_from path (suc i) rest))
        (verdicts_at (path ++ i ∷ []) t)
        ∙ ap (λ vs. told_verdicts t ++ vs) (verdicts_from path (suc i) rest)

  mutual
    stamps_at : (path : List ℕ) (t : Tree Mark) →
        map row_stamp (rows_at path t) ≡ marks_in (map_marks stamp_of t)
    stamps_at path (element x a e ks m) = ap (λ ns. stamp_of m ∷ ns) (stamps_from path 0 ks)
    stamps_at path (text_node us) = refl
    stamps_at path (cdata_node b) = refl
    stamps_at path (misc_node b) = refl

    stamps_from : (path : List ℕ) (i : ℕ) (ks : Forest Mark) →
        map row_stamp (rows_from path i ks) ≡ marks_in_all (map_marks_all stamp_of ks)
    stamps_from path i no_trees = refl
    stamps_from path i (tree t rest) =
        map-append row_stamp (rows_at (path ++ i ∷ []) t) (rows_from path (suc i) rest)
        ∙ ap (λ ns. ns ++ map row_stamp (rows_from path (suc i) rest))
        (stamps_at (path ++ i ∷ []) t)
        ∙ ap (λ ns. marks_in (map_marks stamp_of t) ++ ns) (stamps_from path (suc i) rest)

  pub told_rows : (rows : List VerdictRow) → rows ≡ rows_of doc →
      AreRows (stamped_doc_of g root doc) rows
  told_rows rows e = rw e (record {
    paths = ap (λ ps. [] ∷ ps) (paths_at (0 ∷ []) doc.root);
    verdicts = ∥∥₁_map w (λ w.
        subst (AreVerdicts g root (lists_of (stamps_of doc)))
        (ap (λ vs. doc.mark.verdict ∷ vs) (sym (verdicts_at (0 ∷ []) doc.root)))
        (verdicts_to stamp_of doc g root (verdicts_told doc) (doc-told g root doc w)));
    stamps = ap (λ ns. stamp_of doc.mark ∷ ns) (stamps_at (0 ∷ []) doc.root);
  })
