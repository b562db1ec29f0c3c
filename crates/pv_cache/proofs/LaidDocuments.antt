-- A document whose marks tell its verdicts is well marked.
use Rattle.std.proofs.Common.{List, [], ap, arith, append_assoc, append-nil, drop, refl, suc, subst}
use Rattle.std.proofs.Common.{sym, zero, ℕ, ◌+◌, ◌++◌, ◌≤◌, ◌∙◌, ◌∷◌, ◌≡◌}
use Rattle.std.specs.List.{AllByRecursion}
use Rattle.pv_dtd.specs.Plain.{PlainDtd}
use Rattle.pv_missing.specs.Verdicts.{AreVerdicts, IsVerdict}
use Rattle.pv_missing.specs.Widths.{IsListForVerdict}
use Rattle.pv_tree.specs.Heads.{head_of, heads_of}
use Rattle.pv_tree.specs.Lists.{Listed, Owner, an_element, lists_at, lists_from, lists_of}
use Rattle.pv_tree.specs.Lists.{the_document}
use Rattle.pv_tree.specs.Marks.{unmarked_doc}
use Rattle.pv_tree.specs.Plain.{Forest, PlainDoc, Tree, cdata_node, element, map_marks}
use Rattle.pv_tree.specs.Plain.{map_marks_all, misc_node, no_trees, nodes_in, text_node, tree}
use Rattle.pv_tree.specs.Plain.{without_marks}
use Rattle.pv_tree.proofs.JoinedLists.{all_left, all_right}
use Rattle.pv_tree.specs.declared.nodes.Mark.{Mark}
use Rattle.pv_tree.specs.declared.nodes.Verdict.{Verdict}
use Rattle.pv_cache.specs.VerdictsAfterChange.{IsJudged}
use Rattle.pv_cache.specs.LaidMarks.{lay_node, lay_kids, lay_doc, lists_in, lists_in_all}
use Rattle.pv_cache.specs.LaidMarks.{nth_verdict}
use Rattle.pv_cache.specs.Stamps.{doc_as, stamps_of}
use Rattle.pv_cache.specs.WellMarked.{EachList, EachListIn, IsWellMarked, TellsList}
use Rattle.pv_cache.specs.AcceptedEdits.{MAX_EDITED_NODES}
use Rattle.pv_cache.proofs.OtherMarks.{nodes_unmarked}
use Rattle.pv_cache.proofs.ChangedOwner.{fresh-tells}
use Rattle.pv_cache.proofs.MarksAlone.{all_without_marks}

laid_head : (vs : List Verdict) (at : ℕ) (t : Tree Mark) → head_of (lay_node vs at t) ≡ head_of t
laid_head vs at (element x a e ks m) = refl
laid_head vs at (text_node us) = refl
laid_head vs at (cdata_node b) = refl
laid_head vs at (misc_node b) = refl

laid_heads : (vs : List Verdict) (at : ℕ) (kids : Forest Mark) →
    heads_of (lay_kids vs at kids) ≡ heads_of kids
laid_heads vs at no_trees = refl
laid_heads vs at (tree t rest) =
    ap (λ h. h ∷ heads_of (lay_kids vs (at + lists_in t) rest)) (laid_head vs at t)
    ∙ ap (λ hs. head_of t ∷ hs) (laid_heads vs (at + lists_in t) rest)

-- the first of the verdicts from a number on
first_from : (vs rest : List Verdict) (at : ℕ) (v : Verdict) → drop at vs ≡ v ∷ rest →
    (nth_verdict vs at ≡ v) × (drop (suc at) vs ≡ rest)
first_from [] rest zero v e = absurd cc
first_from [] rest (suc at) v e = absurd cc
first_from (w ∷ vs) rest zero v e = (cc, cc)
first_from (w ∷ vs) rest (suc at) v e = first_from vs rest at v e

module _ (g : PlainDtd) (root : List ℕ) (vs : List Verdict) where
  judged : (owner : Owner) (kids : Forest Mark) (v : Verdict) →
      IsVerdict g root (record { path = []; owner = owner; kids = kids }) v →
      IsListForVerdict g (record { path = []; owner = owner; kids = kids }) →
      IsJudged g root owner kids v
  judged owner kids v j n = record { judged = j; narrow = n }

  -- what is left of the verdicts after a tree
  abbrev Behind : List (Listed Mark) → ℕ → Type 0
  Behind more at = AreVerdicts g root more (drop at vs)

  mutual
    laid_marked : (path : List ℕ) (t : Tree Mark) (more : List (Listed Mark)) (at : ℕ) →
        Behind (lists_at path t ++ more) at →
        AllByRecursion (IsListForVerdict g) (lists_at path t) →
        EachList (TellsList g root) (lay_node vs at t) × Behind more (at + lists_in t)
    laid_marked path (element x a e ks m) more at (v, rest, is, j, others) n =
        let f = first_from vs rest at v is in
        let k =
        all_laid_marked path 0 ks more (suc at)
        (subst (AreVerdicts g root (lists_from path 0 ks ++ more)) (sym f.1) others) n.1 in
        let b : IsJudged g root (an_element x) ks (nth_verdict vs at) =
        judged (an_element x) ks (nth_verdict vs at)
        (subst (IsVerdict g root (record { path = []; owner = an_element x; kids = ks }))
        (sym f.0) j) n.0 in
        let number : suc at + lists_in_all ks ≡ at + lists_in (element x a e ks m) =
        omega arith in (
          (
            fresh-tells g root (an_element x) ks (lay_kids vs (suc at) ks) (nth_verdict vs at) 0
                (laid_heads vs (suc at) ks) b,
            k.0,
          ),
          subst (Behind more) number k.1,
        )
    laid_marked path (text_node us) more at h n =
        (tt, let number : at ≡ at + 0 = omega arith in subst (Behind more) number h)
    laid_marked path (cdata_node b) more at h n =
        (tt, let number : at ≡ at + 0 = omega arith in subst (Behind more) number h)
    laid_marked path (misc_node b) more at h n =
        (tt, let number : at ≡ at + 0 = omega arith in subst (Behind more) number h)

    all_laid_marked : (path : List ℕ) (i : ℕ) (kids : Forest Mark) (more : List (Listed Mark))
        (at : ℕ) → Behind (lists_from path i kids ++ more) at →
        AllByRecursion (IsListForVerdict g) (lists_from path i kids) →
        EachListIn (TellsList g root) (lay_kids vs at kids) × Behind more (at + lists_in_all kids)
    all_laid_marked path i no_trees more at h n =
        (tt, let number : at ≡ at + 0 = omega arith in subst (Behind more) number h)
    all_laid_marked path i (tree t rest) more at h n =
        let here = lists_at (path ++ i ∷ []) t in
        let behind = lists_from path (suc i) rest in
        let assoc : (here ++ behind) ++ more ≡ here ++ (behind ++ more) =
        append_assoc here behind more in
        let a =
        laid_marked (path ++ i ∷ []) t (behind ++ more) at (subst (λ ls. Behind ls at) assoc h)
        (all_left (IsListForVerdict g) here behind n) in
        let b =
        all_laid_marked path (suc i) rest more (at + lists_in t) a.1
        (all_right (IsListForVerdict g) here behind n) in
        let number : at + lists_in t + lists_in_all rest ≡ at + lists_in_all (tree t rest) =
        omega arith in
        ((a.0, b.0), subst (Behind more) number b.1)

  pub doc_marked : (doc : PlainDoc Mark) → AreVerdicts g root (lists_of doc) vs →
      AllByRecursion (IsListForVerdict g) (lists_of doc) → IsWellMarked g root (lay_doc vs doc)
  doc_marked doc (v, rest, is, j, others) n =
      let f = first_from vs rest 0 v is in
      let at_root = lists_at (0 ∷ []) doc.root in
      let h : Behind (at_root ++ []) 1 =
      subst (AreVerdicts g root (at_root ++ [])) (sym f.1)
      (subst (λ ls. AreVerdicts g root ls rest) (sym (append-nil at_root)) others) in
      let k = laid_marked (0 ∷ []) doc.root [] 1 h n.1 in
      let kids = tree doc.root no_trees in
      let b : IsJudged g root the_document kids (nth_verdict vs 0) =
      judged the_document kids (nth_verdict vs 0)
      (subst (IsVerdict g root (record { path = []; owner = the_document; kids = kids }))
      (sym f.0) j) n.0 in
      record {
        document =
            fresh-tells g root the_document kids (tree (lay_node vs 1 doc.root) no_trees)
            (nth_verdict vs 0) 0 (ap (λ h. h ∷ []) (laid_head vs 1 doc.root)) b;
        elements = k.0;
      }

-- ---- it is the same document, with stamps of 0
mutual
  laid_unmarked : (vs : List Verdict) (at : ℕ) (t : Tree Mark) →
      without_marks (lay_node vs at t) ≡ without_marks t
  laid_unmarked vs at (element x a e ks m) =
      ap (λ (k : Forest Unit). element x a e k tt) (all_laid_unmarked vs (suc at) ks)
  laid_unmarked vs at (text_node us) = refl
  laid_unmarked vs at (cdata_node b) = refl
  laid_unmarked vs at (misc_node b) = refl

  all_laid_unmarked : (vs : List Verdict) (at : ℕ) (ks : Forest Mark) →
      all_without_marks (lay_kids vs at ks) ≡ all_without_marks ks
  all_laid_unmarked vs at no_trees = refl
  all_laid_unmarked vs at (tree t rest) =
      ap (λ (u : Tree Unit). tree u (all_without_marks (lay_kids vs (at + lists_in t) rest)))
      (laid_unmarked vs at t)
      ∙ ap (tree (without_marks t)) (all_laid_unmarked vs (at + lists_in t) rest)

pub laid_root : (vs : List Verdict) (doc : PlainDoc Mark) →
    without_marks (lay_node vs 1 doc.root) ≡ without_marks doc.root
laid_root vs doc = laid_unmarked vs 1 doc.root

pub laid_same : (vs : List Verdict) (doc : PlainDoc Mark) →
    unmarked_doc (lay_doc vs doc) ≡ unmarked_doc doc
laid_same vs doc =
    ap (λ t. record { before = doc.before; root = t; after = doc.after; mark = tt })
    (laid_unmarked vs 1 doc.root)

mutual
  laid_stamps : (vs : List Verdict) (at : ℕ) (t : Tree Mark) →
      map_marks (λ (m : Mark). m.stamp) (lay_node vs at t) ≡ map_marks (λ _. 0) t
  laid_stamps vs at (element x a e ks m) =
      ap (λ k. element x a e k 0) (all_laid_stamps vs (suc at) ks)
  laid_stamps vs at (text_node us) = refl
  laid_stamps vs at (cdata_node b) = refl
  laid_stamps vs at (misc_node b) = refl

  all_laid_stamps : (vs : List Verdict) (at : ℕ) (ks : Forest Mark) →
      map_marks_all (λ (m : Mark). m.stamp) (lay_kids vs at ks) ≡ map_marks_all (λ _. 0) ks
  all_laid_stamps vs at no_trees = refl
  all_laid_stamps vs at (tree t rest) =
      ap (λ u. tree u (map_marks_all (λ (m : Mark). m.stamp) (lay_kids vs (at + lists_in t) rest)))
      (laid_stamps vs at t)
      ∙ ap (tree (map_marks (λ _. 0) t)) (all_laid_stamps vs (at + lists_in t) rest)

pub no_stamps : (vs : List Verdict) (doc : PlainDoc Mark) →
    stamps_of (lay_doc vs doc) ≡ doc_as (λ _. 0) doc
no_stamps vs doc =
    ap (λ t. record { before = doc.before; root = t; after = doc.after; mark = 0 })
    (laid_stamps vs 1 doc.root)

pub laid_few : (vs : List Verdict) (doc : PlainDoc Mark) → nodes_in doc.root ≤ MAX_EDITED_NODES →
    nodes_in (lay_doc vs doc).root ≤ MAX_EDITED_NODES
laid_few vs doc few =
    let n = ap nodes_in (laid_root vs doc) in
    let a = nodes_unmarked (lay_node vs 1 doc.root) in
    let b = nodes_unmarked doc.root in
    omega arith
