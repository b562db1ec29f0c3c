-- One level of a tree whose marks are laid out.
use Rattle.std.proofs.Common.{List, None, [], ap, append_assoc, append-nil, arith, drop, get_or}
use Rattle.std.proofs.Common.{length, refl, slice_get, slice_set, suc, sym, take, zero, ℕ, ◌*◌, ◌+◌}
use Rattle.std.proofs.Common.{◌++◌, ◌<◌, ◌≤◌, ◌∙◌, ◌∷◌, ◌≡◌}
use Rattle.std.proofs.lemmas.List.{drop-drop, drop-set-lt, drop_all, length-set, take_all}
use Rattle.std.proofs.lemmas.List.{take_more_set}
use Rattle.pv_tree.specs.Legal.{MAX_NODES}
use Rattle.pv_tree.specs.Plain.{Forest, PlainDoc, Tree, cdata_node, element, misc_node, no_trees}
use Rattle.pv_tree.specs.Plain.{nodes_in, nodes_in_all, text_node, tree}
use Rattle.pv_tree.specs.PlainForms.{forest, plain}
use Rattle.pv_tree.proofs.Forests.{forest-drop}
use Rattle.pv_tree.specs.declared.nodes.Mark.{Mark}
use Rattle.pv_tree.specs.declared.nodes.Node.{Node}
use Rattle.pv_tree.specs.declared.nodes.Verdict.{Verdict}
use Rattle.pv_tree.specs.declared.nodes.Verdict.TheVariants as verdict
use Rattle.pv_cache.specs.LaidMarks.{lay_node, lay_kids, lists_in, lists_in_all, nth_verdict}
use Rattle.pv_cache.specs.Updates.{IsCounted, IsDocCounted, update_doc}
use Rattle.pv_cache.specs.WellMarked.{own_left, told_left, told_left_in, told_nodes, told_nodes_in}

pub none_numbered : (vs : List Verdict) (n : ℕ) → slice_get vs n ≡ None →
    verdict.Valid ≡ nth_verdict vs n
none_numbered [] n e = refl
none_numbered (v ∷ vs) zero e = absurd cc
none_numbered (v ∷ vs) (suc n) e = none_numbered vs n e

mutual
  pub few_lists : (t : Tree Mark) → lists_in t ≤ nodes_in t
  few_lists (element x a e ks m) = let h = all_few_lists ks in omega arith
  few_lists (text_node us) = omega arith
  few_lists (cdata_node b) = omega arith
  few_lists (misc_node b) = omega arith

  all_few_lists : (ks : Forest Mark) → lists_in_all ks ≤ nodes_in_all ks
  all_few_lists no_trees = omega arith
  all_few_lists (tree t rest) = let h = few_lists t in let k = all_few_lists rest in omega arith

own_one : (v : Verdict) → own_left v ≤ 1
own_one verdict.Valid = omega arith
own_one verdict.Possible = omega arith
own_one verdict.Impossible = omega arith

-- ---- what laid marks tell
mutual
  laid_nodes : (vs : List Verdict) (at : ℕ) (t : Tree Mark) →
      told_nodes (lay_node vs at t) ≡ nodes_in t
  laid_nodes vs at (element x a e ks m) = let h = all_laid_nodes vs (suc at) ks in omega arith
  laid_nodes vs at (text_node us) = refl
  laid_nodes vs at (cdata_node b) = refl
  laid_nodes vs at (misc_node b) = refl

  all_laid_nodes : (vs : List Verdict) (at : ℕ) (ks : Forest Mark) →
      told_nodes_in (lay_kids vs at ks) ≡ nodes_in_all ks
  all_laid_nodes vs at no_trees = refl
  all_laid_nodes vs at (tree t rest) =
      let h = laid_nodes vs at t in let k = all_laid_nodes vs (at + lists_in t) rest in omega arith

mutual
  laid_left : (vs : List Verdict) (at : ℕ) (t : Tree Mark) →
      told_left (lay_node vs at t) ≤ nodes_in t
  laid_left vs at (element x a e ks m) =
      let h = all_laid_left vs (suc at) ks in let o = own_one (nth_verdict vs at) in omega arith
  laid_left vs at (text_node us) = omega arith
  laid_left vs at (cdata_node b) = omega arith
  laid_left vs at (misc_node b) = omega arith

  all_laid_left : (vs : List Verdict) (at : ℕ) (ks : Forest Mark) →
      told_left_in (lay_kids vs at ks) ≤ nodes_in_all ks
  all_laid_left vs at no_trees = omega arith
  all_laid_left vs at (tree t rest) =
      let h = laid_left vs at t in let k = all_laid_left vs (at + lists_in t) rest in omega arith

-- they can be counted
pub laid_counted : (vs : List Verdict) (at : ℕ) (t : Tree Mark) → nodes_in t ≤ 2 * MAX_NODES →
    IsCounted (lay_node vs at t)
laid_counted vs at t small =
    let l = laid_left vs at t in let n = laid_nodes vs at t in
    record { left = omega arith; nodes = omega arith }

-- ---- nodes side by side
fewer : (i : ℕ) (nodes : List Node) →
    nodes_in_all (forest (drop i nodes)) ≤ nodes_in_all (forest nodes)
fewer zero nodes = omega arith
fewer (suc i) [] = omega arith
fewer (suc i) (node ∷ nodes) = let h = fewer i nodes in omega arith

module _ (vs : List Verdict) where
  -- so many of them are laid out; the rest goes on from this number
  pub record AreLaid (number : ℕ) (before now : List Node) (i next : ℕ) : Type 0 where
    pub size : length now ≡ length before
    pub rest : drop i now ≡ drop i before
    pub few : next + nodes_in_all (forest (drop i before)) ≤ number + nodes_in_all (forest before)
    pub count : next + lists_in_all (forest (drop i before)) ≡ number + lists_in_all (forest before)
    pub laid : (ys : List Node) → forest ys ≡ lay_kids vs next (forest (drop i before)) →
        forest (take i now ++ ys) ≡ lay_kids vs number (forest before)

  pub none_laid : (number : ℕ) (before : List Node) → AreLaid number before before 0 number
  none_laid number before =
      record { size = refl; rest = refl; few = omega arith; count = refl; laid = λ ys e. e }

  module _ (number : ℕ) (before now : List Node) (i next : ℕ) (a : AreLaid number before now i next)
      (kid : Node) (h : i < length now) (k : kid ≡ get_or now i kid) where
    dropped : (xs ys : List Node) → drop i xs ≡ drop i ys → drop (i + 1) xs ≡ drop (i + 1) ys
    dropped xs ys e = sym (drop-drop 1 i xs) ∙ ap (drop 1) e ∙ drop-drop 1 i ys

    further : drop (i + 1) now ≡ drop (i + 1) before
    further = dropped now before a.rest

    step : forest (drop i before) ≡ tree (plain kid) (forest (drop (i + 1) before))
    step =
        ap forest (sym a.rest) ∙ forest-drop now i kid h k
        ∙ ap (λ l. tree (plain kid) (forest l)) further

    pub few_kid : next + nodes_in (plain kid) ≤ number + nodes_in_all (forest before)
    few_kid = let f = a.few in let s = ap nodes_in_all step in omega arith

    pub kid_smaller : nodes_in (plain kid) ≤ nodes_in_all (forest before)
    kid_smaller = let s = ap nodes_in_all step in let d = fewer i before in omega arith

    module _ (x : Node) (e : plain x ≡ lay_node vs next (plain kid)) where
      pub more_laid : AreLaid number before (slice_set now i x) (i + 1)
          (next + lists_in (plain kid))
      more_laid = record {
        size = length-set now i x ∙ a.size;
        rest = drop-set-lt (i + 1) now i x (omega arith) ∙ further;
        few =
            let f = a.few in let s = ap nodes_in_all step in let l = few_lists (plain kid) in
            omega arith;
        count = let f = a.count in let s = ap lists_in_all step in omega arith;
        laid = λ ys f.
            let y : forest (x ∷ ys) ≡ lay_kids vs next (forest (drop i before)) =
            ap (λ t. tree t (forest ys)) e ∙ ap (tree (lay_node vs next (plain kid))) f
            ∙ ap (lay_kids vs next) (sym step) in
            ap forest (ap (λ l. l ++ ys) (take_more_set now i x h)
            ∙ append_assoc (take i now) (x ∷ []) ys) ∙ a.laid (x ∷ ys) y;
      }

  pub all_laid : (number : ℕ) (before now : List Node) (i next : ℕ) →
      AreLaid number before now i next → length now ≤ i →
      (forest now ≡ lay_kids vs number (forest before)) ×
      (next ≡ number + lists_in_all (forest before))
  all_laid number before now i next a h =
      let size = a.size in
      let none : forest (drop i before) ≡ no_trees = ap forest (drop_all i before (omega arith)) in
      let l : forest (take i now ++ []) ≡ lay_kids vs number (forest before) =
      a.laid [] (sym (ap (lay_kids vs next) none)) in
      let w : take i now ++ [] ≡ now = append-nil (take i now) ∙ take_all i now h in
      let c = a.count in
      let n = ap lists_in_all none in
      (ap forest (sym w) ∙ l, omega arith)

-- the numbers of the document's own mark
pub root_counted : (vs : List Verdict) (t : Tree Mark) (v : Verdict) (doc : PlainDoc Mark) →
    nodes_in t ≤ MAX_NODES → doc.root ≡ lay_node vs 1 t → IsDocCounted (update_doc [] v None 0 doc)
root_counted vs t v doc small e =
    let l = laid_left vs 1 t in
    let n = laid_nodes vs 1 t in
    let o = own_one v in
    let f = ap told_left e in
    let m = ap told_nodes e in
    record { left = omega arith; nodes = omega arith }
