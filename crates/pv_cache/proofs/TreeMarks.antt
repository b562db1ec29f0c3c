-- What the marks of a marked tree tell.
use Rattle.std.proofs.Common.{◌≡◌, ◌∙◌, ap, refl, ℕ, suc, ◌+◌, ◌≤◌, List, [], ◌∷◌, ◌++◌, arith}
use Rattle.std.specs.List.{AllByRecursion}
use Rattle.std.proofs.Common.{cond}
use Rattle.std.proofs.lemmas.List.Sums.{sum_by-cons}
use Rattle.pv_dtd.specs.Plain.{PlainDtd}
use Rattle.pv_missing.specs.Verdicts.{AreVerdicts, impossible_in, is_impossible, is_possible}
use Rattle.pv_missing.specs.Verdicts.{possible_in}
use Rattle.pv_missing.specs.Widths.{IsListForVerdict}
use Rattle.pv_tree.specs.Lists.{Listed, lists_at, lists_from, lists_of}
use Rattle.pv_tree.specs.Plain.{Forest, PlainDoc, Tree, cdata_node, element, misc_node, no_trees}
use Rattle.pv_tree.specs.Plain.{text_node, tree, nodes_in, nodes_in_all}
use Rattle.pv_tree.proofs.JoinedLists.{all_joined}
use Rattle.pv_tree.specs.declared.nodes.Mark.{Mark}
use Rattle.pv_tree.specs.declared.nodes.Verdict.{Verdict}
use Rattle.pv_tree.specs.declared.nodes.Verdict.TheVariants as verdict
use Rattle.pv_cache.specs.WellMarked.{EachList, EachListIn, IsWellMarked, TellsList, bad_in}
use Rattle.pv_cache.specs.WellMarked.{bad_in_all, own_bad, own_left, told_bad, told_left}
use Rattle.pv_cache.specs.WellMarked.{told_left_in, told_nodes, told_nodes_in, told_verdicts}
use Rattle.pv_cache.specs.WellMarked.{told_verdicts_in, verdicts_told}

-- ---- how many lists are Impossible
is-own-bad : (v : Verdict) → cond (is_impossible v) 1 0 ≡ own_bad v
is-own-bad verdict.Valid = refl
is-own-bad verdict.Possible = refl
is-own-bad verdict.Impossible = refl

pub bad-first : (v : Verdict) (vs : List Verdict) →
    impossible_in (v ∷ vs) ≡ own_bad v + impossible_in vs
bad-first v vs =
    sum_by-cons (λ w. cond (is_impossible w) 1 0) v vs
    ∙ ap (λ n. n + impossible_in vs) (is-own-bad v)

bad-joined : (vs ws : List Verdict) → impossible_in (vs ++ ws) ≡ impossible_in vs + impossible_in ws
bad-joined [] ws = omega arith
bad-joined (v ∷ vs) ws =
    let a = bad-first v (vs ++ ws) in let b = bad-first v vs in let h = bad-joined vs ws in
    omega arith

abbrev mutual
  bad-told : (t : Tree Mark) → bad_in t ≡ impossible_in (told_verdicts t)
  bad-told (element x a e kids m) =
      let p = bad-first m.verdict (told_verdicts_in kids) in let k = all-bad-told kids in
      omega arith
  bad-told (text_node us) = refl
  bad-told (cdata_node b) = refl
  bad-told (misc_node b) = refl

  all-bad-told : (kids : Forest Mark) → bad_in_all kids ≡ impossible_in (told_verdicts_in kids)
  all-bad-told no_trees = refl
  all-bad-told (tree t rest) =
      let h = bad-told t in let k = all-bad-told rest in
      let p = bad-joined (told_verdicts t) (told_verdicts_in rest) in omega arith

pub doc-bad : (doc : PlainDoc Mark) → told_bad doc ≡ impossible_in (verdicts_told doc)
doc-bad doc =
    let p = bad-first doc.mark.verdict (told_verdicts doc.root) in let k = bad-told doc.root in
    omega arith

pub own-bad-small : (v : Verdict) → own_bad v ≤ 1
own-bad-small verdict.Valid = omega arith
own-bad-small verdict.Possible = omega arith
own-bad-small verdict.Impossible = omega arith

abbrev mutual
  -- at most each node has one
  pub bad-within : (t : Tree Mark) → bad_in t ≤ nodes_in t
  bad-within (element x a e kids m) =
      let o = own-bad-small m.verdict in let k = all-bad-within kids in omega arith
  bad-within (text_node us) = omega arith
  bad-within (cdata_node b) = omega arith
  bad-within (misc_node b) = omega arith

  pub all-bad-within : (kids : Forest Mark) → bad_in_all kids ≤ nodes_in_all kids
  all-bad-within no_trees = omega arith
  all-bad-within (tree t rest) = let h = bad-within t in let k = all-bad-within rest in omega arith

module _ (g : PlainDtd) (root : List ℕ) where
  abbrev mutual
    -- the nodes of a marked tree
    pub nodes-told : (t : Tree Mark) → EachList (TellsList g root) t → told_nodes t ≡ nodes_in t
    nodes-told (element x a e kids m) w =
        let h = w.0.nodes in let k = all-nodes-told kids w.1 in omega arith
    nodes-told (text_node us) w = refl
    nodes-told (cdata_node b) w = refl
    nodes-told (misc_node b) w = refl

    pub all-nodes-told : (kids : Forest Mark) → EachListIn (TellsList g root) kids →
        told_nodes_in kids ≡ nodes_in_all kids
    all-nodes-told no_trees w = refl
    all-nodes-told (tree t rest) w =
        let h = nodes-told t w.0 in let k = all-nodes-told rest w.1 in omega arith

  pub own-small : (v : Verdict) → own_left v ≤ 1
  own-small verdict.Valid = omega arith
  own-small verdict.Possible = omega arith
  own-small verdict.Impossible = omega arith

  abbrev mutual
    -- at most each node has a Possible list
    pub left-within : (t : Tree Mark) → EachList (TellsList g root) t → told_left t ≤ told_nodes t
    left-within (element x a e kids m) w =
        let l = w.0.left in let n = w.0.nodes in let o = own-small m.verdict in
        let k = all-left-within kids w.1 in omega arith
    left-within (text_node us) w = omega arith
    left-within (cdata_node b) w = omega arith
    left-within (misc_node b) w = omega arith

    pub all-left-within : (kids : Forest Mark) → EachListIn (TellsList g root) kids →
        told_left_in kids ≤ told_nodes_in kids
    all-left-within no_trees w = omega arith
    all-left-within (tree t rest) w =
        let h = left-within t w.0 in let k = all-left-within rest w.1 in omega arith

  pub joined : (xs ys : List (Listed Mark)) (vs ws : List Verdict) → AreVerdicts g root xs vs →
      AreVerdicts g root ys ws → AreVerdicts g root (xs ++ ys) (vs ++ ws)
  joined [] ys vs ws a b = rw a b
  joined (x ∷ xs) ys vs ws a b =
      (a.0, a.1 ++ ws, ap (λ l. l ++ ws) a.2, a.3, joined xs ys a.1 ws a.4 b)

  abbrev mutual
    pub are-told : (path : List ℕ) (t : Tree Mark) → EachList (TellsList g root) t →
        AreVerdicts g root (lists_at path t) (told_verdicts t)
    are-told path (element x a e kids m) w =
        (m.verdict, told_verdicts_in kids, refl, w.0.judged, all-are-told path 0 kids w.1)
    are-told path (text_node us) w = refl
    are-told path (cdata_node b) w = refl
    are-told path (misc_node b) w = refl

    pub all-are-told : (path : List ℕ) (i : ℕ) (kids : Forest Mark) →
        EachListIn (TellsList g root) kids →
        AreVerdicts g root (lists_from path i kids) (told_verdicts_in kids)
    all-are-told path i no_trees w = refl
    all-are-told path i (tree t rest) w =
        joined (lists_at (path ++ i ∷ []) t) (lists_from path (suc i) rest) (told_verdicts t)
        (told_verdicts_in rest) (are-told (path ++ i ∷ []) t w.0)
        (all-are-told path (suc i) rest w.1)

  is-own : (v : Verdict) → cond (is_possible v) 1 0 ≡ own_left v
  is-own verdict.Valid = refl
  is-own verdict.Possible = refl
  is-own verdict.Impossible = refl

  pub possible-first : (v : Verdict) (vs : List Verdict) →
      possible_in (v ∷ vs) ≡ own_left v + possible_in vs
  possible-first v vs =
      sum_by-cons (λ w. cond (is_possible w) 1 0) v vs ∙ ap (λ n. n + possible_in vs) (is-own v)

  pub possible-joined : (vs ws : List Verdict) →
      possible_in (vs ++ ws) ≡ possible_in vs + possible_in ws
  possible-joined [] ws = omega arith
  possible-joined (v ∷ vs) ws =
      let a = possible-first v (vs ++ ws) in let b = possible-first v vs in
      let h = possible-joined vs ws in omega arith

  abbrev mutual
    pub left-told : (t : Tree Mark) → EachList (TellsList g root) t →
        told_left t ≡ possible_in (told_verdicts t)
    left-told (element x a e kids m) w =
        let l = w.0.left in let p = possible-first m.verdict (told_verdicts_in kids) in
        let k = all-left-told kids w.1 in omega arith
    left-told (text_node us) w = refl
    left-told (cdata_node b) w = refl
    left-told (misc_node b) w = refl

    pub all-left-told : (kids : Forest Mark) → EachListIn (TellsList g root) kids →
        told_left_in kids ≡ possible_in (told_verdicts_in kids)
    all-left-told no_trees w = refl
    all-left-told (tree t rest) w =
        let h = left-told t w.0 in let k = all-left-told rest w.1 in
        let p = possible-joined (told_verdicts t) (told_verdicts_in rest) in omega arith

  abbrev mutual
    -- none is too wide
    pub lists-narrow : (path : List ℕ) (t : Tree Mark) → EachList (TellsList g root) t →
        AllByRecursion (IsListForVerdict g) (lists_at path t)
    lists-narrow path (element x a e kids m) w = (w.0.narrow, all-lists-narrow path 0 kids w.1)
    lists-narrow path (text_node us) w = tt
    lists-narrow path (cdata_node b) w = tt
    lists-narrow path (misc_node b) w = tt

    pub all-lists-narrow : (path : List ℕ) (i : ℕ) (kids : Forest Mark) →
        EachListIn (TellsList g root) kids →
        AllByRecursion (IsListForVerdict g) (lists_from path i kids)
    all-lists-narrow path i no_trees w = tt
    all-lists-narrow path i (tree t rest) w =
        all_joined (IsListForVerdict g) (lists_at (path ++ i ∷ []) t) (lists_from path (suc i) rest)
        (lists-narrow (path ++ i ∷ []) t w.0) (all-lists-narrow path (suc i) rest w.1)

  module _ (doc : PlainDoc Mark) (w : IsWellMarked g root doc) where
    pub doc-told : AreVerdicts g root (lists_of doc) (verdicts_told doc)
    doc-told = (
      doc.mark.verdict,
      told_verdicts doc.root,
      refl,
      w.document.judged,
      are-told (0 ∷ []) doc.root w.elements,
    )

    pub doc-left : doc.mark.left ≡ possible_in (verdicts_told doc)
    doc-left =
        let l = w.document.left in
        let p = possible-first doc.mark.verdict (told_verdicts doc.root) in
        let k = left-told doc.root w.elements in omega arith

    pub doc-nodes : doc.mark.nodes ≡ nodes_in doc.root
    doc-nodes = let n = w.document.nodes in let k = nodes-told doc.root w.elements in omega arith

    pub doc-narrow : AllByRecursion (IsListForVerdict g) (lists_of doc)
    doc-narrow = (w.document.narrow, lists-narrow (0 ∷ []) doc.root w.elements)
