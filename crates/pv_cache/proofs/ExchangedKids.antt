-- What a mark told before some kids came, and tells of those that came.
use Rattle.std.proofs.Common.{◌≡◌, ◌∙◌, ap, sym, ℕ, ◌+◌, ◌-◌, ◌≤◌, List, [], ◌∷◌, ◌++◌, length}
use Rattle.std.proofs.Common.{take, drop, Option, Some, None, arith, subst}
use Rattle.std.specs.List.{between}
use Rattle.std.proofs.Math.Seq.{take-append_seam, drop-append_seam, drop-append-add}
use Rattle.std.proofs.lemmas.List.{length-append, length-drop, length-map}
use Rattle.std.proofs.lemmas.List.Edits.{split_between}
use Rattle.pv_dtd.specs.Plain.{PlainDtd}
use Rattle.pv_edit.specs.Changes.{Change, in_place_of, owner_after}
use Rattle.pv_edit.proofs.CutParts.{front-length}
use Rattle.pv_edit.proofs.FilledKids.{slice_plain}
use Rattle.pv_edit.proofs.Levels.{forest-trees}
use Rattle.pv_tree.specs.Lists.{an_element}
use Rattle.pv_tree.specs.Plain.{Ending, Forest, Tree, element, forest_of, trees_of}
use Rattle.pv_tree.specs.PlainForms.{forest, plain, plain_all}
use Rattle.pv_tree.proofs.Levels.{trees-forest}
use Rattle.pv_tree.specs.declared.nodes.Mark.{Mark}
use Rattle.pv_tree.specs.declared.nodes.Node.{Node}
use Rattle.pv_tree.specs.declared.nodes.Verdict.{Verdict}
use Rattle.pv_cache.specs.VerdictsAfterChange.{IsInnerJudged}
use Rattle.pv_cache.specs.Updates.{IsExchange, OwnerTellsBefore, TellsBefore, kids_beside}
use Rattle.pv_cache.specs.Updates.{update_element, update_inner}
use Rattle.pv_cache.specs.WellMarked.{TellsList, own_left, told_left_in, told_nodes_in}
use Rattle.pv_cache.specs.declared.updates.Exchange.{Exchange}
use Rattle.pv_cache.specs.declared.updates.InnerVerdict.{InnerVerdict}
use Rattle.pv_cache.proofs.ChangedOwner.{came-parts}

-- ---- sums over lists in parts
left-joined : (xs ys : List (Tree Mark)) →
    told_left_in (forest_of (xs ++ ys)) ≡ told_left_in (forest_of xs) + told_left_in (forest_of ys)
left-joined [] ys = omega arith
left-joined (x ∷ xs) ys = let h = left-joined xs ys in omega arith

nodes-joined : (xs ys : List (Tree Mark)) →
    told_nodes_in (forest_of (xs ++ ys)) ≡ told_nodes_in (forest_of xs)
    + told_nodes_in (forest_of ys)
nodes-joined [] ys = omega arith
nodes-joined (x ∷ xs) ys = let h = nodes-joined xs ys in omega arith

pub left-parts : (ts : List (Tree Mark)) (from to : ℕ) → from ≤ to →
    told_left_in (forest_of (between from to ts)) + told_left_in
    (forest_of (take from ts ++ drop to ts)) ≡ told_left_in (forest_of ts)
left-parts ts from to h =
    let e =
    ap (λ (l : List (Tree Mark)). told_left_in (forest_of l)) (split_between ts from to h) in
    let a = left-joined (take from ts) (between from to ts ++ drop to ts) in
    let b = left-joined (between from to ts) (drop to ts) in
    let c = left-joined (take from ts) (drop to ts) in
    omega arith

pub nodes-parts : (ts : List (Tree Mark)) (from to : ℕ) → from ≤ to →
    told_nodes_in (forest_of (between from to ts)) + told_nodes_in
    (forest_of (take from ts ++ drop to ts)) ≡ told_nodes_in (forest_of ts)
nodes-parts ts from to h =
    let e =
    ap (λ (l : List (Tree Mark)). told_nodes_in (forest_of l)) (split_between ts from to h) in
    let a = nodes-joined (take from ts) (between from to ts ++ drop to ts) in
    let b = nodes-joined (between from to ts) (drop to ts) in
    let c = nodes-joined (take from ts) (drop to ts) in
    omega arith

-- what the kids that came tell, as the code sees them
pub record CameTold (e : Exchange) (ks : List Node) (left nodes : ℕ) : Type 0 where
  pub in_left : left + told_left_in (forest_of (kids_beside e (plain_all ks)))
      ≡ told_left_in (forest ks)
  pub in_nodes : nodes + told_nodes_in (forest_of (kids_beside e (plain_all ks)))
      ≡ told_nodes_in (forest ks)

abbrev pub came-nodes : Exchange → List Node → List Node
came-nodes e ks = take (length ks - e.behind - e.from) (drop e.from ks)

pub came-told : (e : Exchange) (ks : List Node) → e.from + e.behind ≤ length (plain_all ks) →
    CameTold e ks (told_left_in (forest (came-nodes e ks)))
    (told_nodes_in (forest (came-nodes e ks)))
came-told e ks h =
    let ts = plain_all ks in
    let n : length ts ≡ length ks = length-map ks plain in
    let order : e.from ≤ length ts - e.behind = omega arith in
    let same : plain_all (came-nodes e ks) ≡ between e.from (length ts - e.behind) ts =
    slice_plain e.from (length ks - e.behind) ks
    ∙ ap (λ (k : ℕ). between e.from (k - e.behind) ts) (sym n) in
    let a = left-parts ts e.from (length ts - e.behind) order in
    let b = nodes-parts ts e.from (length ts - e.behind) order in
    let p = ap (λ (l : List (Tree Mark)). told_left_in (forest_of l)) same in
    let q = ap (λ (l : List (Tree Mark)). told_nodes_in (forest_of l)) same in
    record { in_left = omega arith; in_nodes = omega arith }

pub tells-there : (e : Exchange) (ks ks' : List Node) (m m' : Mark) → ks ≡ ks' → m ≡ m' →
    TellsBefore e (plain_all ks') m' → TellsBefore e (plain_all ks) m
tells-there e ks ks' m m' k l t =
    subst (λ (n : Mark). TellsBefore e (plain_all ks) n) (sym l)
    (subst (λ (ns : List Node). TellsBefore e (plain_all ns) m') (sym k) t)

abbrev mark-of : Verdict → ℕ → ℕ → ℕ → Mark
mark-of v stamp left nodes = record { verdict = v; stamp = stamp; left = left; nodes = nodes }

pub marks-same : (v : Verdict) (stamp a b c d : ℕ) → a ≡ c → b ≡ d →
    mark-of v stamp a b ≡ mark-of v stamp c d
marks-same v stamp a b c d p q = ap (λ (n : ℕ). mark-of v stamp n b) p ∙ ap (mark-of v stamp c) q

-- ---- a list before others came
module _ (ts new : List (Tree Mark)) (from to : ℕ) (h : from ≤ to) (w : to ≤ length ts)
    (e : Exchange) (f : e.from ≡ from) (b : e.behind + to ≡ length ts) where
  abbrev list : List (Tree Mark)
  list = take from ts ++ (new ++ drop to ts)

  long : (e.from + e.behind ≤ length list) ×
      (length list - e.behind ≡ length (take from ts) + length new)
  long =
      let n = front-length ts from to h w in
      let k = length-drop to ts in
      let p = length-append (take from ts) (new ++ drop to ts) in
      let q = length-append new (drop to ts) in
      (omega arith, omega arith)

  same-beside : kids_beside e list ≡ take from ts ++ drop to ts
  same-beside =
      let front = take from ts in
      let x : take e.from list ≡ front =
      ap (λ (i : ℕ). take i list) (f ∙ sym (front-length ts from to h w))
      ∙ take-append_seam front (new ++ drop to ts) in
      let y : drop (length list - e.behind) list ≡ drop to ts =
      ap (λ (i : ℕ). drop i list) long.1 ∙ drop-append-add front (new ++ drop to ts) (length new)
      ∙ drop-append_seam new (drop to ts) in
      ap (λ (l : List (Tree Mark)). l ++ drop (length list - e.behind) list) x
      ∙ ap (λ (l : List (Tree Mark)). front ++ l) y

  tells-before : (m : Mark) → e.gone.left ≡ told_left_in (forest_of (between from to ts)) →
      e.gone.nodes ≡ told_nodes_in (forest_of (between from to ts)) →
      m.left ≡ own_left m.verdict + told_left_in (forest_of ts) →
      m.nodes ≡ 1 + told_nodes_in (forest_of ts) →
      TellsBefore e list m
  tells-before m gl gn l n =
      let a = left-parts ts from to h in
      let c = nodes-parts ts from to h in
      let p = ap (λ (k : List (Tree Mark)). told_left_in (forest_of k)) same-beside in
      let q = ap (λ (k : List (Tree Mark)). told_nodes_in (forest_of k)) same-beside in
      (long.0, omega arith, omega arith)

module _ (g : PlainDtd) (root : List ℕ) (c : Change Mark) (x attrs : List ℕ) (en : Ending)
    (kids : Forest Mark) (m : Mark) (stamp : ℕ) (e : Exchange) (h : c.from ≤ c.to)
    (w : c.to ≤ length (trees_of kids)) (ex : IsExchange c (trees_of kids) e)
    (t : TellsList g root (an_element x) kids m) where
  tells-list : (new : List (Tree Mark)) →
      TellsBefore e
      (trees_of (forest_of (take c.from (trees_of kids) ++ (new ++ drop c.to (trees_of kids))))) m
  tells-list new =
      let ts = trees_of kids in
      let k = forest-trees kids in
      let l = t.left ∙ ap (λ (f : Forest Mark). own_left m.verdict + told_left_in f) (sym k) in
      let n = t.nodes ∙ ap (λ (f : Forest Mark). 1 + told_nodes_in f) (sym k) in
      subst (λ (l : List (Tree Mark)). TellsBefore e l m)
      (sym (trees-forest (take c.from ts ++ (new ++ drop c.to ts))))
      (tells-before ts new c.from c.to h w e ex.from ex.behind m ex.left ex.nodes l n)

  -- The owner of a changed list tells of the list before.
  pub owner-tells : (inner : Option InnerVerdict) →
      IsInnerJudged g root c (in_place_of c.filling (between c.from c.to (trees_of kids))) inner →
      OwnerTellsBefore e (update_inner inner stamp (owner_after c (element x attrs en kids m)))
  owner-tells None j = tells-list (in_place_of c.filling (between c.from c.to (trees_of kids)))
  owner-tells (Some i) j =
      let b = j.2 in
      let one = update_element i.verdict stamp (element b.name b.attrs b.ending b.kids b.mark) in
      subst (λ (f : Forest Mark). TellsBefore e (trees_of f) m)
      (sym (came-parts g root c (trees_of kids) i stamp h w j)) (tells-list (one ∷ []))
