-- A document after a change, updated.
use Rattle.std.proofs.Common.{◌≡◌, ◌∙◌, ap, sym, refl, ℕ, zero, suc, ◌+◌, ◌≤◌, List, [], ◌∷◌, ◌++◌}
use Rattle.std.proofs.Common.{length, take, drop, Option, Some, None, arith, subst}
use Rattle.std.specs.List.{between}
use Rattle.std.specs.Option.{option_map}
use Rattle.std.proofs.lemmas.List.{length-append}
use Rattle.pv_dtd.specs.Plain.{PlainDtd}
use Rattle.pv_edit.specs.BroughtElements.{BringsBare}
use Rattle.pv_edit.specs.Changes.{Change, Filling, around, named, others, inner as own_kids}
use Rattle.pv_edit.specs.Changes.{change_below, first_tree, in_place_of, list_after, owner_after}
use Rattle.pv_edit.specs.Changes.{root_after}
use Rattle.pv_edit.specs.Inverses.{name_on}
use Rattle.pv_edit.proofs.CutParts.{front-length}
use Rattle.pv_edit.proofs.NodePlaces.{first, NodeAt, down, at_node}
use Rattle.pv_edit.proofs.StayingLists.{HaveNoKids}
use Rattle.pv_edit.proofs.DocumentAsElement.{whole, Made, owner-kids, top-kids}
use Rattle.pv_edit.proofs.ListsKeptByUndo.{can-made}
use Rattle.pv_edit.specs.Reasons.{kids_at}
use Rattle.pv_tree.specs.Heads.{heads_of}
use Rattle.pv_tree.specs.Lists.{an_element, the_document}
use Rattle.pv_tree.specs.Places.{at_node as at_spot}
use Rattle.pv_tree.specs.Plain.{Ending, Forest, PlainDoc, Tree, element, forest_of, no_trees, tree}
use Rattle.pv_tree.specs.Plain.{trees_of}
use Rattle.pv_tree.specs.declared.nodes.Mark.{Mark}
use Rattle.pv_tree.specs.declared.nodes.Verdict.{Verdict}
use Rattle.pv_cache.specs.VerdictsAfterChange.{AreJudged, IsInnerJudged, owner_at}
use Rattle.pv_cache.specs.Laws.{MarksTell, UpdatedIsMarked}
use Rattle.pv_cache.specs.Updates.{update_below, update_doc, update_kids, update_owner, update_root}
use Rattle.pv_cache.specs.declared.updates.InnerVerdict.{InnerVerdict}
use Rattle.pv_cache.specs.WellMarked.{EachListIn, IsWellMarked, TellsList}
use Rattle.pv_cache.proofs.MarksAroundNodes.{ShowsSame, ShowSame, below-shows, changed-around}
use Rattle.pv_cache.proofs.MarksAroundNodes.{around-node}
use Rattle.pv_cache.proofs.MarksAroundNodes.{below-head, updated-around, tells-again, tells-same}
use Rattle.pv_cache.proofs.NodeLists.{node-has}
use Rattle.pv_cache.proofs.TreeMarks.{doc-bad, doc-left, doc-narrow, doc-nodes, doc-told}
use Rattle.pv_cache.proofs.ChangedOwner.{fresh-tells, kids-heads, list-marked, owner-marked}

pub in-root : {M : Type 0} {m : M} {path : List ℕ} {root u : Tree M} →
    NodeAt (zero ∷ path) (whole m root) u → NodeAt path root u
in-root (down first n) = n

pub root-name : {M : Type 0} (path : List ℕ) (root : Tree M) (x attrs : List ℕ) (e : Ending)
    (kids : Forest M) (m : M) → NodeAt path root (element x attrs e kids m) →
    owner_at (zero ∷ path) root ≡ an_element x
root-name path root x attrs e kids m n =
    ap (λ o. an_element (name_on (option_map at_spot o))) (at_node n)

pub owner-shows : (c : Change Mark) (x attrs : List ℕ) (e : Ending) (kids : Forest Mark)
    (m : Mark) → ShowsSame (owner_after c (element x attrs e kids m)) (element x attrs e kids m)
owner-shows c x attrs e kids m = record { head = refl; left = refl; nodes = refl }

pub only : {M : Type 0} (root : Tree M) (ts : List (Tree M)) → length ts ≡ 1 →
    ts ≡ first_tree root ts ∷ []
only root [] n = absurd (omega arith)
only root (t ∷ []) n = refl
only root (t ∷ u ∷ ts) n = absurd (omega arith)

-- the list of the document node holds the root alone, and what came is the root
pub top-list : (stamp : ℕ) (t : Tree Mark) (list : List (Tree Mark)) → list ≡ t ∷ [] →
    (i : Option InnerVerdict) → ((k : InnerVerdict) → i ≡ Some k → k.place ≡ 0) →
    update_kids i stamp (forest_of list) ≡ tree (update_root i stamp t) no_trees
top-list stamp t list e None p = ap forest_of e
top-list stamp t list e (Some k) p =
    ap (λ l. update_kids (Some k) stamp (forest_of l)) e
    ∙ ap (λ n. update_kids (Some (record k { place = n })) stamp (tree t no_trees)) (p k refl)

pub top-place : (g : PlainDtd) (root : List ℕ) (c : Change Mark) (ts : List (Tree Mark)) →
    c.from ≤ c.to → c.to ≤ length ts → length (list_after c ts) ≡ 1 → (i : Option InnerVerdict) →
    IsInnerJudged g root c (in_place_of c.filling (between c.from c.to ts)) i → (k : InnerVerdict) →
    i ≡ Some k → k.place ≡ 0
top-place g root c ts h l n None j k e = absurd cc
top-place g root c ts h l n (Some i) j k e =
    let b = j.2 in
    let front = front-length ts c.from c.to h l in
    let whole : length
    (take c.from ts ++ (in_place_of c.filling (between c.from c.to ts) ++ drop c.to ts)) ≡ 1 = n in
    let many =
    length-append (take c.from ts)
    (in_place_of c.filling (between c.from c.to ts) ++ drop c.to ts) in
    let some : length (in_place_of c.filling (between c.from c.to ts) ++ drop c.to ts)
    ≡ suc (length (drop c.to ts)) =
    ap (λ (l : List (Tree Mark)). length (l ++ drop c.to ts)) b.is_one in
    let p : i.place ≡ c.from = j.1 in
    let s : i ≡ k = cc in
    let q : i.place ≡ 0 = omega arith in
    ap (λ (m : InnerVerdict). m.place) (sym s) ∙ q

module _ (g : PlainDtd) (root : List ℕ) (doc : PlainDoc Mark) (w : IsWellMarked g root doc)
    (c : Change Mark) (z : HaveNoKids c.filling) (v : Verdict) (inner : Option InnerVerdict)
    (stamp : ℕ) where
  below-marked : (path : List ℕ) (ts : List (Tree Mark)) →
      Made doc.mark (zero ∷ path) c doc.root ts →
      AreJudged g root (owner_at (zero ∷ path) doc.root) ts c v inner
      → IsWellMarked g root
      (update_doc (zero ∷ path) v inner stamp
      (record doc { root = root_after (zero ∷ path) c doc.root }))
  below-marked path ts d j =
      let o = d.owner in
      let n = in-root o.node in
      let name = root-name path doc.root o.name o.attrs o.ending o.kids o.mark n in
      let within : c.to ≤ length (trees_of o.kids) =
      subst (λ k. c.to ≤ length k) (sym o.are) d.within in
      let judged : AreJudged g root (an_element o.name) (trees_of o.kids) c v inner =
      rw (← name, o.are) j in
      let u = element o.name o.attrs o.ending o.kids o.mark in
      let a =
      changed-around g root (owner_after c) n
      (owner-shows c o.name o.attrs o.ending o.kids o.mark) w.elements in
      let has = node-has (TellsList g root) n w.elements in
      let m =
      owner-marked g root c o.name o.attrs o.ending o.kids o.mark v inner stamp d.order within
      z judged has.1 in
      let shows =
      below-shows (owner_after c) n (owner-shows c o.name o.attrs o.ending o.kids o.mark) in
      let old : Tree Mark = change_below path (owner_after c) doc.root in
      let new : Tree Mark = update_below path (update_owner v inner stamp) old in
      let same : ShowSame (tree old no_trees) (tree doc.root no_trees) =
      record {
        heads = ap (λ h. h ∷ []) shows.head;
        left = ap (λ k. k + 0) shows.left;
        nodes = ap (λ k. k + 0) shows.nodes;
      } in
      let told =
      tells-same g root the_document (tree doc.root no_trees) (tree old no_trees) doc.mark
      same w.document in
      record {
        document =
            tells-again g root the_document (tree old no_trees) (tree new no_trees) doc.mark
            (ap (λ h. h ∷ []) (below-head (update_owner v inner stamp) (around-node g root a) refl))
            told;
        elements = updated-around g root (update_owner v inner stamp) a refl m;
      }

  top-marked : (ts : List (Tree Mark)) → Made doc.mark [] c doc.root ts →
      AreJudged g root the_document ts c v inner →
      IsWellMarked g root
      (update_doc [] v inner stamp (record doc { root = root_after [] c doc.root }))
  top-marked ts d j =
      let k = top-kids d.owner in
      let judged : AreJudged g root the_document (doc.root ∷ []) c v inner = rw (← k) j in
      let one : length (list_after c (doc.root ∷ [])) ≡ 1 = rw (← k) (d.one refl) in
      let within : c.to ≤ length (doc.root ∷ []) = subst (λ l. c.to ≤ length l) k d.within in
      let t = first_tree doc.root (list_after c (doc.root ∷ [])) in
      let is = only doc.root (list_after c (doc.root ∷ [])) one in
      let e =
      top-list stamp t (list_after c (doc.root ∷ [])) is inner
      (top-place g root c (doc.root ∷ []) d.order within one inner judged.within) in
      let m =
      list-marked g root c (doc.root ∷ []) inner stamp d.order within z judged.within
      (w.elements, tt) in
      let marked : EachListIn (TellsList g root) (tree (update_root inner stamp t) no_trees) =
      subst (EachListIn (TellsList g root)) e m in
      record {
        document =
            fresh-tells g root the_document (forest_of (list_after c (doc.root ∷ [])))
            (tree (update_root inner stamp t) no_trees) v stamp (ap heads_of (sym e)
            ∙ kids-heads inner stamp (forest_of (list_after c (doc.root ∷ [])))) judged.outer;
        elements = marked.0;
      }

pub bare-kids : (f : Filling Mark) → BringsBare f → HaveNoKids f
bare-kids (others trees) b = b.0
bare-kids (around name attrs ending mark) b = tt
bare-kids own_kids b = tt
bare-kids (named name) b = tt

pub owner-list : {M : Type 0} {m : M} {list : List ℕ} {root : Tree M} {ts : List (Tree M)}
    {c : Change M} → Made m list c root ts → kids_at list root ≡ ts
owner-list d = owner-kids d.owner

after-marked : (g : PlainDtd) (root : List ℕ) (doc : PlainDoc Mark) (c : Change Mark) (v : Verdict)
    (i : Option InnerVerdict) (stamp : ℕ) → IsWellMarked g root doc → BringsBare c.filling →
    (list : List ℕ) (ts : List (Tree Mark)) → Made doc.mark list c doc.root ts →
    AreJudged g root (owner_at list doc.root) (kids_at list doc.root) c v i →
    IsWellMarked g root (update_doc list v i stamp (record doc { root = root_after list c doc.root }))
after-marked g root doc c v i stamp w b [] ts d j =
    top-marked g root doc w c (bare-kids c.filling b) v i stamp ts d (rw (owner-list d) at j)
after-marked g root doc c v i stamp w b (zero ∷ path) ts d j =
    below-marked g root doc w c (bare-kids c.filling b) v i stamp path ts d (rw (owner-list d) at j)
after-marked g root doc c v i stamp w b (suc k ∷ path) ts d j =
    let h = at_node d.owner.node in absurd cc

pub updated-marked : UpdatedIsMarked
updated-marked g root doc c v i stamp w can unshort b j =
    let d = can-made doc.mark c.list c doc.root can unshort in
    after-marked g root doc c v i stamp w b c.list d.0 d.1 j

pub marks-tell : MarksTell
marks-tell g root doc w = (
  doc-told g root doc w,
  doc-left g root doc w,
  doc-nodes g root doc w,
  doc-bad doc,
  doc-narrow g root doc w,
)
