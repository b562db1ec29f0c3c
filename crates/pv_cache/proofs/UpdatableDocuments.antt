-- A changed document can be updated, and is well marked then.
use Rattle.std.proofs.Common.{◌≡◌, ◌∙◌, ap, sym, refl, ℕ, zero, suc, ◌+◌, ◌<◌, ◌≤◌, ◌^◌, true, List}
use Rattle.std.proofs.Common.{[], ◌∷◌, ◌++◌, length, take, drop, Option, Some, None, slice_get}
use Rattle.std.proofs.Common.{arith, subst, IsTrue}
use Rattle.std.specs.Coded.{Unit-prop}
use Rattle.std.specs.Prelude.{IfSome, IsSomeAnd, false}
use Rattle.std.specs.List.{between}
use Rattle.std.proofs.Math.Bool.{Bool-set}
use Rattle.std.proofs.Math.Bridge.{le_prop}
use Rattle.std.proofs.Math.Logic.{∥∥₁_elim, ∥∥₁_map}
use Rattle.std.proofs.Math.Nat.{ℕ_set}
use Rattle.pv_dtd.specs.Plain.{PlainDtd}
use Rattle.pv_edit.specs.BroughtElements.{BringsBare}
use Rattle.pv_edit.specs.Changes.{Change, doc_after, in_place_of, list_after, owner_after}
use Rattle.pv_edit.specs.Changes.{root_after}
use Rattle.pv_edit.specs.FittingChanges.{CanChange}
use Rattle.pv_edit.specs.Inverses.{IsKept}
use Rattle.pv_edit.specs.Reasons.{is_top, kids_at}
use Rattle.pv_edit.proofs.CutParts.{front-length}
use Rattle.pv_edit.proofs.ListsKeptByUndo.{can-made}
use Rattle.pv_edit.proofs.NodePlaces.{at_kid, at_node}
use Rattle.pv_edit.proofs.DocumentAsElement.{Made, owner-kids}
use Rattle.pv_tree.specs.Legal.{MAX_NODES}
use Rattle.pv_tree.specs.Places.{kids_of}
use Rattle.pv_tree.specs.Plain.{PlainDoc, Tree, cdata_node, element, is_element, misc_node}
use Rattle.pv_tree.specs.Plain.{nodes_in, text_node, trees_of}
use Rattle.pv_tree.proofs.Levels.{trees-forest}
use Rattle.pv_tree.specs.declared.nodes.Mark.{Mark}
use Rattle.pv_tree.specs.declared.nodes.Verdict.{Verdict}
use Rattle.pv_cache.specs.VerdictsAfterChange.{AreJudged, IsInnerJudged, owner_at}
use Rattle.pv_cache.specs.Updates.{CanUpdate, CanUpdateDoc, CanUpdateOwner, HasElement, IsDocCounted}
use Rattle.pv_cache.specs.Updates.{IsExchange, OwnerTellsBefore, update_doc, update_inner}
use Rattle.pv_cache.specs.WellMarked.{IsWellMarked, TellsList, told_left, told_left_in, told_nodes}
use Rattle.pv_cache.specs.WellMarked.{told_nodes_in}
use Rattle.pv_cache.specs.declared.updates.Exchange.{Exchange}
use Rattle.pv_cache.specs.declared.updates.InnerVerdict.{InnerVerdict}
use Rattle.pv_cache.proofs.MarksAroundNodes.{Around, below-shows, beside-kid, changed-around}
use Rattle.pv_cache.proofs.MarksAroundNodes.{further}
use Rattle.pv_cache.proofs.MarksAroundNodes.{right-here}
use Rattle.pv_cache.proofs.Docs.{in-root, updated-marked, owner-shows}
use Rattle.pv_cache.proofs.ExchangedKids.{owner-tells}
use Rattle.pv_cache.proofs.NodeLists.{node-has}
use Rattle.pv_cache.proofs.TreeMarks.{doc-nodes, left-within, nodes-told, own-small}
use Rattle.pv_cache.proofs.MarksAlone.{doc-as, still-kept}

-- that a document can be updated is a proposition
no-prop : IsProp ⊥
no-prop = λ a. absurd a

some-prop : {A : Type 0} (P : A → Type 0) → ((x : A) → IsProp (P x)) → (o : Option A) →
    IsProp (IsSomeAnd o P)
some-prop P p None = no-prop
some-prop P p (Some x) = p x

element-prop : (t : Tree Mark) → IsProp (IsTrue (is_element t))
element-prop t = Bool-set (is_element t) true

inner-prop : (inner : Option InnerVerdict) (t : Tree Mark) →
    IsProp (IfSome inner (λ i. HasElement (kids_of t) i.place))
inner-prop None t = Unit-prop
inner-prop (Some i) t =
    some-prop (λ k. IsTrue (is_element k)) element-prop (slice_get (kids_of t) i.place)

flat-prop : {A B C : Type 0} → IsProp A → IsProp B → IsProp C → IsProp (A × B × C)
flat-prop {A} {B} {C} p q r =
    λ x y. ap (λ (z : A). (z, x.1, x.2)) (p x.0 y.0) ∙ ap (λ (z : B). (y.0, z, x.2)) (q x.1 y.1)
    ∙ ap (λ (z : C). (y.0, y.1, z)) (r x.2 y.2)

tells-prop : (e : Exchange) (t : Tree Mark) → IsProp (OwnerTellsBefore e t)
tells-prop e (element x a en kids m) =
    flat-prop (le_prop {n = e.from + e.behind} {m = length (trees_of kids)}) (ℕ_set _ _) (ℕ_set _ _)
tells-prop e (text_node us) = no-prop
tells-prop e (cdata_node b) = no-prop
tells-prop e (misc_node b) = no-prop

owner-prop : (inner : Option InnerVerdict) (stamp : ℕ) (e : Exchange) (t : Tree Mark) →
    IsProp (CanUpdateOwner inner stamp e t)
owner-prop inner stamp e t =
    flat-prop (element-prop t) (inner-prop inner t) (tells-prop e (update_inner inner stamp t))

module _ (P : Tree Mark → Type 0) (p : (t : Tree Mark) → IsProp (P t)) where
  can-prop : (path : List ℕ) (t : Tree Mark) → IsProp (CanUpdate P path t)
  can-prop [] t = p t
  can-prop (i ∷ path) (element x a e kids m) =
      flat-prop (le_prop {n = told_left_in kids} {m = m.left})
      (le_prop {n = told_nodes_in kids} {m = m.nodes})
      (some-prop (CanUpdate P path) (can-prop path) (slice_get (trees_of kids) i))
  can-prop (i ∷ path) (text_node us) = no-prop
  can-prop (i ∷ path) (cdata_node b) = no-prop
  can-prop (i ∷ path) (misc_node b) = no-prop

  doc-prop : (path : List ℕ) (doc : PlainDoc Mark) → IsProp (CanUpdateDoc P path doc)
  doc-prop [] doc = Unit-prop
  doc-prop (i ∷ path) doc =
      flat-prop (le_prop {n = told_left doc.root} {m = doc.mark.left})
      (le_prop {n = told_nodes doc.root} {m = doc.mark.nodes}) (can-prop path doc.root)

pub get-middle : {X : Type 0} (xs ys : List X) (n : X) →
    slice_get (xs ++ (n ∷ ys)) (length xs) ≡ Some n
get-middle [] ys n = refl
get-middle (x ∷ xs) ys n = get-middle xs ys n

module _ (g : PlainDtd) (root : List ℕ) where
  around-can : (P : Tree Mark → Type 0) {path : List ℕ} {t u : Tree Mark} → Around g root path t u →
      P u → CanUpdate P path t
  around-can P right-here c = c
  around-can P (further {i = i} {path = path} {kids = kids} {m = m} h b a) c =
      let l = h.left in
      let n = h.nodes in (
        omega arith,
        omega arith,
        subst (λ (o : Option (Tree Mark)). IsSomeAnd o (CanUpdate P path))
            (sym (at_kid (beside-kid g root b))) (around-can P a c),
      )

  inner-stands : (c : Change Mark) (ts : List (Tree Mark)) (inner : Option InnerVerdict) →
      c.from ≤ c.to → c.to ≤ length ts →
      IsInnerJudged g root c (in_place_of c.filling (between c.from c.to ts)) inner →
      IfSome inner (λ i. HasElement (list_after c ts) i.place)
  inner-stands c ts None h w j = tt
  inner-stands c ts (Some i) h w j =
      let b = j.2 in
      let n = element b.name b.attrs b.ending b.kids b.mark in
      let place : i.place ≡ length (take c.from ts) = j.1 ∙ sym (front-length ts c.from c.to h w) in
      let is : list_after c ts ≡ take c.from ts ++ (n ∷ drop c.to ts) =
      ap (λ (l : List (Tree Mark)). take c.from ts ++ (l ++ drop c.to ts)) b.is_one in
      let get : slice_get (list_after c ts) i.place ≡ Some n =
      ap (λ (l : List (Tree Mark)). slice_get l i.place) is
      ∙ ap (slice_get (take c.from ts ++ (n ∷ drop c.to ts))) place
      ∙ get-middle (take c.from ts) (drop c.to ts) n in
      subst (λ (o : Option (Tree Mark)). IsSomeAnd o (λ t. IsTrue (is_element t))) (sym get) refl

  module _ (doc : PlainDoc Mark) (c : Change Mark) (v : Verdict) (inner : Option InnerVerdict)
      (stamp : ℕ) (ex : Exchange) where
    abbrev Updatable : Tree Mark → Type 0
    Updatable = CanUpdateOwner inner stamp ex

    can-inside : IsWellMarked g root doc → (path : List ℕ) (ts : List (Tree Mark)) →
        Made doc.mark (zero ∷ path) c doc.root ts →
        IsInnerJudged g root c (in_place_of c.filling (between c.from c.to ts)) inner →
        IsExchange c ts ex →
        CanUpdateDoc Updatable (zero ∷ path)
        (record doc { root = root_after (zero ∷ path) c doc.root })
    can-inside w path ts d j x =
        let o = d.owner in
        let n = in-root o.node in
        let shows = owner-shows c o.name o.attrs o.ending o.kids o.mark in
        let a = changed-around g root (owner_after c) n shows w.elements in
        let s = below-shows (owner_after c) n shows in
        let l = w.document.left in
        let m = w.document.nodes in
        let sl = s.left in
        let sn = s.nodes in
        let stands = inner-stands c ts inner d.order d.within j in
        let kids : kids_of (owner_after c (element o.name o.attrs o.ending o.kids o.mark))
        ≡ list_after c ts =
        trees-forest (list_after c (trees_of o.kids)) ∙ ap (list_after c) o.are in
        let own = node-has (TellsList g root) n w.elements in
        let within : c.to ≤ length (trees_of o.kids) =
        subst (λ (k : List (Tree Mark)). c.to ≤ length k) (sym o.are) d.within in
        let inner-judged =
        subst (λ (k : List (Tree Mark)).
        IsInnerJudged g root c (in_place_of c.filling (between c.from c.to k)) inner)
        (sym o.are) j in
        let exchanged = subst (λ (k : List (Tree Mark)). IsExchange c k ex) (sym o.are) x in
        let tells =
        owner-tells g root c o.name o.attrs o.ending o.kids o.mark stamp ex d.order within exchanged
        own.0 inner inner-judged in
        let here : Updatable (owner_after c (element o.name o.attrs o.ending o.kids o.mark)) = (
          refl,
          subst (λ (ks : List (Tree Mark)). IfSome inner (λ i. HasElement ks i.place))
              (sym kids) stands,
          tells,
        ) in
        (omega arith, omega arith, around-can Updatable a here)

    can-by : IsWellMarked g root doc → (list : List ℕ) (ts : List (Tree Mark)) →
        Made doc.mark list c doc.root ts →
        IsInnerJudged g root c (in_place_of c.filling (between c.from c.to ts)) inner →
        IsExchange c ts ex →
        CanUpdateDoc Updatable list (record doc { root = root_after list c doc.root })
    can-by w [] ts d j x = tt
    can-by w (zero ∷ path) ts d j x = can-inside w path ts d j x
    can-by w (suc k ∷ path) ts d j x = let h = at_node d.owner.node in absurd cc

    module _ (can : CanChange c.list c doc.root) (unshort : is_top c.list ≡ true →
        c.shorten ≡ false) (bare : BringsBare c.filling)
        (j : AreJudged g root (owner_at c.list doc.root) (kids_at c.list doc.root) c v inner) where
      pub ready-can : ∥ IsWellMarked g root doc ∥₁ → IsExchange c (kids_at c.list doc.root) ex →
          CanUpdateDoc Updatable c.list (doc_after c doc)
      ready-can m x =
          ∥∥₁_elim m (doc-prop Updatable (owner-prop inner stamp ex) c.list (doc_after c doc)) (λ w.
          let d = can-made doc.mark c.list c doc.root can unshort in
          let same = owner-kids d.1.owner in
          can-by w c.list d.0 d.1
          (subst (λ (ts : List (Tree Mark)).
          IsInnerJudged g root c (in_place_of c.filling (between c.from c.to ts)) inner) same
          j.within) (subst (λ (ts : List (Tree Mark)). IsExchange c ts ex) same x))

      pub ready-marked : ∥ IsWellMarked g root doc ∥₁ →
          ∥ IsWellMarked g root (update_doc c.list v inner stamp (doc_after c doc)) ∥₁
      ready-marked m =
          ∥∥₁_map m (λ w. updated-marked g root doc c v inner stamp w can unshort bare j)

      abbrev pub new : PlainDoc Mark
      new = update_doc c.list v inner stamp (doc_after c doc)

      -- the numbers that its mark tells are small
      module _ (kept : IsKept (root_after c.list c doc.root)) where
        small : nodes_in new.root ≤ MAX_NODES
        small =
            (still-kept (root_after c.list c doc.root) new.root
            (ap (λ (d : PlainDoc Unit). d.root) (doc-as c.list v inner stamp (doc_after c doc)))
            kept).small

        few-nodes : IsWellMarked g root new → new.mark.nodes < 2 ^ 64
        few-nodes w = let n = doc-nodes g root new w in let s = small in omega arith

        few-left : IsWellMarked g root new → new.mark.left < 2 ^ 64
        few-left w =
            let l = w.document.left in
            let o = own-small g root new.mark.verdict in
            let k = left-within g root new.root w.elements in
            let n = nodes-told g root new.root w.elements in
            let s = small in
            omega arith

        pub ready-counted : ∥ IsWellMarked g root doc ∥₁ → IsDocCounted new
        ready-counted m =
            record {
              left = ∥∥₁_elim (ready-marked m) le_prop few-left;
              nodes = ∥∥₁_elim (ready-marked m) le_prop few-nodes;
            }
