-- The first Impossible one of the lists that a change changes.
use Rattle.std.proofs.Common.{Bool, List, Option, Some, [], ap, false, refl, subst, suc, sym, true}
use Rattle.std.proofs.Common.{zero, ℕ, ◌++◌, ◌∙◌, ◌∷◌, ◌≡◌}
use Rattle.std.specs.List.{AllByRecursion, between}
use Rattle.pv_cache.specs.VerdictsAfterChange.{AreJudged, IsFirstAmong, IsFirstImpossibleAt}
use Rattle.pv_cache.specs.VerdictsAfterChange.{IsInnerJudged}
use Rattle.pv_cache.specs.VerdictsAfterChange.{IsLiveListAt, inner_first, outer_first, owner_at}
use Rattle.pv_cache.specs.Laws.{FirstIsFirstAmong}
use Rattle.pv_cache.specs.declared.updates.InnerVerdict.{InnerVerdict}
use Rattle.pv_cache.proofs.Docs.{in-root, owner-list, root-name}
use Rattle.pv_cache.proofs.Limits.{came_stands, inner_stands, list_stands, lists_are, lists_by}
use Rattle.pv_cache.proofs.Limits.{node_changed}
use Rattle.pv_dtd.specs.Plain.{PlainDtd}
use Rattle.pv_edit.specs.BroughtElements.{brings_element, lists_changed}
use Rattle.pv_edit.specs.Changes.{Change, change_below, doc_after, in_place_of, list_after}
use Rattle.pv_edit.specs.Changes.{owner_after, root_after}
use Rattle.pv_edit.specs.Inverses.{name_on}
use Rattle.pv_edit.proofs.ListsKeptByUndo.{can-made}
use Rattle.pv_edit.proofs.Levels.{forest-trees}
use Rattle.pv_edit.proofs.NodePlaces.{at_node}
use Rattle.pv_edit.proofs.DocumentAsElement.{Made}
use Rattle.pv_missing.specs.Verdicts.{IsLiveBy}
use Rattle.pv_missing.proofs.VerdictLists.{live_of}
use Rattle.pv_tree.specs.Lists.{Owner, an_element}
use Rattle.pv_tree.specs.Places.{spot_at}
use Rattle.pv_tree.specs.Places.{at_node as at_spot}
use Rattle.pv_tree.specs.Plain.{Ending, Forest, PlainDoc, Tree, element, forest_of, trees_of}
use Rattle.pv_tree.specs.declared.nodes.Mark.{Mark}
use Rattle.pv_tree.specs.declared.nodes.Verdict.{Verdict}
use Rattle.pv_tree.specs.declared.nodes.Verdict.TheVariants as verdict

-- ---- a first path of paths is one
one_place : {X : Type 0} (P : X → Type 0) (b a c d : List X) (p q : X) → b ++ p ∷ a ≡ c ++ q ∷ d →
    AllByRecursion P b → AllByRecursion P c → (P p → ⊥) → (P q → ⊥) → p ≡ q
one_place P [] a [] d p q e x y n m = cc
one_place P [] a (z ∷ c) d p q e x y n m = let s : z ≡ p = cc in absurd (n (subst P s y.0))
one_place P (z ∷ b) a [] d p q e x y n m = let s : z ≡ q = cc in absurd (m (subst P s x.0))
one_place P (z ∷ b) a (w ∷ c) d p q e x y n m =
    let rest : b ++ p ∷ a ≡ c ++ q ∷ d = cc in one_place P b a c d p q rest x.1 y.1 n m

pub one_first_at : {M : Type 0} (g : PlainDtd) (root : List ℕ) (doc : PlainDoc M)
    (paths : List (List ℕ)) (p q : List ℕ) → IsFirstImpossibleAt g root doc paths p →
    IsFirstImpossibleAt g root doc paths q → p ≡ q
one_first_at g root doc paths p q x y =
    one_place (IsLiveListAt g root doc) x.before x.after y.before y.after p q (sym x.is_split
    ∙ y.is_split) x.all_before y.all_before x.is_not y.is_not

-- ---- owners after a change
pub owner_stays : (m : Mark) (list : List ℕ) (c : Change Mark) (root : Tree Mark)
    (ts : List (Tree Mark)) → Made m list c root ts →
    owner_at list (root_after list c root) ≡ owner_at list root
owner_stays m [] c root ts d = refl
owner_stays m (zero ∷ path) c root ts d =
    let o = d.owner in
    let n = in-root o.node in
    root-name path (change_below path (owner_after c) root) o.name o.attrs _ _ o.mark
    (node_changed (owner_after c) n)
    ∙ sym (root-name path root o.name o.attrs o.ending o.kids o.mark n)
owner_stays m (suc k ∷ path) c root ts d = let h = at_node d.owner.node in absurd cc

pub owner_here : (path : List ℕ) (root : Tree Mark) (x attrs : List ℕ) (e : Ending)
    (kids : Forest Mark) (m : Mark) →
    spot_at path root ≡ Some (at_spot (element x attrs e kids m)) →
    owner_at path root ≡ an_element x
owner_here [] root x attrs e kids m s = absurd cc
owner_here (i ∷ path) root x attrs e kids m s = ap (λ o. an_element (name_on o)) s

module _ (g : PlainDtd) (root : List ℕ) (doc : PlainDoc Mark) (c : Change Mark)
    (ts : List (Tree Mark)) (d : Made doc.mark c.list c doc.root ts) where
  abbrev after : PlainDoc Mark
  after = doc_after c doc

  -- the changed list, by its path
  abbrev Here : Type 0
  Here = IsLiveBy g root (owner_at c.list doc.root) (forest_of (list_after c ts))

  to_here : IsLiveListAt g root after c.list → Here
  to_here l =
      subst (λ (o : Owner). IsLiveBy g root o (forest_of (list_after c ts)))
      (owner_stays doc.mark c.list c doc.root ts d)
      (l (list_after c ts) (list_stands doc.mark c.list c doc.root ts d))

  from_here : Here → IsLiveListAt g root after c.list
  from_here h kids e =
      let s = list_stands doc.mark c.list c doc.root ts d in
      let same : list_after c ts ≡ kids = cc in
      let at =
      subst (λ (o : Owner). IsLiveBy g root o (forest_of (list_after c ts)))
      (sym (owner_stays doc.mark c.list c doc.root ts d)) h in
      subst (λ (k : List (Tree Mark)).
      IsLiveBy g root (owner_at c.list after.root) (forest_of k)) same at

  -- the list of an element that came
  to_inner : (x attrs : List ℕ) (e : Ending) (kids : Forest Mark) (m : Mark) →
      in_place_of c.filling (between c.from c.to ts) ≡ element x attrs e kids m ∷ [] →
      IsLiveListAt g root after (c.list ++ c.from ∷ []) → IsLiveBy g root (an_element x) kids
  to_inner x attrs e kids m is l =
      let spot = came_stands doc.mark c.list c doc.root ts d x attrs e kids m is in
      let stands = inner_stands doc.mark c.list c doc.root ts d x attrs e kids m is in
      let own = owner_here (c.list ++ c.from ∷ []) after.root x attrs e kids m spot in
      let all = l (trees_of kids) stands in
      subst (λ (k : Forest Mark). IsLiveBy g root (an_element x) k) (forest-trees kids)
      (subst (λ (o : Owner). IsLiveBy g root o (forest_of (trees_of kids))) own all)

  -- where the changed list is Impossible
  outer_is : (b : Bool) (path : List ℕ) → path ≡ c.list → (Here → ⊥) →
      IsFirstImpossibleAt g root after (lists_by c b) path
  outer_is true path p n =
      rw p (record {
        before = [];
        after = (c.list ++ c.from ∷ []) ∷ [];
        is_split = refl;
        all_before = tt;
        is_not = λ l. n (to_here l);
      })
  outer_is false path p n =
      rw p (record {
        before = [];
        after = [];
        is_split = refl;
        all_before = tt;
        is_not = λ l. n (to_here l);
      })

  -- where it isn't, and the list of the element that came is
  inner_is : (path : List ℕ) → path ≡ c.list ++ c.from ∷ [] → Here →
      (IsLiveListAt g root after (c.list ++ c.from ∷ []) → ⊥) →
      IsFirstImpossibleAt g root after (lists_by c true) path
  inner_is path p h n =
      rw p (record {
        before = c.list ∷ [];
        after = [];
        is_split = refl;
        all_before = (from_here h, tt);
        is_not = n;
      })

  module _ (v : Verdict) (inner : Option InnerVerdict)
      (j : AreJudged g root (owner_at c.list doc.root) ts c v inner) where
    abbrev Inner : Option InnerVerdict → Type 0
    Inner i = IsInnerJudged g root c (in_place_of c.filling (between c.from c.to ts)) i

    is_here : (v ≡ verdict.Impossible → ⊥) → Here
    is_here n =
        live_of g root (record {
          path = [];
          owner = owner_at c.list doc.root;
          kids = forest_of (list_after c ts);
        }) v n j.outer.judged

    not_here : v ≡ verdict.Impossible → Here → ⊥
    not_here e = rw e at j.outer.judged

    not_inner : (i : InnerVerdict) → (k : Inner (Some i)) → i.verdict ≡ verdict.Impossible →
        IsLiveListAt g root after (c.list ++ c.from ∷ []) → ⊥
    not_inner i (b, p, o) e l =
        let not : IsLiveBy g root (an_element o.name) o.kids → ⊥ = rw e at o.list.judged in
        not (to_inner o.name o.attrs o.ending o.kids o.mark o.is_one l)

    first_by : (path : List ℕ) → IsFirstAmong c.list v inner path →
        IsFirstImpossibleAt g root after (lists_changed c) path
    first_by path (outer_first e p) =
        subst (λ (ls : List (List ℕ)). IsFirstImpossibleAt g root after ls path)
        (lists_are c (brings_element c.filling) refl)
        (outer_is (brings_element c.filling) path p (not_here e))
    first_by path (inner_first i n e f p) =
        let k : Inner (Some i) = subst Inner e j.within in
        let place : path ≡ c.list ++ c.from ∷ [] = p ∙ ap (λ (m : ℕ). c.list ++ m ∷ []) k.1 in
        subst (λ (ls : List (List ℕ)). IsFirstImpossibleAt g root after ls path)
        (lists_are c true k.0) (inner_is path place (is_here n) (not_inner i k f))

pub first-is-first : FirstIsFirstAmong
first-is-first g root doc c v i path can unshort bare j f =
    let d = can-made doc.mark c.list c doc.root can unshort in
    first_by g root doc c d.0 d.1 v i
    (subst (λ (ts : List (Tree Mark)). AreJudged g root (owner_at c.list doc.root) ts c v i)
    (owner-list d.1) j) path f
