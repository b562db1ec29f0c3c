-- A document is valid exactly where each of its lists is valid by itself.
use Rattle.std.proofs.Common.{◌≡◌, ◌↔◌, ℕ, suc, List, [], ◌∷◌, ◌++◌, Some, refl, ap}
use Rattle.std.specs.List.{AllByRecursion}
use Rattle.pv_dtd.specs.Plain.{PlainDtd, number_of, declared}
use Rattle.pv_tree.specs.Plain.{Tree, element, text_node, cdata_node, misc_node, Forest, no_trees, tree, PlainDoc}
use Rattle.pv_dtd.specs.Hedge.{Hedge, done, elem, word, Fits, AreGood, IsValid}
use Rattle.pv_tree.specs.Lists.{IsOwnValid, IsValidList, IsRootElement, lists_at, lists_from, lists_of}
use Rattle.pv_tree.specs.Units.{HasUnits, HaveUnits}
use Rattle.pv_tree.specs.View.{spread, view_before, view_all, view}
use Rattle.pv_tree.specs.Words.{word_of}
use Rattle.pv_tree.proofs.JoinedLists.{all_left, all_right, all_joined}
use Rattle.pv_tree.proofs.AlikeWords.{alike_back, allows_alike}
use Rattle.pv_tree.proofs.ShownWords.{word_alike}

-- where each text has a unit, nothing is seen only where nothing is there
view_none : {M : Type 0} (kids : Forest M) → HaveUnits kids → view_all kids ≡ done → kids ≡ no_trees
view_none no_trees p e = refl
view_none (tree (element x attrs ending kids mark) rest) p e = cc
view_none (tree (text_node []) rest) p e = absurd (p.0 refl)
view_none (tree (text_node (unit ∷ units)) rest) p e = cc
view_none (tree (cdata_node bytes) rest) p e = cc
view_none (tree (misc_node bytes) rest) p e = cc

fits_own : {M : Type 0} (g : PlainDtd) (x : List ℕ) (y : ℕ) (kids : Forest M) → HaveUnits kids → number_of g x ≡ Some y → Fits g y (view_all kids) → IsOwnValid g (number_of g x) kids
fits_own g x y kids p is f = record {
  number = y;
  is_owner = is;
  model = f.model;
  is_model = f.is_model;
  no_kids = λ e. view_none kids p (f.no_kids e);
  allowed = allows_alike (declared g) f.model (word g (view_all kids)) (word_of g kids) (alike_back _ _ (word_alike g kids)) f.allowed;
}

own_fits : {M : Type 0} (g : PlainDtd) (x : List ℕ) (kids : Forest M) → (v : IsOwnValid g (number_of g x) kids) → Fits g v.number (view_all kids)
own_fits g x kids v = record {
  model = v.model;
  is_model = v.is_model;
  no_kids = λ e. ap view_all (v.no_kids e);
  allowed = allows_alike (declared g) v.model (word_of g kids) (word g (view_all kids)) (word_alike g kids) v.allowed;
}

good_spread : (g : PlainDtd) (units : List (List ℕ)) (h : Hedge) → AreGood g h → AreGood g (spread units h)
good_spread g [] h r = r
good_spread g (unit ∷ units) h r = good_spread g units h r

spread_good : (g : PlainDtd) (units : List (List ℕ)) (h : Hedge) → AreGood g (spread units h) → AreGood g h
spread_good g [] h r = r
spread_good g (unit ∷ units) h r = spread_good g units h r

mutual
  lists_good : {M : Type 0} (g : PlainDtd) (root path : List ℕ) (t : Tree M) (h : Hedge) → AllByRecursion (IsValidList g root) (lists_at path t) → AreGood g h → AreGood g (view_before t h)
  lists_good g root path (element x attrs ending kids mark) h v r =
      (v.0.number, v.0.is_owner, own_fits g x kids v.0, all_lists_good g root path 0 kids v.1, r)
  lists_good g root path (text_node units) h v r = good_spread g units h r
  lists_good g root path (cdata_node bytes) h v r = r
  lists_good g root path (misc_node bytes) h v r = r

  all_lists_good : {M : Type 0} (g : PlainDtd) (root path : List ℕ) (i : ℕ) (kids : Forest M) → AllByRecursion (IsValidList g root) (lists_from path i kids) → AreGood g (view_all kids)
  all_lists_good g root path i no_trees v = tt
  all_lists_good g root path i (tree t rest) v =
      lists_good g root (path ++ i ∷ []) t (view_all rest) (all_left _ (lists_at (path ++ i ∷ []) t) (lists_from path (suc i) rest) v)
      (all_lists_good g root path (suc i) rest (all_right _ (lists_at (path ++ i ∷ []) t) (lists_from path (suc i) rest) v))

rest_good : {M : Type 0} (g : PlainDtd) (t : Tree M) (h : Hedge) → AreGood g (view_before t h) → AreGood g h
rest_good g (element x attrs ending kids mark) h (y, is, fits, below, rest) = rest
rest_good g (text_node units) h r = spread_good g units h r
rest_good g (cdata_node bytes) h r = r
rest_good g (misc_node bytes) h r = r

mutual
  good_lists : {M : Type 0} (g : PlainDtd) (root path : List ℕ) (t : Tree M) (h : Hedge) → HasUnits t → AreGood g (view_before t h) → AllByRecursion (IsValidList g root) (lists_at path t)
  good_lists g root path (element x attrs ending kids mark) h p (y, is, fits, below, rest) = (fits_own g x y kids p is fits, good_all_lists g root path 0 kids p below)
  good_lists g root path (text_node units) h p r = tt
  good_lists g root path (cdata_node bytes) h p r = tt
  good_lists g root path (misc_node bytes) h p r = tt

  good_all_lists : {M : Type 0} (g : PlainDtd) (root path : List ℕ) (i : ℕ) (kids : Forest M) →
      HaveUnits kids → AreGood g (view_all kids) → AllByRecursion (IsValidList g root)
      (lists_from path i kids)
  good_all_lists g root path i no_trees p r = tt
  good_all_lists g root path i (tree t rest) p r =
      all_joined _ (lists_at (path ++ i ∷ []) t) (lists_from path (suc i) rest) (good_lists g root (path ++ i ∷ []) t (view_all rest) p.0 r)
      (good_all_lists g root path (suc i) rest p.1 (rest_good g t (view_all rest) r))

root_valid : {M : Type 0} (g : PlainDtd) (root path : List ℕ) (t : Tree M) → IsRootElement root t → AllByRecursion (IsValidList g root) (lists_at path t) → IsValid g root (view t)
root_valid g root path (element x attrs ending kids mark) e v = record {
  attrs = attrs;
  kids = view_all kids;
  is_root = ap (λ name. elem name attrs (view_all kids) done) e;
  good = lists_good g root path (element x attrs ending kids mark) done v tt;
}
root_valid g root path (text_node units) e v = absurd e
root_valid g root path (cdata_node bytes) e v = absurd e
root_valid g root path (misc_node bytes) e v = absurd e

is_root : {M : Type 0} (root attrs : List ℕ) (kids : Hedge) (t : Tree M) → view t ≡ elem root attrs kids done → IsRootElement root t
is_root root attrs kids (element x own ending inner mark) e = cc
is_root root attrs kids (text_node []) e = absurd cc
is_root root attrs kids (text_node (unit ∷ units)) e = absurd cc
is_root root attrs kids (cdata_node bytes) e = absurd cc
is_root root attrs kids (misc_node bytes) e = absurd cc

pub valid_lists : {M : Type 0} (g : PlainDtd) (root : List ℕ) (doc : PlainDoc M) → HasUnits doc.root → AllByRecursion (IsValidList g root) (lists_of doc) ↔ IsValid g root (view doc.root)
valid_lists g root doc p = (
  λ v. root_valid g root (0 ∷ []) doc.root v.0.0 v.1,
  λ v. ((is_root root v.attrs v.kids doc.root v.is_root, refl), good_lists g root (0 ∷ []) doc.root done p v.good),
)
