-- Lists and their validity are the same whatever the marks are.
use Rattle.std.proofs.Common.{◌≡◌, ℕ, suc, List, [], ◌∷◌, ◌++◌, map, refl, sym, subst, ap, ◌∙◌}
use Rattle.std.proofs.lemmas.List.{map-append}
use Rattle.std.specs.List.{AllByRecursion}
use Rattle.pv_model.specs.Plain.{PlainToken}
use Rattle.pv_dtd.specs.Plain.{PlainDtd, number_of}
use Rattle.pv_dtd.specs.Hedge.{Hedge, elem}
use Rattle.pv_tree.specs.Heads.{head_of, heads_of}
use Rattle.pv_tree.specs.Lists.{the_document, an_element, Listed, lists_at, lists_from, lists_of, IsOwnValid, IsRootElement, IsRootList, IsValidBy, IsValidList, IsFirstNot}
use Rattle.pv_tree.specs.Plain.{Tree, element, text_node, cdata_node, misc_node, Forest, no_trees, tree, PlainDoc, without_marks, map_marks_all}
use Rattle.pv_tree.specs.View.{view_before, view_all}
use Rattle.pv_tree.specs.Words.{node_before, word_of}
use Rattle.pv_tree.specs.Marks.{unmarked_doc}

abbrev pub all_without_marks : {M : Type 0} → Forest M → Forest Unit
all_without_marks kids = map_marks_all (λ _. tt) kids

abbrev pub unmarked_list : {M : Type 0} → Listed M → Listed Unit
unmarked_list list = record { path = list.path; owner = list.owner; kids = all_without_marks list.kids }

mutual
  pub view-without_marks : {M : Type 0} (t : Tree M) (h : Hedge) → view_before (without_marks t) h ≡ view_before t h
  view-without_marks (element x attrs ending kids mark) h = ap (λ k. elem x attrs k h) (view_all-without_marks kids)
  view-without_marks (text_node units) h = refl
  view-without_marks (cdata_node bytes) h = refl
  view-without_marks (misc_node bytes) h = refl

  view_all-without_marks : {M : Type 0} (kids : Forest M) → view_all (all_without_marks kids) ≡ view_all kids
  view_all-without_marks no_trees = refl
  view_all-without_marks (tree t rest) = view-without_marks t (view_all (all_without_marks rest)) ∙ ap (view_before t) (view_all-without_marks rest)

mutual
  lists_at-without_marks : {M : Type 0} (path : List ℕ) (t : Tree M) → lists_at path (without_marks t) ≡ map unmarked_list (lists_at path t)
  lists_at-without_marks path (element x attrs ending kids mark) =
      ap (λ lists. record { path = path; owner = an_element x; kids = all_without_marks kids } ∷ lists) (lists_from-without_marks path 0 kids)
  lists_at-without_marks path (text_node units) = refl
  lists_at-without_marks path (cdata_node bytes) = refl
  lists_at-without_marks path (misc_node bytes) = refl

  lists_from-without_marks : {M : Type 0} (path : List ℕ) (i : ℕ) (kids : Forest M) → lists_from path i (all_without_marks kids) ≡ map unmarked_list (lists_from path i kids)
  lists_from-without_marks path i no_trees = refl
  lists_from-without_marks path i (tree t rest) =
      let first = lists_at-without_marks (path ++ i ∷ []) t in
      let others = lists_from-without_marks path (suc i) rest in
      let whole = map-append unmarked_list (lists_at (path ++ i ∷ []) t) (lists_from path (suc i) rest) in
      cc

pub lists_of-without_marks : {M : Type 0} (doc : PlainDoc M) → lists_of (unmarked_doc doc) ≡ map unmarked_list (lists_of doc)
lists_of-without_marks doc =
    ap (λ lists. record { path = []; owner = the_document; kids = tree (without_marks doc.root) no_trees } ∷ lists) (lists_at-without_marks (0 ∷ []) doc.root)

head-without_marks : {M : Type 0} (t : Tree M) → head_of (without_marks t) ≡ head_of t
head-without_marks (element x attrs ending kids mark) = refl
head-without_marks (text_node units) = refl
head-without_marks (cdata_node bytes) = refl
head-without_marks (misc_node bytes) = refl

pub heads-without_marks : {M : Type 0} (kids : Forest M) → heads_of (all_without_marks kids) ≡ heads_of kids
heads-without_marks no_trees = refl
heads-without_marks (tree t rest) = let h = head-without_marks t in let r = heads-without_marks rest in cc

node_before-without_marks : {M : Type 0} (g : PlainDtd) (t : Tree M) (u : List PlainToken) → node_before g (without_marks t) u ≡ node_before g t u
node_before-without_marks g (element x attrs ending kids mark) u = refl
node_before-without_marks g (text_node units) u = refl
node_before-without_marks g (cdata_node bytes) u = refl
node_before-without_marks g (misc_node bytes) u = refl

pub word_of-without_marks : {M : Type 0} (g : PlainDtd) (kids : Forest M) → word_of g (all_without_marks kids) ≡ word_of g kids
word_of-without_marks g no_trees = refl
word_of-without_marks g (tree t rest) = node_before-without_marks g t (word_of g (all_without_marks rest)) ∙ ap (node_before g t) (word_of-without_marks g rest)

no_kids-without_marks : {M : Type 0} (kids : Forest M) → all_without_marks kids ≡ no_trees → kids ≡ no_trees
no_kids-without_marks no_trees e = refl
no_kids-without_marks (tree t rest) e = cc

own_valid_to : {M : Type 0} (g : PlainDtd) (x : List ℕ) (kids : Forest M) → IsOwnValid g (number_of g x) kids → IsOwnValid g (number_of g x) (all_without_marks kids)
own_valid_to g x kids v = record {
  number = v.number;
  is_owner = v.is_owner;
  model = v.model;
  is_model = v.is_model;
  no_kids = λ e. ap all_without_marks (v.no_kids e);
  allowed = rw (word_of-without_marks g kids) v.allowed;
}

own_valid_from : {M : Type 0} (g : PlainDtd) (x : List ℕ) (kids : Forest M) → IsOwnValid g (number_of g x) (all_without_marks kids) → IsOwnValid g (number_of g x) kids
own_valid_from g x kids v = record {
  number = v.number;
  is_owner = v.is_owner;
  model = v.model;
  is_model = v.is_model;
  no_kids = λ e. no_kids-without_marks kids (v.no_kids e);
  allowed = rw (word_of-without_marks g kids) at v.allowed;
}

root_to : {M : Type 0} (root : List ℕ) (t : Tree M) → IsRootElement root t → IsRootElement root (without_marks t)
root_to root (element x attrs ending kids mark) is = is
root_to root (text_node units) is = absurd is
root_to root (cdata_node bytes) is = absurd is
root_to root (misc_node bytes) is = absurd is

root_from : {M : Type 0} (root : List ℕ) (t : Tree M) → IsRootElement root (without_marks t) → IsRootElement root t
root_from root (element x attrs ending kids mark) is = is
root_from root (text_node units) is = absurd is
root_from root (cdata_node bytes) is = absurd is
root_from root (misc_node bytes) is = absurd is

root_list_to : {M : Type 0} (root : List ℕ) (kids : Forest M) → IsRootList root kids → IsRootList root (all_without_marks kids)
root_list_to root no_trees is = absurd is
root_list_to root (tree t rest) is = (root_to root t is.0, ap all_without_marks is.1)

root_list_from : {M : Type 0} (root : List ℕ) (kids : Forest M) → IsRootList root (all_without_marks kids) → IsRootList root kids
root_list_from root no_trees is = absurd is
root_list_from root (tree t rest) is = (root_from root t is.0, no_kids-without_marks rest is.1)

pub valid_to : {M : Type 0} (g : PlainDtd) (root : List ℕ) (list : Listed M) → IsValidList g root list → IsValidList g root (unmarked_list list)
valid_to g root list valid = elim list.owner as (λ o. IsValidBy g root o list.kids → IsValidBy g root o (all_without_marks list.kids)) [
  | the_document ↦ root_list_to root list.kids
  | an_element x ↦ own_valid_to g x list.kids
] valid

pub valid_from : {M : Type 0} (g : PlainDtd) (root : List ℕ) (list : Listed M) → IsValidList g root (unmarked_list list) → IsValidList g root list
valid_from g root list valid = elim list.owner as (λ o. IsValidBy g root o (all_without_marks list.kids) → IsValidBy g root o list.kids) [
  | the_document ↦ root_list_from root list.kids
  | an_element x ↦ own_valid_from g x list.kids
] valid

all_to : {M : Type 0} (P : Listed M → Type 0) (Q : Listed Unit → Type 0) → ((list : Listed M) →
    P list → Q (unmarked_list list)) → (lists : List (Listed M)) → AllByRecursion P lists →
    AllByRecursion Q (map unmarked_list lists)
all_to P Q to [] all = tt
all_to P Q to (list ∷ lists) all = (to list all.0, all_to P Q to lists all.1)

-- what holds of each list holds of each without its marks
pub all-without_marks : {M : Type 0} (P : Listed M → Type 0) (Q : Listed Unit → Type 0) → ((list : Listed M) → P list → Q (unmarked_list list)) → (doc : PlainDoc M) → AllByRecursion P (lists_of doc) →
    AllByRecursion Q (lists_of (unmarked_doc doc))
all-without_marks P Q to doc all = subst (AllByRecursion Q) (sym (lists_of-without_marks doc)) (all_to P Q to (lists_of doc) all)

-- and the first that isn't so stays where it is
pub first-without_marks : {M : Type 0} (P : Listed M → Type 0) (Q : Listed Unit → Type 0) →
    ((list : Listed M) → P list → Q (unmarked_list list)) → ((list : Listed M) →
    Q (unmarked_list list) → P list) →
    (path : List ℕ) (doc : PlainDoc M) → IsFirstNot P (lists_of doc) path → IsFirstNot Q (lists_of (unmarked_doc doc)) path
first-without_marks P Q to from path doc f = record {
  before = map unmarked_list f.before;
  list = unmarked_list f.list;
  after = map unmarked_list f.after;
  is_split = lists_of-without_marks doc ∙ ap (map unmarked_list) f.is_split ∙ map-append unmarked_list f.before (f.list ∷ f.after);
  all_before = all_to P Q to f.before f.all_before;
  is_not = λ v. f.is_not (from f.list v);
  is_path = f.is_path;
}

-- the first invalid list stays where it is
pub first_invalid-without_marks : {M : Type 0} (g : PlainDtd) (root path : List ℕ)
    (doc : PlainDoc M) → IsFirstNot (IsValidList g root) (lists_of doc) path →
    IsFirstNot (IsValidList g root) (lists_of (unmarked_doc doc)) path
first_invalid-without_marks g root path doc f = first-without_marks (IsValidList g root) (IsValidList g root) (valid_to g root) (valid_from g root) path doc f
