-- The first of some lists that isn't so, where one more stands between them.
use Rattle.std.proofs.Common.{◌≡◌, ℕ, List, [], ◌∷◌, ◌++◌, Bool, true, false, Option, Some, None}
use Rattle.std.proofs.Common.{refl, sym, ◌∙◌, subst}
use Rattle.std.specs.List.{AllByRecursion}
use Rattle.pv_tree.specs.Lists.{Listed, IsFirstNot}
use Rattle.pv_tree.specs.declared.nodes.Mark.{Mark}
use Rattle.pv_tree.proofs.JoinedLists.{all_left, all_right, all_joined}
use Rattle.pv_tree.proofs.FirstLists.{first_before, first_behind, one_first}
use Rattle.pv_lists.specs.WholeLists.{TellsFirst}

pub not_both : (b : Bool) → b ≡ false → b ≡ true → ⊥
not_both b f t = let e : false ≡ true = sym f ∙ t in cc

module _ (P : Listed Mark → Type 0) where
  rest_by : (before : List (Listed Mark)) (list : Listed Mark) (after : List (Listed Mark)) (x : Listed Mark) (xs : List (Listed Mark)) (path : List ℕ)
      → x ∷ xs ≡ before ++ list ∷ after → AllByRecursion P before → (P list → ⊥) → path ≡ list.path → P x → IsFirstNot P xs path
  rest_by [] list after x xs path e all bad is p = let same : x ≡ list = cc in absurd (bad (subst P same p))
  rest_by (b ∷ bs) list after x xs path e all bad is p =
      let split : xs ≡ bs ++ list ∷ after = cc in
      record { before = bs; list = list; after = after; is_split = split; all_before = all.1; is_not = bad; is_path = is }

  first_behind_all : (xs ys : List (Listed Mark)) (path : List ℕ) → AllByRecursion P xs → IsFirstNot P (xs ++ ys) path → IsFirstNot P ys path
  first_behind_all [] ys path all f = f
  first_behind_all (x ∷ xs) ys path all f =
      first_behind_all xs ys path all.1 (rest_by f.before f.list f.after x (xs ++ ys) path f.is_split f.all_before f.is_not f.is_path all.0)

  not_all : (xs : List (Listed Mark)) (path : List ℕ) → IsFirstNot P xs path → AllByRecursion P xs → ⊥
  not_all xs path f all = f.is_not (all_right P f.before (f.list ∷ f.after) (subst (AllByRecursion P) f.is_split all)).0

  module _ (xs ys : List (Listed Mark)) (x : Listed Mark) where
    pub put_so : (found : Option (List ℕ)) → AllByRecursion P xs → P x → TellsFirst P (xs ++ ys) found → TellsFirst P (xs ++ x ∷ ys) found
    put_so None all is h = all_joined P xs (x ∷ ys) all (is, all_right P xs ys h)
    put_so (Some path) all is h = first_behind P xs (x ∷ ys) path all (first_behind P (x ∷ []) ys path (is, tt) (first_behind_all xs ys path all h))

    pub put_not : AllByRecursion P xs → (P x → ⊥) → IsFirstNot P (xs ++ x ∷ ys) x.path
    put_not all bad = first_behind P xs (x ∷ ys) x.path all record { before = []; list = x; after = ys; is_split = refl; all_before = tt; is_not = bad; is_path = refl }

    pub put_behind : (found : Option (List ℕ)) → (first : List ℕ) → IsFirstNot P xs first → TellsFirst P (xs ++ ys) found → TellsFirst P (xs ++ x ∷ ys) found
    put_behind None first f h = absurd (not_all xs first f (all_left P xs ys h))
    put_behind (Some path) first f h =
        subst (IsFirstNot P (xs ++ x ∷ ys)) (sym (one_first P (xs ++ ys) path first h (first_before P xs ys first f))) (first_before P xs (x ∷ ys) first f)
