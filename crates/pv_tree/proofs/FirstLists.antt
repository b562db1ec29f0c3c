-- The first of some lists that isn't so.
use Rattle.std.proofs.Common.{◌≡◌, ℕ, List, [], ◌∷◌, ◌++◌, sym, ap, ◌∙◌, subst, append_assoc}
use Rattle.std.specs.List.{AllByRecursion}
use Rattle.pv_tree.specs.Lists.{Listed, IsFirstNot}
use Rattle.pv_tree.proofs.JoinedLists.{all_joined}

-- the first of some lists is the first of these and more
pub first_before : {M : Type 0} (P : Listed M → Type 0) (xs ys : List (Listed M)) (path : List ℕ) → IsFirstNot P xs path → IsFirstNot P (xs ++ ys) path
first_before P xs ys path f = record {
  before = f.before;
  list = f.list;
  after = f.after ++ ys;
  is_split = ap (λ zs. zs ++ ys) f.is_split ∙ append_assoc f.before (f.list ∷ f.after) ys;
  all_before = f.all_before;
  is_not = f.is_not;
  is_path = f.is_path;
}

-- the first after lists that all are so
pub first_behind : {M : Type 0} (P : Listed M → Type 0) (xs ys : List (Listed M)) (path : List ℕ) → AllByRecursion P xs → IsFirstNot P ys path → IsFirstNot P (xs ++ ys) path
first_behind P xs ys path all f = record {
  before = xs ++ f.before;
  list = f.list;
  after = f.after;
  is_split = ap (λ zs. xs ++ zs) f.is_split ∙ sym (append_assoc xs f.before (f.list ∷ f.after));
  all_before = all_joined P xs f.before all f.all_before;
  is_not = f.is_not;
  is_path = f.is_path;
}

one_split : {A : Type 0} (P : A → Type 0) (before after early late : List A) (x y : A) → before ++ x ∷ after ≡ early ++ y ∷ late →
    AllByRecursion P before → (P x → ⊥) → AllByRecursion P early → (P y → ⊥) → x ≡ y
one_split P [] after [] late x y e all not_x others not_y = cc
one_split P [] after (z ∷ early) late x y e all not_x others not_y = let same : x ≡ z = cc in absurd (not_x (subst P (sym same) others.0))
one_split P (w ∷ before) after [] late x y e all not_x others not_y = let same : w ≡ y = cc in absurd (not_y (subst P same all.0))
one_split P (w ∷ before) after (z ∷ early) late x y e all not_x others not_y =
    let same : before ++ x ∷ after ≡ early ++ y ∷ late = cc in
    one_split P before after early late x y same all.1 not_x others.1 not_y

-- there is one first
pub one_first : {M : Type 0} (P : Listed M → Type 0) (lists : List (Listed M)) (path other : List ℕ) → IsFirstNot P lists path → IsFirstNot P lists other → path ≡ other
one_first P lists path other f h =
    let same = one_split P f.before f.after h.before h.after f.list h.list (sym f.is_split ∙ h.is_split) f.all_before f.is_not h.all_before h.is_not in
    f.is_path ∙ ap (λ (list : Listed _). list.path) same ∙ sym h.is_path
