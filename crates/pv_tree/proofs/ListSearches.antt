-- A search of lists by a test, list by list.
use Rattle.std.proofs.Common.{◌≡◌, ℕ, List, [], ◌∷◌, ◌++◌, append-nil, append_assoc, Bool, true, false, refl, sym, ◌∙◌}
use Rattle.std.specs.Prelude.{IsTrue, ◌↔◌}
use Rattle.std.specs.List.{AllByRecursion}
use Rattle.pv_tree.specs.Lists.{Listed, IsFirstNot}
use Rattle.pv_tree.specs.Search.{Tells}
use Rattle.pv_tree.proofs.JoinedLists.{all_joined}
use Rattle.pv_tree.proofs.FirstLists.{first_before, first_behind}

-- Of these lists those before the ones that are left have passed, and those are awaited.
pub record HasPassed {M : Type 0} (P : Listed M → Type 0) (A : List (Listed M) → Type 0) (lists left : List (Listed M)) : Type 0 where
  pub past : List (Listed M)
  pub is_split : lists ≡ past ++ left
  pub all_past : AllByRecursion P past
  pub awaited : A left

module _ {M : Type 0} (P : List ℕ → Listed M → Type 0) where
  -- what a test tells that finds out whether the list is so, and is ready for the next one then
  pub tells_one : (A B : List ℕ → List (Listed M) → Type 0) (list : Listed M) (told : Bool) → ((root : List ℕ) (more : List (Listed M)) → A root (list ∷ more) → IsTrue told ↔ P root list) →
      ((root : List ℕ) (more : List (Listed M)) → A root (list ∷ more) → told ≡ true → B root more) → Tells P A B list told
  tells_one A B list true is behind = λ root more next. (((is root more next).0 refl, tt), behind root more next refl)
  tells_one A B list false is behind = λ root more next. record {
    before = [];
    list = list;
    after = [];
    is_split = refl;
    all_before = tt;
    is_not = λ p. let t = (is root more next).1 p in absurd cc;
    is_path = refl;
  }

  pub passed_more : (A B : List ℕ → List (Listed M) → Type 0) (root : List ℕ) (lists left : List
      (Listed M)) (list : Listed M) → Tells P A B list true → HasPassed (P root) (A root) lists
      (list ∷ left) → HasPassed (P root) (B root) lists left
  passed_more A B root lists left list tells h = let t = tells root left h.awaited in record {
    past = h.past ++ list ∷ [];
    is_split = h.is_split ∙ sym (append_assoc h.past (list ∷ []) left);
    all_past = all_joined (P root) h.past (list ∷ []) h.all_past t.0;
    awaited = t.1;
  }

  pub stopped_at : (A B : List ℕ → List (Listed M) → Type 0) (root : List ℕ) (lists left : List
      (Listed M)) (list : Listed M) → Tells P A B list false → HasPassed (P root) (A root) lists
      (list ∷ left) → IsFirstNot (P root) lists list.path
  stopped_at A B root lists left list tells h = rw h.is_split (first_behind (P root) h.past
      (list ∷ left) list.path h.all_past (first_before (P root) (list ∷ []) left list.path
      (tells root left h.awaited)))

  pub passed_all : (A : List (Listed M) → Type 0) (root : List ℕ) (lists : List (Listed M)) → HasPassed (P root) A lists [] → AllByRecursion (P root) lists
  passed_all A root lists h = rw (h.is_split, append-nil) h.all_past
