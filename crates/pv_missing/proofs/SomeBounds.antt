-- Bounds of some lists of a document, at ascending paths.
use Rattle.std.proofs.Common.{List, [], ap, arith, get_or, length, refl, subst, suc, sym, zero, ℕ, ◌<◌, ◌∙◌, ◌∷◌, ◌≡◌}
use Rattle.std.specs.List.{AllByRecursion, AllPairs, Contains}
use Rattle.pv_dtd.specs.Plain.{PlainDtd}
use Rattle.pv_tree.specs.Lists.{Listed, lists_of}
use Rattle.pv_tree.specs.PathOrder.{IsListBefore, IsPathBefore}
use Rattle.pv_tree.proofs.PathOrder.{before_itself, before_once, lists_ascend}
use Rattle.pv_missing.specs.DocumentLaws.{SomeBounds}
use Rattle.pv_missing.specs.ListWeights.{AscendBounds, BoundAt, BoundInAll, IsBound, IsBoundAt}
use Rattle.pv_missing.specs.ListWeights.{sum_of_bounds}
use Rattle.pv_missing.proofs.Weights.{bounds_add_up}

abbrev IsBefore : BoundAt → BoundAt → Type 0
IsBefore b c = IsPathBefore b.path c.path

-- what is first is before all others
behind : {X : Type 0} (R : X → X → Type 0) (x : X) (xs : List X) → ((j : ℕ) (d : X) → j < length xs → R x (get_or xs j d)) → AllByRecursion (R x) xs
behind R x [] h = tt
behind R x (y ∷ ys) h = (h 0 y (omega arith), behind R x ys (λ j d l. h (suc j) d (omega arith)))

first_before : {X : Type 0} (R : X → X → Type 0) (x : X) (xs : List X) → AllPairs R (x ∷ xs) → AllByRecursion (R x) xs
first_before R x xs p = behind R x xs (λ j d l. p 0 (suc j) d (omega arith) (omega arith))

others_ascend : {X : Type 0} (R : X → X → Type 0) (x : X) (xs : List X) → AllPairs R (x ∷ xs) → AllPairs R xs
others_ascend R x xs p i j d h k = p (suc i) (suc j) d (omega arith) (omega arith)

-- what is first is before each other
before_listed : {X : Type 0} (R : X → X → Type 0) (x y : X) (xs : List X) → AllPairs R (x ∷ xs) → Contains xs y → R x y
before_listed {X = X} R x y xs p (k, l, e) = let P : X → Type 0 = R x in subst P e (p 0 (suc k) y (omega arith) (omega arith))

-- no path after one is the one
behind_not : (path : List ℕ) (b : BoundAt) (bs : List BoundAt) → path ≡ b.path → AllByRecursion (IsBefore b) bs → AllByRecursion (λ c. path ≡ c.path → ⊥) bs
behind_not path b [] e a = tt
behind_not path b (c ∷ bs) e a =
    ((λ f. before_itself b.path (subst (IsPathBefore b.path) (sym f ∙ e) a.0)), behind_not path b bs e a.1)

-- nor is one before it
before_not : (path : List ℕ) (b : BoundAt) (bs : List BoundAt) → IsPathBefore path b.path → AllByRecursion (IsBefore b) bs → AllByRecursion (λ c. path ≡ c.path → ⊥) bs
before_not path b [] h a = tt
before_not path b (c ∷ bs) h a =
    ((λ f. before_once path b.path h (subst (IsPathBefore b.path) (sym f) a.0)), before_not path b bs h a.1)

module _ {M : Type 0} (g : PlainDtd) (root : List ℕ) where
  -- a bound of no list
  no_bound : (list : Listed M) → IsBound g root list 0
  no_bound list n m = omega arith

  -- a bound that isn't at the first path is at one of the others
  further_at : (list : Listed M) (lists : List (Listed M)) (b : BoundAt) → (list.path ≡ b.path →
      ⊥) → (own : IsBoundAt g root (list ∷ lists) b) → Contains (list ∷ lists) own.list →
      IsBoundAt g root lists b
  further_at list lists b not own (zero, h, e) = let z : list ≡ own.list = e in absurd (not (ap (λ (o : Listed M). o.path) z ∙ own.is_path))
  further_at list lists b not own (suc i, h, e) = record { list = own.list; is_listed = (i, omega arith, e); is_path = own.is_path; is_bound = own.is_bound }

  further : (list : Listed M) (lists : List (Listed M)) (b : BoundAt) → (list.path ≡ b.path → ⊥) → IsBoundAt g root (list ∷ lists) b → IsBoundAt g root lists b
  further list lists b not own = further_at list lists b not own own.is_listed

  all_further : (list : Listed M) (lists : List (Listed M)) (bs : List BoundAt) → AllByRecursion (λ b. list.path ≡ b.path → ⊥) bs → AllByRecursion (IsBoundAt g root (list ∷ lists)) bs →
      AllByRecursion (IsBoundAt g root lists) bs
  all_further list lists [] n a = tt
  all_further list lists (b ∷ bs) n a = (further list lists b n.0 a.0, all_further list lists bs n.1 a.1)

  bound_first : (list : Listed M) (lists : List (Listed M)) (b : BoundAt) (bs : List BoundAt) → AllPairs IsListBefore (list ∷ lists) → AscendBounds (b ∷ bs) →
      ((cs : List BoundAt) → AscendBounds cs → AllByRecursion (IsBoundAt g root lists) cs → BoundInAll g root lists (sum_of_bounds cs)) →
      (own : IsBoundAt g root (list ∷ lists) b) → AllByRecursion (IsBoundAt g root (list ∷ lists)) bs → Contains (list ∷ lists) own.list → BoundInAll g root (list ∷ lists) (sum_of_bounds (b ∷ bs))
  bound_first list lists b bs p q others own all (zero, h, e) =
      let z : list ≡ own.list = e in
      let bound = subst (λ (o : Listed M). IsBound g root o b.bound) (sym z) own.is_bound in
      let path = ap (λ (o : Listed M). o.path) z ∙ own.is_path in
      let rest = all_further list lists bs (behind_not list.path b bs path (first_before IsBefore b bs q)) all in
      (b.bound, sum_of_bounds bs, refl, bound, others bs (others_ascend IsBefore b bs q) rest)
  bound_first list lists b bs p q others own all (suc i, h, e) =
      let listed : Contains lists own.list = (i, omega arith, e) in
      let before = subst (IsPathBefore list.path) own.is_path (before_listed IsListBefore list own.list lists p listed) in
      let first : IsBoundAt g root lists b = record { list = own.list; is_listed = listed; is_path = own.is_path; is_bound = own.is_bound } in
      let rest = all_further list lists bs (before_not list.path b bs before (first_before IsBefore b bs q)) all in
      (0, sum_of_bounds (b ∷ bs), omega arith, no_bound list, others (b ∷ bs) q (first, rest))

  bound_all : (lists : List (Listed M)) (bs : List BoundAt) → AllPairs IsListBefore lists → AscendBounds bs → AllByRecursion (IsBoundAt g root lists) bs → BoundInAll g root lists (sum_of_bounds bs)
  bound_all [] [] p q a = refl
  bound_all [] (b ∷ bs) p q a = let h = a.0.is_listed.1 in absurd (omega arith)
  bound_all (list ∷ lists) [] p q a = (0, 0, refl, no_bound list, bound_all lists [] (others_ascend IsListBefore list lists p) q tt)
  bound_all (list ∷ lists) (b ∷ bs) p q a = bound_first list lists b bs p q (λ cs. bound_all lists cs (others_ascend IsListBefore list lists p)) a.0 a.1 a.0.is_listed

pub some_bounds : (M : Type 0) → SomeBounds M
some_bounds M g root doc bs proper is_proper ascend bounds n c =
    bounds_add_up M g root doc (sum_of_bounds bs) proper is_proper (bound_all g root (lists_of doc) bs (lists_ascend doc) ascend bounds) n c
