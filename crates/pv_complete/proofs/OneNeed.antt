-- A document has one answer to how many elements are missing in it.
use Rattle.std.specs.Prelude.{Err, IfErr, Ok, Result}
use Rattle.std.proofs.Common.{List, ap, arith, inl, inr, refl, subst, ℕ, ◌++◌, ◌∷◌, ◌≡◌, ◌⊎◌}
use Rattle.std.specs.List.{AllByRecursion}
use Rattle.pv_dtd.specs.Plain.{PlainDtd}
use Rattle.pv_dtd.specs.Proper.{IsProperDtd}
use Rattle.pv_tree.specs.Lists.{IsFirstNot, Listed, lists_of}
use Rattle.pv_tree.specs.Plain.{PlainDoc}
use Rattle.pv_tree.proofs.JoinedLists.{all_right}
use Rattle.pv_tree.proofs.FirstLists.{one_first}
use Rattle.pv_missing.specs.DocumentLaws.{IsPotentiallyValidByLists}
use Rattle.pv_missing.specs.Proper.{IsProperDoc}
use Rattle.pv_missing.specs.Verdicts.{IsLive}
use Rattle.pv_missing.specs.Widths.{IsFirstTooWide, IsListForVerdict}
use Rattle.pv_complete.specs.NeedLaws.{HasNeed, OneNeed}
use Rattle.pv_complete.specs.NeededElements.{CanNeed, CanWeigh, HasCause, IsHeavy, Needs}
use Rattle.pv_complete.specs.NeededElements.{StopsAtImpossible, StopsAtWide}
use Rattle.pv_complete.specs.declared.errors.NeedError.{NeedError}
use Rattle.pv_complete.specs.declared.errors.NeedError.TheVariants.{Impossible, NoMemory, TooHeavy, TooMany, TooWide}

-- where all lists are so, there is none that isn't
none_not : {M : Type 0} (P : Listed M → Type 0) (lists : List (Listed M)) (path : List ℕ) → AllByRecursion P lists → IsFirstNot P lists path → ⊥
none_not P lists path all f =
    f.is_not (let s : AllByRecursion P (f.before
    ++ f.list ∷ f.after) = (let e = f.is_split in subst (AllByRecursion P) e all) in let r =
    all_right P f.before (f.list ∷ f.after) s in r.0)

module _ (M : Type 0) (g : PlainDtd) (root : List ℕ) (doc : PlainDoc M) (proper : IsProperDtd g) (proper_doc : IsProperDoc doc) (by_lists : IsPotentiallyValidByLists M) where
  same_number : (m n : ℕ) → Needs g root doc m → Needs g root doc n → m ≡ n
  same_number m n a b = let p = a.least in let q = b.least in let x = p.least n q.completes in let y = q.least m p.completes in omega arith

  not_impossible : (path : List ℕ) → CanNeed g root doc → StopsAtImpossible g root doc path → ⊥
  not_impossible path c s = none_not (IsLive g root) (lists_of doc) path ((by_lists g root doc proper proper_doc).0 c.possible) s.first

  not_wide : (path : List ℕ) → CanNeed g root doc → IsFirstTooWide g (lists_of doc) path ⊎ StopsAtWide g root doc path → ⊥
  not_wide path c (inl f) = none_not (IsListForVerdict g) (lists_of doc) path c.narrow f
  not_wide path c (inr s) = none_not (CanWeigh g root) (lists_of doc) path c.weighed s.first

  not_heavy : (n : ℕ) → Needs g root doc n → IsHeavy g root doc → ⊥
  not_heavy n a h = let l = a.least in let f = a.light in let m = h.heavy n l.completes in omega arith

  -- where the least number can be told, nothing but want of memory stops
  memory_stops : (e : NeedError) → HasCause g root doc e → (n : ℕ) → Needs g root doc n → e ≡ NoMemory
  memory_stops (Impossible path) h n a = absurd (not_impossible path a.can h)
  memory_stops (TooWide path) h n a = absurd (not_wide path a.can h)
  memory_stops TooHeavy h n a = absurd (not_heavy n a h)
  memory_stops TooMany h n a = absurd h
  memory_stops NoMemory h n a = refl

  pub memory_alone_stops : {A : Type 0} (r : Result A NeedError) → IfErr r (HasCause g root doc) → (n : ℕ) → Needs g root doc n → IfErr r (λ e. e ≡ NoMemory)
  memory_alone_stops (Ok v) h n a = tt
  memory_alone_stops (Err e) h n a = memory_stops e h n a

  not_both : (p q : List ℕ) → StopsAtImpossible g root doc p → IsFirstTooWide g (lists_of doc) q ⊎ StopsAtWide g root doc q → ⊥
  not_both p q s (inl f) = none_not (IsListForVerdict g) (lists_of doc) q s.narrow f
  not_both p q s (inr w) = none_not (IsLive g root) (lists_of doc) p ((by_lists g root doc proper proper_doc).0 w.possible) s.first

  same_wide : (p q : List ℕ) → IsFirstTooWide g (lists_of doc) p ⊎ StopsAtWide g root doc p → IsFirstTooWide g (lists_of doc) q ⊎ StopsAtWide g root doc q → p ≡ q
  same_wide p q (inl f) (inl h) = one_first (IsListForVerdict g) (lists_of doc) p q f h
  same_wide p q (inl f) (inr w) = absurd (none_not (IsListForVerdict g) (lists_of doc) p w.narrow f)
  same_wide p q (inr w) (inl f) = absurd (none_not (IsListForVerdict g) (lists_of doc) q w.narrow f)
  same_wide p q (inr v) (inr w) = one_first (CanWeigh g root) (lists_of doc) p q v.first w.first

  same_need : (a b : Result ℕ NeedError) → HasNeed g root doc a → HasNeed g root doc b → a ≡ b
  same_need (Ok m) (Ok n) a b = ap (λ k. Ok k) (same_number m n a b)
  same_need (Ok m) (Err (Impossible q)) a b = absurd (not_impossible q a.can b)
  same_need (Ok m) (Err (TooWide q)) a b = absurd (not_wide q a.can b)
  same_need (Ok m) (Err TooHeavy) a b = absurd (not_heavy m a b)
  same_need (Ok m) (Err TooMany) a b = absurd b
  same_need (Ok m) (Err NoMemory) a b = absurd b
  same_need (Err (Impossible p)) (Ok n) a b = absurd (not_impossible p b.can a)
  same_need (Err (Impossible p)) (Err (Impossible q)) a b = ap (λ k. Err (Impossible k)) (one_first (IsLive g root) (lists_of doc) p q a.first b.first)
  same_need (Err (Impossible p)) (Err (TooWide q)) a b = absurd (not_both p q a b)
  same_need (Err (Impossible p)) (Err TooHeavy) a b = absurd (not_impossible p b.can a)
  same_need (Err (Impossible p)) (Err TooMany) a b = absurd b
  same_need (Err (Impossible p)) (Err NoMemory) a b = absurd b
  same_need (Err (TooWide p)) (Ok n) a b = absurd (not_wide p b.can a)
  same_need (Err (TooWide p)) (Err (Impossible q)) a b = absurd (not_both q p b a)
  same_need (Err (TooWide p)) (Err (TooWide q)) a b = ap (λ k. Err (TooWide k)) (same_wide p q a b)
  same_need (Err (TooWide p)) (Err TooHeavy) a b = absurd (not_wide p b.can a)
  same_need (Err (TooWide p)) (Err TooMany) a b = absurd b
  same_need (Err (TooWide p)) (Err NoMemory) a b = absurd b
  same_need (Err TooHeavy) (Ok n) a b = absurd (not_heavy n b a)
  same_need (Err TooHeavy) (Err (Impossible q)) a b = absurd (not_impossible q a.can b)
  same_need (Err TooHeavy) (Err (TooWide q)) a b = absurd (not_wide q a.can b)
  same_need (Err TooHeavy) (Err TooHeavy) a b = refl
  same_need (Err TooHeavy) (Err TooMany) a b = absurd b
  same_need (Err TooHeavy) (Err NoMemory) a b = absurd b
  same_need (Err TooMany) b x y = absurd x
  same_need (Err NoMemory) b x y = absurd x

pub one_need : (M : Type 0) → IsPotentiallyValidByLists M → OneNeed M
one_need M by_lists g root doc a b proper proper_doc x y = same_need M g root doc proper proper_doc by_lists a b x y
