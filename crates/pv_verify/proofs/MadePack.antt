-- The pack of a least completion and of the tables of its document passes each test.
use Rattle.std.proofs.Common.{List, Some, [], arith, length, refl, slice_get, subst, suc, sym, zero, ℕ, ◌+◌, ◌++◌, ◌-◌, ◌<◌, ◌∷◌, ◌≡◌, ◌≤◌}
use Rattle.std.specs.List.{All, AllPairs}
use Rattle.std.proofs.lemmas.List.{length-append}
use Rattle.std.proofs.lemmas.List.Elements.{All-append, All-cons, All-head, All-nil, All-tail, All-weaker}
use Rattle.std.proofs.lemmas.List.Kept.{AllPairs-cons}
use Rattle.pv_dtd.specs.Hedge.{Hedge, done, elem, elements, leaf}
use Rattle.pv_dtd.specs.Plain.{PlainDtd}
use Rattle.pv_tree.specs.Lists.{Listed, lists_of}
use Rattle.pv_tree.specs.View.{view}
use Rattle.pv_tree.specs.Words.{word_of}
use Rattle.pv_missing.specs.Completions.{IsPotentiallyValid, LeavesOut, out_done, out_kept}
use Rattle.pv_missing.specs.Completions.{out_leaf, out_new}
use Rattle.pv_missing.specs.ListWeights.{SumIsLeast, whole}
use Rattle.pv_tables.specs.TableLaws.{TablesAddUp}
use Rattle.pv_tables.specs.Values.{HaveTotal, listed_value}
use Rattle.pv_tables.specs.declared.tables.Table.{Table}
use Rattle.pv_table_check.specs.ClosedTables.{IsClosedTable}
use Rattle.pv_table_check.specs.Laws.{TablesAreClosed}
use Rattle.pv_verify.specs.Laws.{MadeIsAccepted}
use Rattle.pv_compare.specs.Kept.{AreMarks, attributes_of}
use Rattle.pv_verify.specs.Tests.{HasTotals, PassesTest}
use Rattle.pv_verify.specs.declared.answers.Why.{Why}
use Rattle.pv_verify.specs.declared.answers.Why.TheVariants as why
use Rattle.pv_verify.proofs.LeastByTests.{first_before, others_ascend}

-- ---- lists put together
left_item : {X : Type 0} (xs ys : List X) (k : ℕ) (x : X) → slice_get xs k ≡ Some x → slice_get (xs ++ ys) k ≡ Some x
left_item [] ys k x e = absurd cc
left_item (y ∷ xs) ys zero x e = e
left_item (y ∷ xs) ys (suc k) x e = left_item xs ys k x e

right_item : {X : Type 0} (xs ys : List X) (k : ℕ) (x : X) → slice_get ys k ≡ Some x → slice_get (xs ++ ys) (length xs + k) ≡ Some x
right_item [] ys k x e = let z : k ≡ 0 + k = omega arith in subst (λ n. slice_get ys n ≡ Some x) z e
right_item (y ∷ xs) ys k x e = let z : suc (length xs + k) ≡ suc (length xs) + k = omega arith in subst (λ n. slice_get (y ∷ (xs ++ ys)) n ≡ Some x) z (right_item xs ys k x e)

joined_pairs : {X : Type 0} (R : X → X → Type 0) (xs ys : List X) → AllPairs R xs → AllPairs R ys → All (λ x. All (R x) ys) xs → AllPairs R (xs ++ ys)
joined_pairs R [] ys p q across = q
joined_pairs R (x ∷ xs) ys p q across =
    AllPairs-cons R x (xs ++ ys) (All-append (R x) xs ys (first_before R x xs p) (All-head (λ z. All (R z) ys) x xs across))
    (joined_pairs R xs ys (others_ascend R x xs p) q (All-tail (λ z. All (R z) ys) x xs across))

-- ---- the marks
as_many : (h : Hedge) → length (attributes_of h) ≡ elements h
as_many done = refl
as_many (leaf l h) = as_many h
as_many (elem x t k h) = let a = as_many k in let b = as_many h in omega (arith, length-append (attributes_of k) (attributes_of h))

-- the element of this number has no attributes, the first one of the hedge having the number m
abbrev IsPlainAt : ℕ → ℕ → Hedge → ℕ → Type 0
IsPlainAt m e h k = (m ≤ k) × (k < e) × (slice_get (attributes_of h) (k - m) ≡ Some [])

record Marked (m e : ℕ) (added : List ℕ) (h : Hedge) : Type 0 where
  ends : e ≡ m + elements h
  ascend : AllPairs (λ a b. a < b) added
  each : All (IsPlainAt m e h) added

-- marks within an element, and after it
module _ (m i e : ℕ) (one two x t : List ℕ) (k h : Hedge) (a : Marked (suc m) i one k) (b : Marked i e two h) where
  last : e ≡ m + elements (elem x t k h)
  last = let p = a.ends in let q = b.ends in omega arith

  both_ascend : AllPairs (λ p q. p < q) (one ++ two)
  both_ascend = joined_pairs (λ p q. p < q) one two a.ascend b.ascend
      (All-weaker (IsPlainAt (suc m) i k) (λ p. All (λ q. p < q) two) (λ p f. All-weaker (IsPlainAt i e h) (λ q. p < q) (λ q g. let l = f.1 in let r = g.0 in omega arith) two b.each) one a.each)

  first_at : (n : ℕ) → IsPlainAt (suc m) i k n → IsPlainAt m e (elem x t k h) n
  first_at n (le, lt, at) =
      let z : n - m ≡ suc (n - suc m) = omega arith in let q = b.ends in
      (omega arith, omega arith, rw z (left_item (attributes_of k) (attributes_of h) (n - suc m) [] at))

  second_at : (n : ℕ) → IsPlainAt i e h n → IsPlainAt m e (elem x t k h) n
  second_at n (le, lt, at) =
      let p = a.ends in
      let z : n - m ≡ suc (length (attributes_of k) + (n - i)) = omega (arith, as_many k) in
      (omega arith, lt, rw z (right_item (attributes_of k) (attributes_of h) (n - i) [] at))

  both_plain : All (IsPlainAt m e (elem x t k h)) (one ++ two)
  both_plain = All-append (IsPlainAt m e (elem x t k h)) one two
      (All-weaker (IsPlainAt (suc m) i k) (IsPlainAt m e (elem x t k h)) first_at one a.each)
      (All-weaker (IsPlainAt i e h) (IsPlainAt m e (elem x t k h)) second_at two b.each)

marked : (m e : ℕ) (added : List ℕ) (h h' : Hedge) → LeavesOut m e added h h' → Marked m e added h'
marked m e _ _ _ (out_done _ _ same) = record { ends = omega arith; ascend = λ i j d lt within. absurd (omega arith); each = All-nil (IsPlainAt m e done) }
marked m e added _ _ (out_leaf _ _ _ l h h' o) = let r = marked m e added h h' o in record { ends = r.ends; ascend = r.ascend; each = r.each }
marked m e _ _ _ (out_kept _ i _ added one two x t k k' h h' s o p) =
    let a = marked (suc m) i one k k' o in
    let b = marked i e two h h' p in
    record {
      ends = last m i e one two x t k' h' a b;
      ascend = subst (AllPairs (λ y z. y < z)) (sym s) (both_ascend m i e one two x t k' h' a b);
      each = subst (All (IsPlainAt m e (elem x t k' h'))) (sym s) (both_plain m i e one two x t k' h' a b);
    }
marked m e _ _ _ (out_new _ i _ added one two x h h1 h2 k' h' s j o p) =
    let a = marked (suc m) i one h1 k' o in
    let b = marked i e two h2 h' p in
    let zero_apart : m - m ≡ 0 = omega arith in
    let behind = All-append (λ n. m < n) one two
    (All-weaker (IsPlainAt (suc m) i k') (λ n. m < n) (λ n f. let l = f.0 in omega arith) one a.each)
    (All-weaker (IsPlainAt i e h') (λ n. m < n) (λ n f. let l = f.0 in let q = a.ends in omega arith) two b.each) in
    record {
      ends = last m i e one two x [] k' h' a b;
      ascend = subst (AllPairs (λ y z. y < z)) (sym s) (AllPairs-cons (λ y z. y < z) m (one ++ two) behind (both_ascend m i e one two x [] k' h' a b));
      each = subst (All (IsPlainAt m e (elem x [] k' h'))) (sym s)
          (All-cons (IsPlainAt m e (elem x [] k' h')) m (one ++ two) (
            omega arith,
            (let q = last m i e one two x [] k' h' a b in omega arith),
            rw zero_apart refl,
          ) (both_plain m i e one two x [] k' h' a b));
    }

are_marks : (e : ℕ) (marks : List ℕ) (h h' : Hedge) → LeavesOut 0 e marks h h' → AreMarks marks h'
are_marks e marks h h' o = let r = marked 0 e marks h h' o in record {
  ascend = r.ascend;
  plain = All-weaker (IsPlainAt 0 e h') (λ m. slice_get (attributes_of h') m ≡ Some []) (λ m f. let z : m - 0 ≡ m = omega arith in rw z at f.2) marks r.each;
}

-- ---- the numbers
module _ {M : Type 0} (g : PlainDtd) (root : List ℕ) (lists : List (Listed M)) where
  -- closed tables have whole-list values
  some_total : (ts : List Table) → All (IsClosedTable g root lists) ts → (s : ℕ) × HaveTotal g root lists ts s
  some_total [] a = (0, refl)
  some_total (t ∷ ts) a =
      let c = All-head (IsClosedTable g root lists) t ts a in
      let more = some_total ts (All-tail (IsClosedTable g root lists) t ts a) in
      let v = listed_value t.entries (whole c.site (word_of g c.list.kids)) in
      (v + more.0, (v, more.0, refl, record { list = c.list; is_listed = c.is_listed; is_path = c.is_path; site = c.site; is_site = c.is_site; is_value = refl }, more.1))

pub made_is_accepted : (M : Type 0) → TablesAreClosed M → TablesAddUp M → MadeIsAccepted M
made_is_accepted M closed add_up g root doc pack body vs proper proper_doc are is_body completes least light tables = record { body = body; passes = passes }
  where
    all_closed : PassesTest g root doc pack body why.Closure
    all_closed = closed g root doc pack.tables proper tables

    valid : IsPotentiallyValid g root (view doc.root)
    valid = let c = least.completes in record { hedge = c.hedge; extends = c.extends; valid = c.valid }

    total : (s : ℕ) × HaveTotal g root (lists_of doc) pack.tables s
    total = some_total g root (lists_of doc) pack.tables all_closed.each

    sum : SumIsLeast g root total.0 (view doc.root)
    sum = add_up g root doc vs pack.tables total.0 proper proper_doc are valid tables total.1

    same : total.0 ≡ pack.total
    same =
        let below = sum.below pack.total least.completes in
        let above = least.least total.0 (sum.reached (omega arith)) in omega arith

    totals : HasTotals g root (lists_of doc) pack
    totals = record { as_many = completes.counted; adds_up = subst (HaveTotal g root (lists_of doc) pack.tables) same total.1 }

    passes : (test : Why) → PassesTest g root doc pack body test
    passes why.Body = is_body
    passes why.Marks = are_marks (elements (view body.root)) pack.marks (view doc.root) (view body.root) completes.tags
    passes why.Kept = record { same_before = completes.same_before; same_after = completes.same_after; tags = completes.tags }
    passes why.Validity = completes.valid
    passes why.Closure = all_closed
    passes why.Totals = totals
