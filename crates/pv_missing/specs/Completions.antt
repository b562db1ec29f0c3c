-- Potential validity, the least number of missing elements, and completions.
use Rattle.std.specs.Prelude.{List, [], length, suc, ℕ, ◌++◌, ◌+◌, ◌∷◌, ◌≡◌, ◌≤◌}
use Rattle.pv_dtd.specs.Plain.{PlainDtd}
use Rattle.pv_dtd.specs.Hedge.{Hedge, IsValid, Leaf, done, elem, elements, leaf}
use Rattle.pv_tree.specs.Plain.{PlainDoc}
use Rattle.pv_tree.specs.View.{view}
use Rattle.pv_missing.specs.Extensions.{Extends, join}

-- inserting elements can make the hedge valid
pub record IsPotentiallyValid (g : PlainDtd) (root : List ℕ) (h : Hedge) : Type 0 where
  pub hedge : Hedge
  pub extends : Extends h hedge
  pub valid : IsValid g root hedge

-- inserting so many elements can
pub record HasCompletion (g : PlainDtd) (root : List ℕ) (n : ℕ) (h : Hedge) : Type 0 where
  pub hedge : Hedge
  pub extends : Extends h hedge
  pub valid : IsValid g root hedge
  pub inserted : elements hedge ≡ n + elements h

-- the least number of elements whose insertion makes the hedge valid
pub record IsLeast (g : PlainDtd) (root : List ℕ) (n : ℕ) (h : Hedge) : Type 0 where
  pub completes : HasCompletion g root n h
  pub least : (m : ℕ) → HasCompletion g root m h → n ≤ m

-- The elements of h' are numbered in document order, from m up to e. Those with the numbers in
-- `added`, in rising order, have no attributes, and h' without their tags is h.
pub data LeavesOut : ℕ → ℕ → List ℕ → Hedge → Hedge → Type 0 where
  out_done : (m e : ℕ) → e ≡ m → LeavesOut m e [] done done
  out_leaf : (m e : ℕ) (added : List ℕ) (l : Leaf) (h h' : Hedge) → LeavesOut m e added h h' →
      LeavesOut m e added (leaf l h) (leaf l h')
  out_kept : (m i e : ℕ) (added one two x t : List ℕ) (k k' h h' : Hedge) → added ≡ one ++ two →
      LeavesOut (suc m) i one k k' → LeavesOut i e two h h' →
      LeavesOut m e added (elem x t k h) (elem x t k' h')
  out_new : (m i e : ℕ) (added one two x : List ℕ) (h h1 h2 k' h' : Hedge) →
      added ≡ m ∷ (one ++ two) → h ≡ join h1 h2 →
      LeavesOut (suc m) i one h1 k' → LeavesOut i e two h2 h' →
      LeavesOut m e added h (elem x [] k' h')

-- The second document is valid, is the first with k elements inserted, and has its bytes before and
-- after the root; `added` are the numbers of the inserted elements in document order, the root
-- having the number 0.
pub record Completes {M N : Type 0} (g : PlainDtd) (root : List ℕ) (doc : PlainDoc M)
    (body : PlainDoc N) (added : List ℕ) (k : ℕ) : Type 0 where
  pub valid : IsValid g root (view body.root)
  pub extends : Extends (view doc.root) (view body.root)
  pub inserted : elements (view body.root) ≡ k + elements (view doc.root)
  pub same_before : body.before ≡ doc.before
  pub same_after : body.after ≡ doc.after
  pub counted : length added ≡ k
  pub tags : LeavesOut 0 (elements (view body.root)) added (view doc.root) (view body.root)
