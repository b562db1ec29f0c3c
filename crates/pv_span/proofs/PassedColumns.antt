-- The least value of the columns that a loop has passed.
use Rattle.std.specs.Prelude.{min}
use Rattle.std.proofs.Common.{List, Some, arith, get_or, inl, inr, length, slice_get, ℕ, ◌+◌, ◌<◌, ◌≡◌, ◌≤◌, ◌⊎◌}
use Rattle.std.proofs.lemmas.Bool.{cases_lt}
use Rattle.std.proofs.lemmas.Option.{slice_get-get_or, slice_get_within}
use Rattle.pv_productive.specs.Tables.{no_size}
use Rattle.pv_layout.specs.ColumnRules.{Cell, IsOneOf, cell}
use Rattle.pv_span.specs.Least.{IsLeastMember}

-- k is the least value of the first n columns
pub record HavePassed (t : Cell → ℕ) (ds : List ℕ) (i j n k : ℕ) : Type 0 where
  pub within : n ≤ length ds
  pub below : (m d : ℕ) → m < n → slice_get ds m ≡ Some d → k ≤ t (cell d i j)
  pub attained : k < no_size → (d : ℕ) × IsOneOf d ds × (k ≡ t (cell d i j))

pub none_passed : (t : Cell → ℕ) (ds : List ℕ) (i j k : ℕ) → no_size ≤ k → HavePassed t ds i j 0 k
none_passed t ds i j k l = record { within = omega arith; below = λ m d a e. absurd (omega arith); attained = λ few. absurd (omega arith) }

module _ (t : Cell → ℕ) (ds : List ℕ) (i j n k h : ℕ) (p : HavePassed t ds i j n k) (lt : n < length ds) (e : h ≡ min k (t (cell (get_or ds n 0) i j))) where
  read : slice_get ds n ≡ Some (get_or ds n 0)
  read = slice_get-get_or ds n 0 lt

  below_case : (m d : ℕ) → (m < n) ⊎ (n ≤ m) → m < n + 1 → slice_get ds m ≡ Some d → h ≤ t (cell d i j)
  below_case m d (inl l) u g = let z = p.below m d l g in omega arith
  below_case m d (inr l) u g =
      let z : m ≡ n = omega arith in
      let s : d ≡ get_or ds n 0 = let a = rw z at g in let b = read in cc in rw s (omega arith)

  pub member_more : HavePassed t ds i j (n + 1) h
  member_more = record {
    within = omega arith;
    below = λ m d l g. below_case m d (cases_lt m n) l g;
    attained = λ few. elim (cases_lt k (t (cell (get_or ds n 0) i j))) [
      | inl less ↦ (let a = p.attained (omega arith) in (a.0, a.1, let z = a.2 in omega arith))
      | inr le ↦ (get_or ds n 0, (n, read), omega arith)
    ];
  }

pub all_passed : (t : Cell → ℕ) (ds : List ℕ) (i j n k h : ℕ) → HavePassed t ds i j n k → length ds ≤ n → h ≡ k → IsLeastMember t ds i j h
all_passed t ds i j n k h p l e = rw e (record {
  below = λ d a. p.below a.0 d (let z = slice_get_within ds a.0 d a.1 in omega arith) a.1;
  attained = p.attained;
})
