-- Joining along edges.
use Rattle.std.specs.Prelude.{bit_or}
use Rattle.std.specs.List.{sum_by}
use Rattle.std.proofs.Common.{Contains, List, arith, get_or, inl, inr, length, set, subst, sym, ℕ, ◌+◌, ◌-◌, ◌<◌, ◌≡◌, ◌⊎◌}
use Rattle.std.proofs.lemmas.List.{get_or_default}
use Rattle.std.proofs.lemmas.List.Sums.{sum_by-set}
use Rattle.pv_columns.specs.Bits.{HasIn, bit}
use Rattle.pv_columns.specs.EdgeFlows.{AreAttained, AreClosed, Flows, Grow, Holds, Joins}
use Rattle.pv_columns.specs.EdgeFlows.{flows_along, flows_seed}
use Rattle.pv_columns.specs.declared.layers.Edge.{Edge}
use Rattle.pv_columns.proofs.Bits.{of_or, or_left, or_right}
use Rattle.pv_columns.proofs.ClosedMarks.{same_or_not}

pub set_less : (most : ℕ) (layer : List ℕ) (i v : ℕ) → i < length layer → get_or layer i 0 < v → v < most → sum_by (λ x. most - x) (set layer i v) < sum_by (λ x. most - x) layer
set_less most layer i v lt less le = let e = sum_by-set (λ x. most - x) layer i v 0 lt in omega arith

module _ (e : Edge) (old new : List ℕ) (j : Joins e old new) where
  same_column : (c k : ℕ) → c ≡ e.from → HasIn new e.from k → HasIn new c k
  same_column c k z h = let P : ℕ → Type 0 = λ v. HasIn new v k in subst P (sym z) h

  pub joins_grow : Grow old new
  joins_grow c k h = elim (same_or_not c e.from) [
    | inl z ↦ same_column c k z (let q = j.here in rw q (or_left (get_or old e.from 0) (get_or old e.to 0) k (let P : ℕ → Type 0 = λ v. HasIn old v k in subst P z h)))
    | inr z ↦ (let q = j.others c z in rw q h)
  ]

  from_or : (c k : ℕ) → HasIn new c k → HasIn old c k ⊎ ((c ≡ e.from) × HasIn old e.to k)
  from_or c k h = elim (same_or_not c e.from) [
    | inr z ↦ inl (let q = sym (j.others c z) in rw q h)
    | inl z ↦
        let P : ℕ → Type 0 = λ v. HasIn new v k in
        let n : HasIn new e.from k = subst P z h in
        let q = sym j.here in
        let R : ℕ → Type 0 = λ v. HasIn old v k in
        elim (of_or (get_or old e.from 0) (get_or old e.to 0) k (rw q n)) [
          | inl a ↦ inl (subst R (sym z) a)
          | inr b ↦ inr (z, b)
        ]
  ]

  pub joins_attained : (edges : List Edge) (seeds : List ℕ) → Contains edges e → AreAttained edges seeds old → AreAttained edges seeds new
  joins_attained edges seeds con a c k h = elim (from_or c k h) [
    | inl o ↦ a c k o
    | inr o ↦ flows_along c k e con o.0 (a e.to k o.1)
  ]

  -- an edge along which nothing changes holds
  pub joins_hold : new ≡ old → Holds old e
  joins_hold z k h =
      let P : List ℕ → Type 0 = λ v. get_or v e.from 0 ≡ bit_or (get_or old e.from 0) (get_or old e.to 0) in
      let w = subst P z j.here in
      let R : ℕ → Type 0 = λ v. bit v k ≡ 1 in
      subst R (sym w) (or_right (get_or old e.from 0) (get_or old e.to 0) k h)

-- one edge more
pub holds_more : (H : Edge → Type 0) (xs : List Edge) (i : ℕ) (d0 : Edge) → i < length xs →
    H (get_or xs i d0) → ((k : ℕ) (d : Edge) → k < i → H (get_or xs k d)) → (k : ℕ) (d : Edge) →
    k < i + 1 → H (get_or xs k d)
holds_more H xs i d0 lt here below k d less = elim (same_or_not k i) [
  | inl e ↦ (let q : get_or xs k d ≡ get_or xs i d0 = rw e (get_or_default xs i d d0 lt) in rw q here)
  | inr ne ↦ below k d (omega arith)
]

pub all_hold : (edges : List Edge) (layer : List ℕ) → ((k : ℕ) (d : Edge) → k < length edges → Holds layer (get_or edges k d)) → AreClosed edges layer
all_hold edges layer h e con = let P : Edge → Type 0 = Holds layer in subst P con.2 (h con.0 e con.1)

-- closed: what flows to a column, it has
pub flows_in : (edges : List Edge) (seeds layer : List ℕ) → AreClosed edges layer → Grow seeds layer → (c k : ℕ) → Flows edges seeds c k → HasIn layer c k
flows_in edges seeds layer closed grow c k (flows_seed _ _ h) = grow c k h
flows_in edges seeds layer closed grow c k (flows_along _ _ e con z f) =
    let P : ℕ → Type 0 = λ v. HasIn layer v k in subst P (sym z) (closed e con k (flows_in edges seeds layer closed grow e.to k f))
