-- Sweeps against edges, and what is pushed on the way.
use Rattle.std.proofs.Common.{Contains, List, [], arith, get_or, inl, inr, length, refl, set, subst, suc, sym, zero, ℕ, ◌++◌, ◌+◌, ◌<◌, ◌∙◌, ◌∷◌, ◌≡◌, ◌⊎◌}
use Rattle.std.proofs.Math.ListN.{length-set}
use Rattle.std.proofs.lemmas.Bool.{cases_lt}
use Rattle.std.proofs.lemmas.List.{get_or_append_left}
use Rattle.std.proofs.Math.Seq.{get_or-append_seam}
use Rattle.std.proofs.lemmas.List.Elements.{Contains-append_cases}
use Rattle.pv_reach.specs.LeadingColumns.{AreLed, IsRightEdgeOf, IsHead, Leads, Turned, along, here}
use Rattle.pv_columns.specs.declared.layers.Edge.{Edge}
use Rattle.pv_columns.specs.declared.rules.ColumnRule.{ColumnRule}
use Rattle.pv_reach.proofs.RaisedCells.{set_at}

-- the column of an edge is given what that has which the edge leads to
pub lead_more : (edges : List Edge) (table : List ℕ) (e : Edge) → Contains edges e →
    e.from < length table → e.to < length table → AreLed edges table →
    AreLed edges (set table e.from (get_or table e.to 0))
lead_more edges table e con lf lt before = record { led = λ c l. go c (let n = same_length in omega arith) }
  where
    same_length : length (set table e.from (get_or table e.to 0)) ≡ length table
    same_length = simp length-set refl

    As : ℕ → ℕ → Type 0
    As v c = (v < length table) × Leads edges c v

    held : (c : ℕ) → c < length table → As (get_or (set table e.from (get_or table e.to 0)) c 0) c
    held c l = set_at As table e.from (get_or table e.to 0) c lf
        (λ z. let b = before.led e.to lt in (b.0, along c (get_or table e.to 0) e con z b.1))
        (λ ne. before.led c l)

    go : (c : ℕ) → c < length table → (get_or (set table e.from (get_or table e.to 0)) c 0
        < length (set table e.from (get_or table e.to 0)))
        × Leads edges c (get_or (set table e.from (get_or table e.to 0)) c 0)
    go c l = let h = held c l in ((let n = same_length in omega (arith, h.0)), h.1)

-- a table of numbers, each at its own place
pub led_self : (edges : List Edge) (table : List ℕ) (n : ℕ) → length table ≡ n → ((k : ℕ) → k < n → get_or table k 0 ≡ k) → AreLed edges table
led_self edges table n long is = record { led = λ c l. let e = is c (omega arith) in (omega arith, here c (get_or table c 0) (sym e)) }

pub number_more : (old new : List ℕ) (n : ℕ) → new ≡ old ++ (n ∷ []) → length old ≡ n → ((k : ℕ) → k < n → get_or old k 0 ≡ k) → (k : ℕ) → k < n + 1 → get_or new k 0 ≡ k
number_more old new n e long is k lt = rw e (elim (cases_lt k n) [
  | inl less ↦ get_or_append_left old (n ∷ []) 0 k (omega arith) ∙ is k less
  | inr ge ↦ last (omega arith)
])
  where
    last : k ≡ n → get_or (old ++ (n ∷ [])) k 0 ≡ k
    last z =
        let same : length old ≡ k = omega arith in
        let P : ℕ → Type 0 = λ v. get_or (old ++ (n ∷ [])) v 0 ≡ n in
        subst P same (get_or-append_seam old n [] 0) ∙ sym z

one_edge : (e f : Edge) (i : ℕ) → i < 1 → get_or (e ∷ []) i f ≡ f → e ≡ f
one_edge e f zero lt h = h
one_edge e f (suc i) lt h = absurd (omega arith)

pushed_edge : (old new : List Edge) (e f : Edge) → new ≡ old ++ (e ∷ []) → Contains new f → Contains old f ⊎ (e ≡ f)
pushed_edge old new e f h con = go (Contains-append_cases old (e ∷ []) f (let P : List Edge → Type 0 = λ v. Contains v f in subst P h con))
  where
    go : Contains old f ⊎ Contains (e ∷ []) f → Contains old f ⊎ (e ≡ f)
    go (inl c) = inl c
    go (inr c) = inr (one_edge e f c.0 c.1 c.2)

-- one more edge of a rule
pub edge_more : (start old new : List Edge) (r : ColumnRule) (e : Edge) (k : ℕ) → new ≡ old ++ (e ∷ []) → k < length r.columns.items → e.from ≡ r.left → e.to ≡ get_or r.columns.items k 0 →
    ((f : Edge) → Contains old f → Contains start f ⊎ IsRightEdgeOf r f) → (f : Edge) → Contains new f → Contains start f ⊎ IsRightEdgeOf r f
edge_more start old new r e k h lt from to before f con = elim (pushed_edge old new e f h con) [
  | inl c ↦ before f c
  | inr z ↦ (let P : Edge → Type 0 = λ v. IsRightEdgeOf r v in inr (subst P z (k, lt, from, to)))
]

pub turned_none : (edges turned : List Edge) → turned ≡ [] → Turned edges turned
turned_none edges turned e = record { back = λ f c. absurd (let P : List Edge → Type 0 = λ v. Contains v f in let l = (subst P e c).1 in omega arith) }

pub turned_more : (edges old new : List Edge) (e f : Edge) → new ≡ old ++ (e ∷ []) → Contains edges f → f.from ≡ e.to → f.to ≡ e.from → Turned edges old → Turned edges new
turned_more edges old new e f h con from to before = record {
  back = λ x c. elim (pushed_edge old new e x h c) [
    | inl o ↦ before.back x o
    | inr z ↦ (let P : Edge → Type 0 = λ v. (y : Edge) × Contains edges y × (y.from ≡ v.to) × (y.to ≡ v.from) in subst P z (f, con, from, to))
  ];
}

-- one more column's head
pub head_more : (above below old new : List ℕ) (n v : ℕ) → new ≡ old ++ (v ∷ []) → length old ≡ n → IsHead above below n v → ((c : ℕ) → c < n → IsHead above below c (get_or old c 0)) →
    (c : ℕ) → c < n + 1 → IsHead above below c (get_or new c 0)
head_more above below old new n v e long is before c lt = rw e (elim (cases_lt c n) [
  | inl less ↦ (let P : ℕ → Type 0 = λ x. IsHead above below c x in subst P (sym (get_or_append_left old (v ∷ []) 0 c (omega arith))) (before c less))
  | inr ge ↦ last (omega arith)
])
  where
    last : n ≡ c → IsHead above below c (get_or (old ++ (v ∷ [])) c 0)
    last z =
        let P : ℕ → Type 0 = λ x. IsHead above below x (get_or (old ++ (v ∷ [])) x 0) in
        let Q : ℕ → Type 0 = λ x. IsHead above below n x in
        let R : ℕ → Type 0 = λ x. get_or (old ++ (v ∷ [])) x 0 ≡ v in
        subst P z (subst Q (sym (subst R long (get_or-append_seam old v [] 0))) is)
