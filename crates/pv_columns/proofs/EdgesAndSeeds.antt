-- Edges and seeds, rule by rule.
use Rattle.std.specs.Prelude.{All, IsBitSet, bit_or}
use Rattle.std.proofs.Common.{Bool, Contains, List, None, Some, [], ap, arith, get_or, inl, inr, length, refl, set, subst, suc, sym, zero, ℕ, ◌*◌}
use Rattle.std.proofs.Common.{◌++◌, ◌/◌, ◌%◌, ◌^◌, ◌+◌, ◌<◌, ◌∙◌, ◌∷◌, ◌≡◌, ◌⊎◌, get_or-set_other, get_or-set_same}
use Rattle.std.proofs.lemmas.Bool.{cases_lt}
use Rattle.std.proofs.lemmas.List.{get_or_default}
use Rattle.std.proofs.lemmas.List.Elements.{Contains-append_left, Contains-push, Contains-push_cases}
use Rattle.std.proofs.lemmas.Nat.{and_mask, bit_set_by_shift, pow_apart, shl-shr, shr_split}
use Rattle.pv_model.specs.declared.models.Token.{Token}
use Rattle.pv_model.specs.declared.models.Token.TheVariants.{Name, Other, Text}
use Rattle.pv_columns.specs.Marks.{AreMarked, IsAmong}
use Rattle.pv_columns.specs.Takes.{Takes, takes_column, takes_token}
use Rattle.pv_columns.specs.declared.rules.ColumnRule.{ColumnRule}
use Rattle.pv_columns.specs.Bits.{HasIn, bit}
use Rattle.pv_columns.specs.EdgeFlows.{Flows, Grow, EdgesInRange, flows_along, flows_seed}
use Rattle.pv_columns.specs.ColumnRules.{InRange}
use Rattle.pv_columns.specs.Rows.{AddsEdges, AreEdges, AreSeeds, HasEdges, HasSeed, IsEdgeOf, IsLayer, edge}
use Rattle.pv_columns.specs.Tokens.{token_number}
use Rattle.pv_columns.specs.declared.layers.Edge.{Edge}
use Rattle.pv_columns.proofs.Bits.{of_or, or_left, or_right}
use Rattle.pv_columns.proofs.ClosedMarks.{same_or_not}

-- members by place
pub among_at : (cs : List ℕ) (k : ℕ) → k < length cs → IsAmong (get_or cs k 0) cs
among_at [] k l = absurd (omega arith)
among_at (c ∷ cs) zero l = inl refl
among_at (c ∷ cs) (suc k) l = inr (among_at cs k (omega arith))

pub at_among : (d : ℕ) (cs : List ℕ) → IsAmong d cs → (k : ℕ) × (k < length cs) × (d ≡ get_or cs k 0)
at_among d [] m = absurd m
at_among d (c ∷ cs) (inl e) = (0, omega arith, e)
at_among d (c ∷ cs) (inr m) = let r = at_among d cs m in let l = r.1 in (suc r.0, omega arith, r.2)

-- edges
pub edges_none : (left : ℕ) (columns : List ℕ) (edges : List Edge) → AddsEdges left columns 0 edges edges
edges_none left columns edges = record { grow = λ e c. c; only = λ e c. inl c; added = λ k l. absurd (omega arith) }

same_edge : (e f : Edge) → f.from ≡ e.from → f.to ≡ e.to → f ≡ e
same_edge e f a b = ap (λ x. edge x f.to) a ∙ ap (λ x. edge e.from x) b

pub edges_more : (left n : ℕ) (columns : List ℕ) (start old new : List Edge) (e : Edge) → new ≡ old ++ (e ∷ []) → n < length columns → e.from ≡ left → e.to ≡ get_or columns n 0 →
    AddsEdges left columns n start old → AddsEdges left columns (n + 1) start new
edges_more left n columns start old new e z l a b before = record { grow = grow; only = only; added = added }
  where
    grow : (f : Edge) → Contains start f → Contains new f
    grow f c = rw z (Contains-append_left old (e ∷ []) f (before.grow f c))

    only : (f : Edge) → Contains new f → Contains start f ⊎ ((f.from ≡ left) × IsAmong f.to columns)
    only f c = elim (Contains-push_cases old e f (rw z at c)) [
      | inl o ↦ before.only f o
      | inr q ↦ (let P : Edge → Type 0 = λ v. (v.from ≡ left) × IsAmong v.to columns in inr (subst P q (a, rw b (among_at columns n l))))
    ]

    added : (k : ℕ) → k < n + 1 → Contains new (edge left (get_or columns k 0))
    added k m = elim (cases_lt k n) [
      | inl x ↦ rw z (Contains-append_left old (e ∷ []) (edge left (get_or columns k 0)) (before.added k x))
      | inr x ↦
          let y : k ≡ n = omega arith in
          let q : edge left (get_or columns k 0) ≡ e = rw y (same_edge e (edge left (get_or columns n 0)) (sym a) (sym b)) in
          rw (z, q) (Contains-push old e)
    ]

-- the bits of a power of 2
bit_set : (n k : ℕ) → bit n k ≡ 1 → IsBitSet n k
bit_set n k e = (bit_set_by_shift n k).0 (and_mask (n / 2 ^ k) 1 ∙ e)

pub power_only : (n k : ℕ) → bit (2 ^ n) k ≡ 1 → n ≡ k
power_only n k e = elim (same_or_not n k) [
  | inl z ↦ z
  | inr z ↦ absurd (bit_set (2 ^ n) k e (pow_apart n k z))
]

pub power_has : (n : ℕ) → bit (2 ^ n) n ≡ 1
power_has n =
    let e : 1 * 2 ^ n ≡ 2 ^ n = omega arith in
    let P : ℕ → Type 0 = λ v. v / 2 ^ n ≡ 1 in
    let q : 2 ^ n / 2 ^ n ≡ 1 = subst P e (shl-shr 1 n) in
    rw q refl

-- one word with one number more
module _ (old : List ℕ) (column n : ℕ) (lt : column < length old) where
  abbrev more : List ℕ
  more = set old column (bit_or (get_or old column 0) (2 ^ n))

  here : get_or more column 0 ≡ bit_or (get_or old column 0) (2 ^ n)
  here = get_or-set_same old column (bit_or (get_or old column 0) (2 ^ n)) 0 lt

  as_here : (c k : ℕ) → c ≡ column → HasIn more column k → HasIn more c k
  as_here c k z h = let P : ℕ → Type 0 = λ v. HasIn more v k in subst P (sym z) h

  pub put_grow : Grow old more
  put_grow c k h = elim (same_or_not c column) [
    | inl z ↦ as_here c k z (rw here (or_left (get_or old column 0) (2 ^ n) k (let P : ℕ → Type 0 = λ v. HasIn old v k in subst P z h)))
    | inr z ↦ (let q : get_or more c 0 ≡ get_or old c 0 = rw get_or-set_other in rw q h)
  ]

  pub put_only : (c k : ℕ) → HasIn more c k → HasIn old c k ⊎ ((c ≡ column) × (n ≡ k))
  put_only c k h = elim (same_or_not c column) [
    | inr z ↦ (let q : get_or old c 0 ≡ get_or more c 0 = rw get_or-set_other in inl (rw q h))
    | inl z ↦
        let P : ℕ → Type 0 = λ v. HasIn more v k in
        let m : HasIn more column k = subst P z h in
        let q = sym here in
        let R : ℕ → Type 0 = λ v. HasIn old v k in
        elim (of_or (get_or old column 0) (2 ^ n) k (rw q m)) [
          | inl a ↦ inl (subst R (sym z) a)
          | inr b ↦ inr (z, power_only n k b)
        ]
  ]

  pub put_has : HasIn more column n
  put_has = rw here (or_right (get_or old column 0) (2 ^ n) n (power_has n))

-- a token by its number
same_token : (t u : Token) → token_number t ≡ token_number u → t ≡ u
same_token Other Other e = refl
same_token Other Text e = absurd (omega arith)
same_token Other (Name id) e = absurd (omega arith)
same_token Text Other e = absurd (omega arith)
same_token Text Text e = refl
same_token Text (Name id) e = absurd (omega arith)
same_token (Name id) Other e = absurd (omega arith)
same_token (Name id) Text e = absurd (omega arith)
same_token (Name a) (Name b) e = let z : a.0 ≡ b.0 = omega arith in ap (λ (v : ℕ). Name (record { 0 = v })) z

pub by_parts : (t u : Token) (m k : ℕ) → token_number t / 64 ≡ m → token_number t % 64 ≡ k → token_number u / 64 ≡ m → token_number u % 64 ≡ k → t ≡ u
by_parts t u m k a b c d = same_token t u (let p = shr_split (token_number t) 6 in let q = shr_split (token_number u) 6 in omega arith)

-- what flows is taken, and the other way
module _ (rules : List ColumnRule) (live : List Bool) (edges : List Edge) (seeds : List ℕ) (m : ℕ) (are : AreEdges rules live edges) (seeded : AreSeeds rules live m seeds) where
  flows_taken : (t : Token) → token_number t / 64 ≡ m → (c k : ℕ) → k ≡ token_number t % 64 → Flows edges seeds c k → Takes rules live t c
  flows_taken t a c k z (flows_seed _ _ h) =
      let s = seeded.sound c k h in let r = s.0 in let i = s.2 in
      let e : i.0 ≡ t = by_parts i.0 t m k i.4 i.5 a (sym z) in
      takes_token c r s.1 i.3 i.2 (i.1 ∙ ap Some e)
  flows_taken t a c k z (flows_along _ _ e con y f) =
      let s = are.sound e con in let r = s.0 in let i = s.2 in
      takes_column c e.to r s.1 (y ∙ i.2) i.1 i.0 i.3 (flows_taken t a e.to k z f)

  taken_flows : (t : Token) → token_number t / 64 ≡ m → (c : ℕ) → Takes rules live t c → Flows edges seeds c (token_number t % 64)
  taken_flows t a c (takes_token _ r con e s y) =
      let P : ℕ → Type 0 = λ v. HasIn seeds v (token_number t % 64) in flows_seed c (token_number t % 64) (subst P (sym e) (seeded.complete r con t y s a))
  taken_flows t a c (takes_column _ d r con e s y i v) =
      let p = at_among d r.columns.items i in
      let P : ℕ → Type 0 = λ x. Flows edges seeds x (token_number t % 64) in
      flows_along c (token_number t % 64) (edge r.left (get_or r.columns.items p.0 0)) (are.complete r con y s p.0 p.1) e (subst P p.2 (taken_flows t a d v))

  pub is_layer : (layer : List ℕ) → ((c k : ℕ) → (HasIn layer c k → Flows edges seeds c k) × (Flows edges seeds c k → HasIn layer c k)) → IsLayer rules live m layer
  is_layer layer exact c t a = (
    (λ h. flows_taken t a c (token_number t % 64) refl ((exact c (token_number t % 64)).0 h)),
    (λ v. (exact c (token_number t % 64)).1 (taken_flows t a c v)),
  )

-- the edges of one rule are added
pub edges_only : (live : List Bool) (r : ColumnRule) (old new : List Edge) → r.token ≡ None → AreMarked live r.columns.items → AddsEdges r.left r.columns.items (length r.columns.items) old new →
    (e : Edge) → Contains new e → Contains old e ⊎ IsEdgeOf live r e
edges_only live r old new s a adds e c = elim (adds.only e c) [
  | inl o ↦ inl o
  | inr o ↦ inr (s, a, o.0, o.1)
]

pub edges_has : (live : List Bool) (r : ColumnRule) (old new : List Edge) → AddsEdges r.left r.columns.items (length r.columns.items) old new → HasEdges live new r
edges_has live r old new adds s a k l = adds.added k l

pub edges_grow : (live : List Bool) (old new : List Edge) → ((e : Edge) → Contains old e → Contains new e) → (r : ColumnRule) → HasEdges live old r → HasEdges live new r
edges_grow live old new grow r h s a k l = grow (edge r.left (get_or r.columns.items k 0)) (h s a k l)

pub seed_grow : (live : List Bool) (m : ℕ) (old new : List ℕ) → Grow old new → (r : ColumnRule) → HasSeed live m old r → HasSeed live m new r
seed_grow live m old new grow r h t s a e = grow r.left (token_number t % 64) (h t s a e)

-- edges of rules in range are in range
pub in_range : (width : ℕ) (rules : List ColumnRule) (live : List Bool) (edges : List Edge) → InRange width rules → AreEdges rules live edges → EdgesInRange width edges
in_range width rules live edges range are k d lt = go (are.sound (get_or edges k d) (k, lt, get_or_default edges k (get_or edges k d) d lt))
  where
    go : (r : ColumnRule) × Contains rules r × IsEdgeOf live r (get_or edges k d) → ((get_or edges k d).from < width) × ((get_or edges k d).to < width)
    go (r, con, (s, a, f, i)) =
        let P : ColumnRule → Type 0 = λ v. (v.left < width) × All (λ c. c < width) v.columns.items in
        let q = subst P con.2 (range con.0 r con.1) in
        let p = at_among (get_or edges k d).to r.columns.items i in
        (rw f q.0, rw p.2 (q.1 p.0 0 p.1))
