-- Columns that lead to one another at one place.
use Rattle.std.proofs.Common.{Bool, Contains, List, None, [], ap, arith, false, get_or, inl, inr, length, refl, replicate, subst, suc, sym, true, zero, ℕ, ◌∙◌, ◌<◌, ◌∷◌, ◌≡◌, ◌⊎◌}
use Rattle.pv_model.specs.declared.models.Token.{Token}
use Rattle.pv_dtd.specs.Productive.{IsProductive}
use Rattle.pv_dtd.specs.Plain.{PlainDtd}
use Rattle.pv_columns.specs.ColumnRules.{ReadThrough, by_rule, done}
use Rattle.pv_reach.specs.Columns.{AreRules}
use Rattle.pv_columns.specs.Marks.{AreNullable}
use Rattle.pv_reach.specs.LeadingColumns.{AreAlike, AreRightEdges, AreLed, IsRightEdgeOf, IsHead}
use Rattle.pv_reach.specs.LeadingColumns.{Leads, LeadsOnTo, ReadsWhatever, Turned, along, here}
use Rattle.pv_columns.specs.declared.layers.Edge.{Edge}
use Rattle.pv_columns.specs.declared.rules.ColumnRule.{ColumnRule}
use Rattle.pv_reach.proofs.EmptyReaches.{nothing_reached}
use Rattle.pv_reach.proofs.FormedDtds.{IsFormedDtd}
use Rattle.pv_reach.proofs.PlacedNumbers.{unset}
use Rattle.pv_columns.proofs.Spans.{join}

module _ (rules : List ColumnRule) where
  -- each of the columns reaches over no tokens
  abbrev pub AllBare : List ℕ → Type 0
  AllBare cs = (k : ℕ) → k < length cs → (word : List Token) (p : ℕ) → ReadThrough rules word (get_or cs k 0 ∷ []) p p

  rest_bare : (c : ℕ) (cs : List ℕ) → AllBare (c ∷ cs) → AllBare cs
  rest_bare c cs b k lt = b (suc k) (omega arith)

  first_bare : (c : ℕ) (cs : List ℕ) → AllBare (c ∷ cs) → (word : List Token) (p : ℕ) → ReadThrough rules word (c ∷ []) p p
  first_bare c cs b = b 0 (omega arith)

  bare_all : (cs : List ℕ) → AllBare cs → (word : List Token) (p : ℕ) → ReadThrough rules word cs p p
  bare_all [] b word p = done p p refl
  bare_all (c ∷ cs) b word p = join rules word c cs p p p (first_bare c cs b word p) (bare_all cs (rest_bare c cs b) word p)

  -- what one of them reaches, they all reach
  one_reaches : (cs : List ℕ) (k : ℕ) → AllBare cs → k < length cs → (word : List Token) (i j : ℕ) → ReadThrough rules word (get_or cs k 0 ∷ []) i j → ReadThrough rules word cs i j
  one_reaches [] k b lt word i j d = absurd (omega arith)
  one_reaches (c ∷ cs) zero b lt word i j d = join rules word c cs i j j d (bare_all cs (rest_bare c cs b) word j)
  one_reaches (c ∷ cs) (suc k) b lt word i j d = join rules word c cs i i j (first_bare c cs b word i) (one_reaches cs k (rest_bare c cs b) (omega arith) word i j d)

  -- and what one and a later one reach
  two_reach : (cs : List ℕ) (k m : ℕ) → AllBare cs → k < m → m < length cs →
      (word : List Token) (h i j : ℕ) → ReadThrough rules word (get_or cs k 0 ∷ []) h i →
      ReadThrough rules word (get_or cs m 0 ∷ []) i j →
      ReadThrough rules word cs h j
  two_reach [] k m b less lt word h i j d e = absurd (omega arith)
  two_reach (c ∷ cs) k zero b less lt word h i j d e = absurd (omega arith)
  two_reach (c ∷ cs) zero (suc m) b less lt word h i j d e = join rules word c cs h i j d (one_reaches cs m (rest_bare c cs b) (omega arith) word i j e)
  two_reach (c ∷ cs) (suc k) (suc m) b less lt word h i j d e =
      join rules word c cs h h j (first_bare c cs b word h) (two_reach cs k m (rest_bare c cs b) (omega arith) (omega arith) word h i j d e)

  -- a rule that reads nothing
  by_columns : (r : ColumnRule) → Contains rules r → r.token ≡ None → (word : List Token) (i j : ℕ) → ReadThrough rules word r.columns.items i j → ReadThrough rules word (r.left ∷ []) i j
  by_columns r con e word i j d = by_rule r.left [] r i i j j con refl (rw e refl) d (done j j refl)

  module _ (r : ColumnRule) (con : Contains rules r) (e : r.token ≡ None) (bare : AllBare r.columns.items) where
    pub leads : (k : ℕ) → k < length r.columns.items → ReadsWhatever rules r.left (get_or r.columns.items k 0)
    leads k lt word i j d = by_columns r con e word i j (one_reaches r.columns.items k bare lt word i j d)

    pub follows : (a k m : ℕ) → ReadsWhatever rules a r.left → ReadsWhatever rules (get_or r.columns.items k 0) a → k < m → m < length r.columns.items → LeadsOnTo rules a (get_or r.columns.items m 0)
    follows a k m below above less lt word h i j d q =
        below word h j (by_columns r con e word h j (two_reach r.columns.items k m bare less lt word h i j (above word h i d) q))

  pub all_bare : (flags : List Bool) (cs : List ℕ) → AreNullable rules flags → ((k : ℕ) → k < length cs → get_or flags (get_or cs k 0) false ≡ true) → AllBare cs
  all_bare flags cs are some k lt = are.bare (get_or cs k 0) (some k lt)

  -- one more column that reaches over no tokens
  pub bare_more : (old new : List Bool) (r : ColumnRule) → Contains rules r → r.token ≡ None →
      ((k : ℕ) → k < length r.columns.items → get_or old (get_or r.columns.items k 0) false
      ≡ true) → AreNullable rules old →
      ((x : ℕ) → get_or new x false ≡ true → (x ≡ r.left) ⊎ (get_or old x false ≡ true)) → AreNullable rules new
  bare_more old new r con e some are flags = record {
    bare = λ x m word p. elim (flags x m) [
      | inr k ↦ are.bare x k word p
      | inl z ↦ (let P : ℕ → Type 0 = λ v. ReadThrough rules word (v ∷ []) p p in
          subst P (sym z) (by_columns r con e word p p (bare_all r.columns.items (all_bare old r.columns.items are some) word p)))
    ];
  }

  -- the edges of one more rule
  pub edges_more : (flags : List Bool) (old new : List Edge) (r : ColumnRule) → Contains rules r →
      r.token ≡ None → ((k : ℕ) → k < length r.columns.items →
      get_or flags (get_or r.columns.items k 0) false ≡ true) → AreNullable rules flags →
      AreRightEdges rules old → ((e : Edge) → Contains new e → Contains old e ⊎ IsRightEdgeOf r e) → AreRightEdges rules new
  edges_more flags old new r con e some are before either = record {
    leads = λ x c. elim (either x c) [
      | inl o ↦ before.leads x o
      | inr h ↦ (λ word i j d.
          let P : ℕ → Type 0 = λ v. ReadThrough rules word (v ∷ []) i j in
          subst P (sym h.2) (leads r con e (all_bare flags r.columns.items are some) h.0 h.1 word i j (subst P h.3 d)))
    ];
  }

  leads_all : (edges : List Edge) → AreRightEdges rules edges → (c d : ℕ) → Leads edges c d → ReadsWhatever rules c d
  leads_all edges are c d (here _ _ e) = λ word i j r. let P : ℕ → Type 0 = λ v. ReadThrough rules word (v ∷ []) i j in subst P (sym e) r
  leads_all edges are c d (along _ _ x con e l) = λ word i j r.
      let P : ℕ → Type 0 = λ v. ReadThrough rules word (v ∷ []) i j in
      subst P (sym e) (are.leads x con word i j (leads_all edges are x.to d l word i j r))

  -- a column that leads to one, and is led to by it, reaches the same
  pub alike : (edges turned : List Edge) (above below heads : List ℕ) (n : ℕ) →
      AreRightEdges rules edges → Turned edges turned → length heads ≡ n → length above ≡ n →
      length below ≡ n → AreLed edges above → AreLed turned below →
      ((c : ℕ) → c < n → IsHead above below c (get_or heads c 0)) → AreAlike rules heads
  alike edges turned above below heads n are back long la lb up down is = record { alike = λ c lt. go c lt (is c (omega arith)) }
    where
      As : ℕ → ℕ → Type 0
      As c v = (v < length heads) × ReadsWhatever rules c v × ReadsWhatever rules v c

      go : (c : ℕ) → c < length heads → IsHead above below c (get_or heads c 0) → As c (get_or heads c 0)
      go c lt (inl e) = subst (As c) (sym e) (lt, (λ word i j d. d), (λ word i j d. d))
      go c lt (inr (ca, cb, ea, eb)) =
          let u = up.led c ca in
          let w = down.led c cb in
          let there = leads_all edges are c (get_or above c 0) u.1 in
          let P : ℕ → Type 0 = λ v. ReadsWhatever rules v c in
          let back_again = turned_all c (get_or below c 0) w.1 in
          subst (As c) (sym ea) (omega (arith, u.0), there, subst P (sym eb ∙ ea) back_again)
        where
          turned_all : (x y : ℕ) → Leads turned x y → ReadsWhatever rules y x
          turned_all x y (here _ _ e) = λ word i j r. let P : ℕ → Type 0 = λ v. ReadThrough rules word (v ∷ []) i j in subst P e r
          turned_all x y (along _ _ f con e l) = λ word i j r.
              let b = back.back f con in
              let P : ℕ → Type 0 = λ v. ReadThrough rules word (v ∷ []) i j in
              turned_all f.to y l word i j (subst P b.2 (are.leads b.0 b.1 word i j (subst P (sym b.3) (subst P e r))))

-- the contents of productive names reach over no tokens
pub bare_names : (g : PlainDtd) (rules : List ColumnRule) (none flags : List Bool) (n : ℕ) → AreRules g rules → IsFormedDtd g → none ≡ replicate n false →
    ((x : ℕ) → get_or flags x false ≡ true → IsProductive g x ⊎ (get_or none x false ≡ true)) → AreNullable rules flags
bare_names g rules none flags n are formed e is = record {
  bare = λ c m word p. elim (is c m) [
    | inl q ↦ (nothing_reached g rules word are formed c p q).1
    | inr k ↦ absurd (let z = unset n c in let y = ap (λ v. get_or v c false) e in cc)
  ];
}

pub edges_none : (rules : List ColumnRule) (edges : List Edge) → edges ≡ [] → AreRightEdges rules edges
edges_none rules edges e = record { leads = λ x c. absurd (let P : List Edge → Type 0 = λ v. Contains v x in let l = (subst P e c).1 in omega arith) }
