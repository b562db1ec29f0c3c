-- All rules of a site hold exactly where its rows hold under the rules of their forms.
use Rattle.std.proofs.Common.{List, Some, [], arith, inl, inr, length, refl, subst, suc, zero, ℕ, ◌<◌, ◌∷◌, ◌≡◌, ◌≤◌, ◌⊎◌, ◌∙◌, ap}
use Rattle.std.proofs.lemmas.Bool.{cases_lt}
use Rattle.pv_model.specs.Plain.{PlainToken}
use Rattle.pv_dtd.specs.Plain.{PlainDtd}
use Rattle.pv_rules.specs.Barriers.{AreAtRows, IsWithinRows}
use Rattle.pv_rules.specs.Kinds.{ToNone, ToOne, ToText, ToTwo}
use Rattle.pv_rules.specs.Rules.{Goal, over}
use Rattle.pv_rules.specs.Sites.{PlainSite, content_site}
use Rattle.pv_denial.specs.RowForms.{HoldsNoSide, HoldsOneSide, HoldsOverTexts, HoldsTwoSides, value_then, one_past, past_at}
use Rattle.pv_denial.specs.Rows.{EachRow, IsRow, row_value}
use Rattle.pv_denial.specs.declared.denials.Row.{Row}
use Rattle.pv_denial.proofs.SiteRows.{past_bounds, past_some, past_within, within_past}

module _ (g : PlainDtd) (w : List PlainToken) (n : ℕ) (size : n ≡ length w) (rows : List Row) (each : EachRow (IsRow g n) rows) where
  fit : (i : ℕ) → i ≤ n → i ≤ length w
  fit i le = omega arith

  abbrev v : PlainSite → ℕ → ℕ
  v s i = past_at rows s i

  -- rules of one form hold
  abbrev Form : Type 1
  Form = ℕ → ℕ → ℕ → List Goal → Type 0

  abbrev Lets : PlainSite → Form → Type 0
  Lets s F = (i j c : ℕ) (xs : List Goal) → F i j c xs → AreAtRows (row_value rows) xs → IsWithinRows (row_value rows) (over s i j)

  at_past : (s : PlainSite) (i k : ℕ) → row_value rows s i ≡ Some k → v s i ≡ suc k
  at_past s i k e = ap one_past e

  pub let_none : (s : PlainSite) → HoldsNoSide rows s n → Lets s (ToNone g w)
  let_none s h i j c xs (e, l, _, _) at = past_within rows s i j (let a = h i (omega arith) in omega arith)

  pub from_none : (s : PlainSite) → Lets s (ToNone g w) → HoldsNoSide rows s n
  from_none s h i l = within_past rows s i i (h i i 0 [] (refl, fit i l, refl, refl) tt)

  pub one_at : (r : PlainSite) (i j : ℕ) (xs : List Goal) → xs ≡ over r i j ∷ [] → AreAtRows (row_value rows) xs → row_value rows r i ≡ Some j
  one_at r i j xs e at = let P : List Goal → Type 0 = λ ys. AreAtRows (row_value rows) ys in (subst P e at).0

  two_at : (r q : PlainSite) (i k j : ℕ) (xs : List Goal) → xs ≡ over r i k ∷ over q k j ∷ [] → AreAtRows (row_value rows) xs → (row_value rows r i ≡ Some k) × (row_value rows q k ≡ Some j)
  two_at r q i k j xs e at = let P : List Goal → Type 0 = λ ys. AreAtRows (row_value rows) ys in let a = subst P e at in (a.0, a.1.0)

  pub let_one : (s r : PlainSite) → HoldsOneSide rows s r n → Lets s (λ i j c xs. ToOne g w i j c xs r)
  let_one s r h i j c xs (span, _, e) at =
      let a = at_past r i j (one_at r i j xs e at) in past_within rows s i j (let b = h i (omega arith) in omega arith)

  pub from_one : (s r : PlainSite) → Lets s (λ i j c xs. ToOne g w i j c xs r) → HoldsOneSide rows s r n
  from_one s r h i l = go (v r i) refl
    where
      go : (k : ℕ) → v r i ≡ k → v r i ≤ v s i
      go zero e = omega arith
      go (suc k) e =
          let b = past_bounds g n rows each r i k e in
          let a = within_past rows s i k (h i k 0 (over r i k ∷ []) ((b.0, fit k b.1), refl, refl) (past_some (row_value rows r i) k e, tt)) in omega arith

  -- the second of two sites after the first
  two_past : (s r q : PlainSite) (i k j : ℕ) → HoldsTwoSides rows s r q n → i ≤ n → row_value rows r i ≡ Some k → row_value rows q k ≡ Some j → IsWithinRows (row_value rows) (over s i j)
  two_past s r q i k j h l e f =
      let a = at_past r i k e in let b = at_past q k j f in
      let c = h i l in
      let d : value_then (v r i) (v q) ≡ suc j = ap (λ m. value_then m (v q)) a ∙ b in
      past_within rows s i j (omega arith)

  -- where the second is the site itself, it is enough that the first takes a token
  from_two_case : (s r : PlainSite) (i k m : ℕ) → v r i ≡ suc k → v s k ≡ m → ((j : ℕ) → i < k →
      row_value rows r i ≡ Some k → row_value rows s k ≡ Some j → suc j ≤ v s i) →
      (i < k) ⊎ (k ≤ i) → m ≤ v s i
  from_two_case s r i k zero e f h c = omega arith
  from_two_case s r i k (suc j) e f h (inl lt) = h j lt (past_some (row_value rows r i) k e) (past_some (row_value rows s k) j f)
  from_two_case s r i k (suc j) e f h (inr ge) =
      let b = past_bounds g n rows each r i k e in let z : k ≡ i = omega arith in
      let P : ℕ → Type 0 = λ x. v s x ≡ suc j in let y = subst P z f in omega arith

  from_two_by : (s r : PlainSite) → ((i k j : ℕ) → i < k → k ≤ j → j ≤ n → row_value rows r i ≡ Some k → row_value rows s k ≡ Some j → suc j ≤ v s i) → HoldsTwoSides rows s r s n
  from_two_by s r h i l = go (v r i) refl
    where
      go : (m : ℕ) → v r i ≡ m → value_then m (v s) ≤ v s i
      go zero e = omega arith
      go (suc k) e =
          from_two_case s r i k (v s k) e refl
          (λ j lt a b. let y = past_bounds g n rows each s k j (at_past s k j b) in h i k j lt y.0 y.1 a b) (cases_lt i k)

  pub from_more : (s r : PlainSite) → Lets s (λ i j c xs. (k : ℕ) × (i < k) × ToTwo g w i j c xs r s k) → HoldsTwoSides rows s r s n
  from_more s r h =
      from_two_by s r (λ i k j lt le short a b. within_past rows s i j (h i j 0 (over r i k ∷ over s k j ∷ []) (k, lt, (le, fit j short, refl, refl)) (a, (b, tt))))

  pub let_more : (s r : PlainSite) → HoldsTwoSides rows s r s n → Lets s (λ i j c xs. (k : ℕ) × (i < k) × ToTwo g w i j c xs r s k)
  let_more s r h i j c xs (k, lt, (a, b, _, e)) at = let t = two_at r s i k j xs e at in two_past s r s i k j h (omega arith) t.0 t.1

  -- of one or more, the last takes a token too; one alone holds by itself
  pub from_again : (s r : PlainSite) → HoldsOneSide rows s r n → Lets s (λ i j c xs. (k : ℕ) × (i < k) × (k < j) × ToTwo g w i j c xs r s k) → HoldsTwoSides rows s r s n
  from_again s r one h = from_two_by s r (λ i k j lt le short a b. again i k j lt le short a b (cases_lt k j))
    where
      again : (i k j : ℕ) → i < k → k ≤ j → j ≤ n → row_value rows r i ≡ Some k → row_value rows s k ≡ Some j → (k < j) ⊎ (j ≤ k) → suc j ≤ v s i
      again i k j lt le short a b (inl less) = within_past rows s i j (h i j 0 (over r i k ∷ over s k j ∷ []) (k, lt, less, (le, fit j short, refl, refl)) (a, (b, tt)))
      again i k j lt le short a b (inr ge) = let y = at_past r i k a in let z = one i (omega arith) in omega arith

  pub let_again : (s r : PlainSite) → HoldsTwoSides rows s r s n → Lets s (λ i j c xs. (k : ℕ) × (i < k) × (k < j) × ToTwo g w i j c xs r s k)
  let_again s r h i j c xs (k, lt, less, (a, b, _, e)) at = let t = two_at r s i k j xs e at in two_past s r s i k j h (omega arith) t.0 t.1

  pub let_then : (s r q : PlainSite) → HoldsTwoSides rows s r q n → Lets s (λ i j c xs. (k : ℕ) × (i ≤ k) × ToTwo g w i j c xs r q k)
  let_then s r q h i j c xs (k, le, (a, b, _, e)) at = let t = two_at r q i k j xs e at in two_past s r q i k j h (omega arith) t.0 t.1

  pub from_then : (s r q : PlainSite) → Lets s (λ i j c xs. (k : ℕ) × (i ≤ k) × ToTwo g w i j c xs r q k) → HoldsTwoSides rows s r q n
  from_then s r q h i l = go (v r i) refl
    where
      last : (k m : ℕ) → v r i ≡ suc k → v q k ≡ m → m ≤ v s i
      last k zero e f = omega arith
      last k (suc j) e f =
          let a = past_bounds g n rows each r i k e in let b = past_bounds g n rows each q k j f in
          within_past rows s i j (h i j 0 (over r i k ∷ over q k j ∷ []) (k, a.0, (b.0, fit j b.1, refl, refl)) (past_some (row_value rows r i) k e, (past_some (row_value rows q k) j f, tt)))

      go : (m : ℕ) → v r i ≡ m → value_then m (v q) ≤ v s i
      go zero e = omega arith
      go (suc k) e = last k (v q k) e refl

  pub let_text : (x : ℕ) → HoldsOverTexts rows (content_site x) w → Lets (content_site x) (λ i j c xs. ToText g w i j c xs x)
  let_text x h i j c xs (lt, l, t, _, e) at =
      let a = at_past (content_site x) (suc i) j (text_at xs e at) in past_within rows (content_site x) i j (let b = h i t in omega arith)
    where
      text_at : (ys : List Goal) → ys ≡ over (content_site x) (suc i) j ∷ [] → AreAtRows (row_value rows) ys → row_value rows (content_site x) (suc i) ≡ Some j
      text_at ys f y = let P : List Goal → Type 0 = λ zs. AreAtRows (row_value rows) zs in (subst P f y).0

  pub from_text : (x : ℕ) → Lets (content_site x) (λ i j c xs. ToText g w i j c xs x) → HoldsOverTexts rows (content_site x) w
  from_text x h i t = go (v (content_site x) (suc i)) refl
    where
      go : (k : ℕ) → v (content_site x) (suc i) ≡ k → v (content_site x) (suc i) ≤ v (content_site x) i
      go zero e = omega arith
      go (suc k) e =
          let b = past_bounds g n rows each (content_site x) (suc i) k e in
          let a = within_past rows (content_site x) i k
          (h i k 0 (over (content_site x) (suc i) k ∷ [])
          (omega arith, fit k b.1, t, refl, refl)
          (past_some (row_value rows (content_site x) (suc i)) k e, tt)) in
          omega arith
