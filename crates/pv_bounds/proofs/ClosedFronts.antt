-- Fronts that hold in each column are closed under the rules of columns.
use Rattle.std.specs.Prelude.{Bool, cond, false, nat_lt, true}
use Rattle.std.proofs.Common.{List, arith, inl, inr, length, map, refl, suc, ℕ, ◌+◌, ◌<◌, ◌≡◌, ◌≤◌, ◌⊎◌}
use Rattle.std.proofs.Math.ListN.{get_or-eq_default}
use Rattle.std.proofs.lemmas.Bool.{cases_lt, le-ltb, lt-ltb}
use Rattle.std.proofs.lemmas.List.{length-map}
use Rattle.pv_model.specs.Plain.{PlainToken}
use Rattle.pv_model.specs.PlainForms.{plain_token}
use Rattle.pv_model.specs.declared.models.Token.{Token}
use Rattle.pv_rules.specs.Derivations.{IsClosed, heaviest, sum_of}
use Rattle.pv_rules.specs.Rules.{IsSpan}
use Rattle.pv_rules.proofs.DerivationLaws.{closed_below}
use Rattle.pv_productive.specs.PlainForms.{dtd_of}
use Rattle.pv_layout.specs.Columns.{column_of}
use Rattle.pv_layout.specs.ColumnRules.{Cell, ColumnRule, FormRule, ToOne, ToText, ToTwo, cell}
use Rattle.pv_layout.specs.Forms.{PlainForm, form_at, of_element, of_none, of_nothing, of_one, of_opt, of_plus, of_star, of_two}
use Rattle.pv_layout.specs.FormForms.{plain_all, plain_form}
use Rattle.pv_layout.specs.Laws.{ColumnsDerive}
use Rattle.pv_layout.specs.SiteForms.{plain_sites}
use Rattle.pv_layout.specs.declared.layout.ColumnLayout.{ColumnLayout}
use Rattle.pv_layout.proofs.ColumnFacts.{column_spans}
use Rattle.pv_bounds.specs.Bounds.{IsBelowSites}
use Rattle.pv_bounds.specs.Fronts.{cost_from, empty_cost, front_cost, front_value, reaches_at}
use Rattle.pv_bounds.specs.HoldingForms.{ColumnHolds, CostsNoMore, CutsHold, EmptyHolds, FormCutsHold, TextsHold}
use Rattle.pv_bounds.specs.declared.fronts.Fronts.{Fronts}
use Rattle.pv_bounds.proofs.LeastCosts.{least_light}

-- T tells the values of cells, which are those of E over no tokens, and else those of L.
module _ (w : List PlainToken) (T : Cell → ℕ) (E : ℕ → ℕ) (L : ℕ → ℕ → ℕ → ℕ) (long : (c i j : ℕ) → i < j → T (cell c i j) ≡ L c i j) (none : (c i : ℕ) → T (cell c i i) ≡ E c) (c : ℕ) where
  empty_form : (f : PlainForm) → EmptyHolds E c f → (i n : ℕ) (xs : List Cell) → FormRule w c i i n xs f → E c ≤ n + sum_of T xs
  empty_form of_none h i n xs r = absurd r
  empty_form (of_element x d) h i n xs (inl (g, e, z, f)) = absurd (omega arith)
  empty_form (of_element x d) h i n xs (inr (s, z, f)) = rw f (let v = none d i in omega arith)
  empty_form of_nothing h i n xs r = omega arith
  empty_form (of_one ds) h i n xs (d, a, (s, z, f)) = rw f (let v = none d i in let k = h d a in omega arith)
  empty_form (of_opt d) h i n xs r = omega arith
  empty_form (of_star d b) h i n xs r = omega arith
  empty_form (of_plus d) h i n xs (inl (s, z, f)) = rw f (let v = none d i in omega arith)
  empty_form (of_plus d) h i n xs (inr (k, a, b, r)) = absurd (omega arith)
  empty_form (of_two d e) h i n xs (k, (a, b, l, z, f)) =
      let same : k ≡ i = omega arith in
      let u : T (cell d i k) ≡ E d = rw same (none d i) in
      let v : T (cell e k i) ≡ E e = rw same (none e i) in
      rw f (omega arith)

  module _ (i j : ℕ) (lt : i < j) (within : j ≤ length w) where
    one_case : (d : ℕ) → CostsNoMore w E L c i 0 d → (n : ℕ) (xs : List Cell) → ToOne w c i j n xs d → L c i j ≤ n + sum_of T xs
    one_case d h n xs (s, z, f) = rw f (let k = h j in let v = long d i j lt in omega arith)

    -- the second part has tokens, or none
    two_case : (d e k : ℕ) → CostsNoMore w E L c i (E e) d → CutsHold w E L c i d e → (n : ℕ) (xs : List Cell) → i < k → ToTwo w c i j n xs d e k → L c i j ≤ n + sum_of T xs
    two_case d e k h cuts n xs a (b, m, l, z, f) = rw f (by_place (cases_lt k j))
      where
        by_place : (k < j) ⊎ (j ≤ k) → L c i j ≤ n + (T (cell d i k) + (T (cell e k j) + 0))
        by_place (inl p) = let v = long d i k a in let u = long e k j p in let g = cuts k j a (omega arith) in omega arith
        by_place (inr p) =
            let same : k ≡ j = omega arith in
            let v : T (cell d i k) ≡ L d i j = rw same (long d i j lt) in
            let u : T (cell e k j) ≡ E e = rw same (none e j) in
            let g = h j in omega arith

    text_case : TextsHold w E L c i → (n : ℕ) (xs : List Cell) → ToText w c i j n xs → L c i j ≤ n + sum_of T xs
    text_case h n xs (a, l, g, z, f) = rw f (by_place (cases_lt (suc i) j))
      where
        by_place : (suc i < j) ⊎ (j ≤ suc i) → L c i j ≤ n + (T (cell c (suc i) j) + 0)
        by_place (inl p) = let v = long c (suc i) j p in let k = (h g).1 j in omega arith
        by_place (inr p) =
            let same : j ≡ suc i = omega arith in
            let v : T (cell c (suc i) j) ≡ E c = rw same (none c (suc i)) in
            let k : L c i j ≤ E c = rw same (h g).0 in omega arith

    long_form : (f : PlainForm) → ColumnHolds w E L c i f → FormCutsHold w E L c i f → (n : ℕ) (xs : List Cell) → FormRule w c i j n xs f → L c i j ≤ n + sum_of T xs
    long_form of_none h q n xs r = absurd r
    long_form (of_element x d) h q n xs (inl (g, e, z, f)) = let k : L c i j ≡ 0 = rw e (h.0 g) in omega arith
    long_form (of_element x d) h q n xs (inr (s, z, f)) = rw f (let k = h.1 j in let v = long d i j lt in omega arith)
    long_form of_nothing h q n xs (e, l, z, f) = absurd (omega arith)
    long_form (of_one ds) h q n xs (d, a, r) = one_case d (h d a) n xs r
    long_form (of_opt d) h q n xs (inl (e, l, z, f)) = absurd (omega arith)
    long_form (of_opt d) h q n xs (inr r) = one_case d h n xs r
    long_form (of_star d false) h q n xs (inl (e, l, z, f)) = absurd (omega arith)
    long_form (of_star d false) h q n xs (inr (k, a, r)) = two_case d c k h.1 q n xs a r
    long_form (of_star d true) h q n xs (inl (e, l, z, f)) = absurd (omega arith)
    long_form (of_star d true) h q n xs (inr (inl r)) = text_case (h.0 refl) n xs r
    long_form (of_star d true) h q n xs (inr (inr (k, a, r))) = two_case d c k h.1 q n xs a r
    long_form (of_plus d) h q n xs (inl r) = one_case d h n xs r
    long_form (of_plus d) h q n xs (inr (k, a, b, (p, m, l, z, f))) =
        rw f (let v = long d i k a in let u = long c k j b in let g = q k j a (omega arith) in omega arith)
    long_form (of_two d e) h q n xs (k, r) = by_place (cases_lt i k) r
      where
        by_place : (i < k) ⊎ (k ≤ i) → ToTwo w c i j n xs d e k → L c i j ≤ n + sum_of T xs
        by_place (inl a) t = two_case d e k h.0 q n xs a t
        by_place (inr a) (p, m, l, z, f) =
            let same : k ≡ i = omega arith in
            let v : T (cell d i k) ≡ E d = rw same (none d i) in
            let u : T (cell e k j) ≡ L e i j = rw same (long e i j lt) in
            rw f (let g = h.1 j in omega arith)

module _ (fronts : Fronts) where
  abbrev empty : ℕ → ℕ
  empty = empty_cost fronts.empty.items

  value_long : (c i j : ℕ) → i < j → front_cost fronts (cell c i j) ≡ cost_from fronts c i j
  value_long c i j l = let e : nat_lt i j ≡ true = lt-ltb i j l in rw e refl

  value_none : (c i : ℕ) → front_cost fronts (cell c i i) ≡ empty c
  value_none c i = let e : nat_lt i i ≡ false = le-ltb i i (omega arith) in rw e refl

  light_case : (b : Bool) (x y : ℕ) → x ≤ heaviest → y ≤ heaviest → cond b x y ≤ heaviest
  light_case true x y l m = l
  light_case false x y l m = m

  value_light : (x : Cell) → front_cost fronts x ≤ heaviest
  value_light x =
      light_case (nat_lt x.from x.to) (cost_from fronts x.column x.from x.to) (empty x.column)
      (least_light x.to (reaches_at fronts x.column x.from)) (omega arith)

  module _ (forms : List PlainForm) (w : List PlainToken) (empties : (c : ℕ) → c < length forms → EmptyHolds empty c (form_at forms c))
      (columns : (c i : ℕ) → c < length forms → i < length w → ColumnHolds w empty (cost_from fronts) c i (form_at forms c) × FormCutsHold w empty (cost_from fronts) c i (form_at forms c)) where
    by_span : (c i j n : ℕ) (xs : List Cell) → c < length forms →
        ColumnRule forms w (cell c i j) n xs → IsSpan w i j → (i < j) ⊎ (j ≤ i) →
        front_cost fronts (cell c i j) ≤ n + sum_of (front_cost fronts) xs
    by_span c i j n xs lt r s (inl l) =
        let v = value_long c i j l in
        let h = columns c i lt (let m = s.1 in omega arith) in
        let k = long_form w (front_cost fronts) empty (cost_from fronts) value_long value_none c i j l s.1 (form_at forms c) h.0 h.1 n xs r in omega arith
    by_span c i j n xs lt r s (inr l) =
        let same : j ≡ i = let m = s.0 in omega arith in
        let q : ColumnRule forms w (cell c i i) n xs = rw same at r in
        let v : front_cost fronts (cell c i j) ≡ empty c = rw same (value_none c i) in
        let k = empty_form w (front_cost fronts) empty (cost_from fronts) value_long value_none c (form_at forms c) (empties c lt) i n xs q in omega arith

    by_column : (c i j n : ℕ) (xs : List Cell) → ColumnRule forms w (cell c i j) n xs → (c < length forms) ⊎ (length forms ≤ c) → front_cost fronts (cell c i j) ≤ n + sum_of (front_cost fronts) xs
    by_column c i j n xs r (inl lt) = by_span c i j n xs lt r (column_spans forms w c i j n xs r).0 (cases_lt i j)
    by_column c i j n xs r (inr ge) = absurd (let e : form_at forms c ≡ of_none = get_or-eq_default forms of_none ge in rw e at r)

    pub fronts_closed : IsClosed (ColumnRule forms w) (front_cost fronts)
    fronts_closed x n xs r =
        let k : front_cost fronts x ≤ n + sum_of (front_cost fronts) xs = by_column x.column x.from x.to n xs r (cases_lt x.column (length forms)) in
        let l = value_light x in omega arith

-- so no site derives anything at less than they tell
pub below_sites : ColumnsDerive → (l : ColumnLayout) (word : List Token) (fronts : Fronts) →
    ((c : ℕ) → c < length l.forms.items → EmptyHolds (empty_cost fronts.empty.items) c
    (form_at (plain_all l.forms.items) c)) →
    ((c i : ℕ) → c < length l.forms.items → i < length word → ColumnHolds (map plain_token word) (empty_cost fronts.empty.items) (cost_from fronts) c i (form_at (plain_all l.forms.items) c) ×
    FormCutsHold (map plain_token word) (empty_cost fronts.empty.items) (cost_from fronts) c i
    (form_at (plain_all l.forms.items) c)) → IsBelowSites (dtd_of l.grammar.now)
    (map plain_token word) (front_value l fronts)
below_sites derive l word fronts empties columns s i j n has d =
    closed_below Cell (ColumnRule (plain_all l.forms.items) (map plain_token word)) (front_cost fronts)
    (fronts_closed fronts (plain_all l.forms.items) (map plain_token word) (λ c lt. empties c (let m = length-map l.forms.items plain_form in omega arith))
    (λ c k lt le. columns c k (let m = length-map l.forms.items plain_form in omega arith) (let m = length-map word plain_token in omega arith)))
    n (cell (column_of (plain_sites l.sites) s) i j) (derive l (map plain_token word) n s i j has d)
