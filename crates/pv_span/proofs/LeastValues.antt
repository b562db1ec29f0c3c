-- The least value that the rules give a column over a span, by what stands there.
use Rattle.std.specs.Prelude.{min}
use Rattle.std.proofs.Common.{Bool, List, Some, [], arith, false, inl, inr, refl, slice_get, suc, true, ℕ, ◌+◌, ◌<◌, ◌∷◌, ◌≡◌, ◌≤◌}
use Rattle.std.proofs.lemmas.Bool.{cases_lt}
use Rattle.pv_model.specs.Plain.{PlainToken, named, text}
use Rattle.pv_rules.specs.Derivations.{sum_of}
use Rattle.pv_rules.specs.Rules.{IsSpan}
use Rattle.pv_productive.specs.Tables.{no_size}
use Rattle.pv_layout.specs.ColumnRules.{Cell, ColumnRule, FormRule, ToOne, ToText, ToTwo, cell}
use Rattle.pv_layout.specs.Forms.{PlainForm, form_at, of_element, of_none, of_nothing, of_one, of_opt, of_plus, of_star, of_two}
use Rattle.pv_span.specs.Least.{IsLeastAt, IsLeastCut, IsLeastMember, IsTextValue}

module _ (f : List PlainForm) (w : List PlainToken) (t : Cell → ℕ) (c i j : ℕ) (span : IsSpan w i j) where
  rules : (p : PlainForm) → form_at f c ≡ p → (n : ℕ) (xs : List Cell) → ColumnRule f w (cell c i j) n xs → FormRule w c i j n xs p
  rules p e n xs r = rw e at r

  made : (p : PlainForm) → form_at f c ≡ p → (n : ℕ) (xs : List Cell) → FormRule w c i j n xs p → ColumnRule f w (cell c i j) n xs
  made p e n xs r = rw e r

  abbrev IsLeast : ℕ → Type 0
  IsLeast k = IsLeastAt f w t (cell c i j) k

  one_below : (d k : ℕ) → k ≤ t (cell d i j) → (n : ℕ) (xs : List Cell) → ToOne w c i j n xs d → k ≤ n + sum_of t xs
  one_below d k l n xs (s, z, e) = rw e (omega arith)

  two_below : (d e m k : ℕ) → k ≤ t (cell d i m) + t (cell e m j) → (n : ℕ) (xs : List Cell) → ToTwo w c i j n xs d e m → k ≤ n + sum_of t xs
  two_below d e m k l n xs (a, b, h, z, q) = rw q (omega arith)

  text_below : (k : ℕ) → k ≤ t (cell c (suc i) j) → (n : ℕ) (xs : List Cell) → ToText w c i j n xs → k ≤ n + sum_of t xs
  text_below k l n xs (a, b, g, z, q) = rw q (omega arith)

  -- a rule without right sides
  free : (p : PlainForm) (k : ℕ) → form_at f c ≡ p → k ≡ 0 → FormRule w c i j 0 [] p → IsLeast k
  free p k e z r = record { below = λ n xs q. omega arith; attained = λ few. (0, [], made p e 0 [] r, omega arith) }

  pub least_none : (k : ℕ) → form_at f c ≡ of_none → no_size ≤ k → IsLeast k
  least_none k e l = record { below = λ n xs r. absurd (rules of_none e n xs r); attained = λ few. absurd (omega arith) }

  pub least_kept : (x d k : ℕ) → form_at f c ≡ of_element x d → slice_get w i ≡ Some (named x) → j ≡ suc i → k ≡ 0 → IsLeast k
  least_kept x d k e g s z = free (of_element x d) k e z (inl (g, s, refl, refl))

  pub least_new : (x d k : ℕ) → form_at f c ≡ of_element x d → (slice_get w i ≡ Some (named x) → j ≡ suc i → ⊥) → k ≡ 1 + t (cell d i j) → IsLeast k
  least_new x d k e none v = record {
    below = λ n xs r. below_case n xs (rules (of_element x d) e n xs r);
    attained = λ few. (1, cell d i j ∷ [], made (of_element x d) e 1 (cell d i j ∷ []) (inr (span, refl, refl)), omega arith);
  }
    where
      below_case : (n : ℕ) (xs : List Cell) → FormRule w c i j n xs (of_element x d) → k ≤ n + sum_of t xs
      below_case n xs (inl (g, s, z, q)) = absurd (none g s)
      below_case n xs (inr (s, z, q)) = rw q (omega arith)

  pub least_nothing : (k : ℕ) → form_at f c ≡ of_nothing → (i ≡ j → k ≡ 0) → (i < j → no_size ≤ k) → IsLeast k
  least_nothing k e a b = elim (cases_lt i j) [
    | inl lt ↦ record {
      below = λ n xs r. absurd (let q = rules of_nothing e n xs r in let z = q.0 in omega arith);
      attained = λ few. absurd (let l = b lt in omega arith);
    }
    | inr le ↦ (let s = span.0 in let z : i ≡ j = omega arith in free of_nothing k e (a z) (z, span.1, refl, refl))
  ]

  pub least_one : (ds : List ℕ) (k : ℕ) → form_at f c ≡ of_one ds → IsLeastMember t ds i j k → IsLeast k
  least_one ds k e l = record {
    below = λ n xs r. let q = rules (of_one ds) e n xs r in one_below q.0 k (l.below q.0 q.1) n xs q.2;
    attained = λ few. let a = l.attained few in
        (0, cell a.0 i j ∷ [], made (of_one ds) e 0 (cell a.0 i j ∷ []) (a.0, a.1, (span, refl, refl)), let z = a.2 in omega arith);
  }

  pub least_opt_none : (d k : ℕ) → form_at f c ≡ of_opt d → i ≡ j → k ≡ 0 → IsLeast k
  least_opt_none d k e s z = free (of_opt d) k e z (inl (s, span.1, refl, refl))

  pub least_opt : (d k : ℕ) → form_at f c ≡ of_opt d → i < j → k ≡ t (cell d i j) → IsLeast k
  least_opt d k e lt v = record {
    below = λ n xs r. below_case n xs (rules (of_opt d) e n xs r);
    attained = λ few. (0, cell d i j ∷ [], made (of_opt d) e 0 (cell d i j ∷ []) (inr (span, refl, refl)), omega arith);
  }
    where
      below_case : (n : ℕ) (xs : List Cell) → FormRule w c i j n xs (of_opt d) → k ≤ n + sum_of t xs
      below_case n xs (inl q) = absurd (let z = q.0 in omega arith)
      below_case n xs (inr q) = one_below d k (omega arith) n xs q

  star_nothing : (d : ℕ) (b : Bool) → i ≡ j → FormRule w c i j 0 [] (of_star d b)
  star_nothing d true s = inl (s, span.1, refl, refl)
  star_nothing d false s = inl (s, span.1, refl, refl)

  pub least_star_none : (d k : ℕ) (b : Bool) → form_at f c ≡ of_star d b → i ≡ j → k ≡ 0 → IsLeast k
  least_star_none d k b e s z = free (of_star d b) k e z (star_nothing d b s)

  module _ (d h s : ℕ) (lt : i < j) (l : IsLeastCut t d c i j (suc i) (suc j) h) where
    more_below : (k : ℕ) → k ≤ h → (n : ℕ) (xs : List Cell) → ((m : ℕ) × (i < m) × ToTwo w c i j n xs d c m) → k ≤ n + sum_of t xs
    more_below k le n xs (m, a, q) = two_below d c m k (let z = l.below m a (let y = q.1 in omega arith) in omega arith) n xs q

    star_below : (k : ℕ) (b : Bool) → IsTextValue w t c b i j s → k ≡ min s h → (n : ℕ) (xs : List Cell) → FormRule w c i j n xs (of_star d b) → k ≤ n + sum_of t xs
    star_below k true v u n xs (inl q) = absurd (let z = q.0 in omega arith)
    star_below k true v u n xs (inr (inl q)) = text_below k (let z = v.below refl q.2 in omega arith) n xs q
    star_below k true v u n xs (inr (inr q)) = more_below k (omega arith) n xs q
    star_below k false v u n xs (inl q) = absurd (let z = q.0 in omega arith)
    star_below k false v u n xs (inr q) = more_below k (omega arith) n xs q

    cut_rule : (b : Bool) (m : ℕ) → i < m → m ≤ j → FormRule w c i j 0 (cell d i m ∷ cell c m j ∷ []) (of_star d b)
    cut_rule true m a q = inr (inr (m, a, (omega arith, q, span.1, refl, refl)))
    cut_rule false m a q = inr (m, a, (omega arith, q, span.1, refl, refl))

    text_rule : (b : Bool) → b ≡ true → slice_get w i ≡ Some text → FormRule w c i j 0 (cell c (suc i) j ∷ []) (of_star d b)
    text_rule true z g = inr (inl (lt, span.1, g, refl, refl))
    text_rule false z g = absurd cc

    pub least_star : (k : ℕ) (b : Bool) → form_at f c ≡ of_star d b → IsTextValue w t c b i j s → k ≡ min s h → IsLeast k
    least_star k b e v u = record {
      below = λ n xs r. star_below k b v u n xs (rules (of_star d b) e n xs r);
      attained = λ few. elim (cases_lt s h) [
        | inl less ↦ (
            let a = v.attained (omega arith) in
            (0, cell c (suc i) j ∷ [], made (of_star d b) e 0 (cell c (suc i) j ∷ []) (text_rule b a.0 a.1), let z = a.2 in omega arith)
            )
        | inr le ↦ (
            let a = l.attained (omega arith) in (
              0,
              cell d i a.0 ∷ cell c a.0 j ∷ [],
              made (of_star d b) e 0 (cell d i a.0 ∷ cell c a.0 j ∷ []) (cut_rule b a.0 a.1 (let y = a.2 in omega arith)),
              let z = a.3 in omega arith,
            )
            )
      ];
    }

  pub least_plus : (d k h : ℕ) → form_at f c ≡ of_plus d → IsLeastCut t d c i j (suc i) j h → k ≡ min (t (cell d i j)) h → IsLeast k
  least_plus d k h e l u = record {
    below = λ n xs r. below_case n xs (rules (of_plus d) e n xs r);
    attained = λ few. elim (cases_lt (t (cell d i j)) h) [
      | inl less ↦ (0, cell d i j ∷ [], made (of_plus d) e 0 (cell d i j ∷ []) (inl (span, refl, refl)), omega arith)
      | inr le ↦ (
          let a = l.attained (omega arith) in (
            0,
            cell d i a.0 ∷ cell c a.0 j ∷ [],
            made (of_plus d) e 0 (cell d i a.0 ∷ cell c a.0 j ∷ []) (inr (a.0, a.1, a.2, ((let x = a.1 in omega arith), (let y = a.2 in omega arith), span.1, refl, refl))),
            let z = a.3 in omega arith,
          )
          )
    ];
  }
    where
      below_case : (n : ℕ) (xs : List Cell) → FormRule w c i j n xs (of_plus d) → k ≤ n + sum_of t xs
      below_case n xs (inl q) = one_below d k (omega arith) n xs q
      below_case n xs (inr (m, a, b, q)) = two_below d c m k (let z = l.below m a b in omega arith) n xs q

  pub least_two : (d o k : ℕ) → form_at f c ≡ of_two d o → IsLeastCut t d o i j i (suc j) k → IsLeast k
  least_two d o k e l = record {
    below = λ n xs r. let q = rules (of_two d o) e n xs r in two_below d o q.0 k (l.below q.0 q.1.0 (let z = q.1.1 in omega arith)) n xs q.1;
    attained = λ few. let a = l.attained few in (
      0,
      cell d i a.0 ∷ cell o a.0 j ∷ [],
      made (of_two d o) e 0 (cell d i a.0 ∷ cell o a.0 j ∷ []) (a.0, (a.1, (let y = a.2 in omega arith), span.1, refl, refl)),
      let z = a.3 in omega arith,
    );
  }
