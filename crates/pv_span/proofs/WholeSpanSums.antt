-- Sums that rules give by values over a whole span.
use Rattle.std.specs.Prelude.{min}
use Rattle.std.proofs.Common.{Bool, List, [], ap, arith, false, inl, inr, refl, suc, true, ℕ, ◌+◌, ◌<◌, ◌∷◌, ◌≡◌, ◌≤◌, ◌⊎◌}
use Rattle.pv_model.specs.Plain.{PlainToken}
use Rattle.pv_rules.specs.Derivations.{sum_of}
use Rattle.pv_rules.specs.Rules.{IsSpan}
use Rattle.pv_productive.specs.Tables.{no_size}
use Rattle.pv_layout.specs.ColumnRules.{Cell, ColumnRule, FormRule, IsOneOf, IsRightSide, ToNone, ToOne, ToText, ToTwo, cell}
use Rattle.pv_layout.specs.Forms.{PlainForm, form_at, of_element, of_none, of_nothing, of_one, of_opt, of_plus, of_star, of_two}
use Rattle.pv_span.specs.Least.{IsLeastMember, IsSumAt, IsSumFrom}
use Rattle.pv_span.proofs.CutSums.{less_or}

module _ (f : List PlainForm) (w : List PlainToken) (t : Cell → ℕ) (c i j : ℕ) (span : IsSpan w i j) where
  by_form : (p : PlainForm) → form_at f c ≡ p → (n : ℕ) (xs : List Cell) → FormRule w c i j n xs p → ColumnRule f w (cell c i j) n xs
  by_form p e n xs r = rw e r

  abbrev IsSum : ℕ → Type 0
  IsSum k = IsSumAt f w t (cell c i j) k

  -- k is no more than the sums of the rules that have a right side over the whole span
  abbrev IsBelow : PlainForm → ℕ → Type 0
  IsBelow p k = (n : ℕ) (xs : List Cell) (d : ℕ) → FormRule w c i j n xs p → IsRightSide (cell d i j) xs → k ≤ n + sum_of t xs

  below_form : (p : PlainForm) (k : ℕ) → form_at f c ≡ p → IsBelow p k → (n : ℕ) (xs : List Cell) (d : ℕ) → ColumnRule f w (cell c i j) n xs → IsRightSide (cell d i j) xs → k ≤ n + sum_of t xs
  below_form p k e b n xs d r a = b n xs d (rw e at r) a

  none_right : (n : ℕ) (xs : List Cell) (d : ℕ) → ToNone w c i j n xs → IsRightSide (cell d i j) xs → ⊥
  none_right n xs d (e, l, z, q) a = rw q at a

  one_right : (o k : ℕ) → k ≤ t (cell o i j) → (n : ℕ) (xs : List Cell) → ToOne w c i j n xs o → k ≤ n + sum_of t xs
  one_right o k l n xs (s, z, q) = rw q (omega arith)

  text_case : (d : ℕ) → IsRightSide (cell d i j) (cell c (suc i) j ∷ []) → ⊥
  text_case d (inl e) = absurd (let y = ap (λ (x : Cell). x.from) e in omega arith)
  text_case d (inr e) = e

  text_right : (n : ℕ) (xs : List Cell) (d : ℕ) → ToText w c i j n xs → IsRightSide (cell d i j) xs → ⊥
  text_right n xs d (a, l, g, z, q) h = text_case d (rw q at h)

  two_case : (o e m d : ℕ) → IsRightSide (cell d i j) (cell o i m ∷ cell e m j ∷ []) → (j ≡ m) ⊎ (i ≡ m)
  two_case o e m d (inl q) = inl (ap (λ (x : Cell). x.to) q)
  two_case o e m d (inr (inl q)) = inr (ap (λ (x : Cell). x.from) q)
  two_case o e m d (inr (inr q)) = absurd q

  -- a rule of two right sides has one of them over the whole span where the span is cut at an end
  at_end : (o e m n : ℕ) (xs : List Cell) (d : ℕ) → ToTwo w c i j n xs o e m → IsRightSide (cell d i j) xs → (j ≡ m) ⊎ (i ≡ m)
  at_end o e m n xs d (a, b, h, z, q) l = two_case o e m d (rw q at l)

  two_right : (o e m k n : ℕ) (xs : List Cell) → ToTwo w c i j n xs o e m → k ≤ t (cell o i m) + t (cell e m j) → k ≤ n + sum_of t xs
  two_right o e m k n xs (a, b, h, z, q) l = rw q (omega arith)

  pub sum_none : (k : ℕ) → form_at f c ≡ of_none → no_size ≤ k → IsSum k
  sum_none k e l = record { below = below_form of_none k e (λ n xs d r a. absurd r); attained = λ few. absurd (omega arith) }

  pub sum_nothing : (k : ℕ) → form_at f c ≡ of_nothing → no_size ≤ k → IsSum k
  sum_nothing k e l = record { below = below_form of_nothing k e (λ n xs d r a. absurd (none_right n xs d r a)); attained = λ few. absurd (omega arith) }

  below_missing : (x o k : ℕ) → k ≡ 1 + t (cell o i j) → IsBelow (of_element x o) k
  below_missing x o k v n xs d (inl (g, e, z, q)) a = absurd (rw q at a)
  below_missing x o k v n xs d (inr (s, z, q)) a = rw q (omega arith)

  pub sum_missing : (x d k : ℕ) → form_at f c ≡ of_element x d → k ≡ 1 + t (cell d i j) → IsSum k
  sum_missing x d k e v = record {
    below = below_form (of_element x d) k e (below_missing x d k v);
    attained = λ few. (1, cell d i j ∷ [], by_form (of_element x d) e 1 (cell d i j ∷ []) (inr (span, refl, refl)), omega arith);
  }

  below_opt : (o k : ℕ) → k ≡ t (cell o i j) → IsBelow (of_opt o) k
  below_opt o k v n xs d (inl r) a = absurd (none_right n xs d r a)
  below_opt o k v n xs d (inr r) a = one_right o k (omega arith) n xs r

  pub sum_opt : (d k : ℕ) → form_at f c ≡ of_opt d → k ≡ t (cell d i j) → IsSum k
  sum_opt d k e v = record {
    below = below_form (of_opt d) k e (below_opt d k v);
    attained = λ few. (0, cell d i j ∷ [], by_form (of_opt d) e 0 (cell d i j ∷ []) (inr (span, refl, refl)), omega arith);
  }

  inside_none : (o m n k : ℕ) (xs : List Cell) (d : ℕ) → i < m → m < j → ToTwo w c i j n xs o c m → IsRightSide (cell d i j) xs → k ≤ n + sum_of t xs
  inside_none o m n k xs d p q r a = elim (at_end o c m n xs d r a) [ inl e ↦ absurd (omega arith) | inr e ↦ absurd (omega arith) ]

  below_plus : (o k : ℕ) → k ≡ t (cell o i j) → IsBelow (of_plus o) k
  below_plus o k v n xs d (inl r) a = one_right o k (omega arith) n xs r
  below_plus o k v n xs d (inr (m, p, q, r)) a = inside_none o m n k xs d p q r a

  pub sum_plus : (d k : ℕ) → form_at f c ≡ of_plus d → k ≡ t (cell d i j) → IsSum k
  sum_plus d k e v = record {
    below = below_form (of_plus d) k e (below_plus d k v);
    attained = λ few. (0, cell d i j ∷ [], by_form (of_plus d) e 0 (cell d i j ∷ []) (inl (span, refl, refl)), omega arith);
  }

  pub sum_member : (ds : List ℕ) (k : ℕ) → form_at f c ≡ of_one ds → IsLeastMember t ds i j k → IsSum k
  sum_member ds k e l = record {
    below = below_form (of_one ds) k e (λ n xs d r a. one_right r.0 k (l.below r.0 r.1) n xs r.2);
    attained = λ few. let a = l.attained few in
        (0, cell a.0 i j ∷ [], by_form (of_one ds) e 0 (cell a.0 i j ∷ []) (a.0, a.1, (span, refl, refl)), let z = a.2 in omega arith);
  }

  last_rule : (d : ℕ) (b : Bool) → i < j → FormRule w c i j 0 (cell d i j ∷ cell c j j ∷ []) (of_star d b)
  last_rule d true a = inr (inr (j, a, (omega arith, omega arith, span.1, refl, refl)))
  last_rule d false a = inr (j, a, (omega arith, omega arith, span.1, refl, refl))

  module _ (o k : ℕ) (v : i < j → k ≤ t (cell o i j) + t (cell c j j)) where
    star_cut : (m n : ℕ) (xs : List Cell) (d : ℕ) → i < m → ToTwo w c i j n xs o c m → IsRightSide (cell d i j) xs → k ≤ n + sum_of t xs
    star_cut m n xs d p r a = elim (at_end o c m n xs d r a) [
      | inl e ↦ two_right o c m k n xs r (rw (← e) (v (omega arith)))
      | inr e ↦ absurd (omega arith)
    ]

    below_star : (b : Bool) → IsBelow (of_star o b) k
    below_star true n xs d (inl r) a = absurd (none_right n xs d r a)
    below_star true n xs d (inr (inl r)) a = absurd (text_right n xs d r a)
    below_star true n xs d (inr (inr (m, p, r))) a = star_cut m n xs d p r a
    below_star false n xs d (inl r) a = absurd (none_right n xs d r a)
    below_star false n xs d (inr (m, p, r)) a = star_cut m n xs d p r a

  pub sum_star : (d k : ℕ) (b : Bool) → form_at f c ≡ of_star d b → i < j → k ≤ t (cell d i j) + t (cell c j j) →
      (k < no_size → k ≡ t (cell d i j) + t (cell c j j)) → IsSum k
  sum_star d k b e a l v = record {
    below = below_form (of_star d b) k e (below_star d k (λ p. l) b);
    attained = λ few. (0, cell d i j ∷ cell c j j ∷ [], by_form (of_star d b) e 0 (cell d i j ∷ cell c j j ∷ []) (last_rule d b a), let z = v few in omega arith);
  }

  pub sum_star_none : (d k : ℕ) (b : Bool) → form_at f c ≡ of_star d b → j ≤ i → no_size ≤ k → IsSum k
  sum_star_none d k b e a l = record {
    below = below_form (of_star d b) k e (below_star d k (λ p. absurd (omega arith)) b);
    attained = λ few. absurd (omega arith);
  }

  -- where the span is cut
  two_at : (d o m k : ℕ) → form_at f c ≡ of_two d o → i ≤ m → m ≤ j → k ≡ t (cell d i m) + t (cell o m j) →
      (n : ℕ) × (xs : List Cell) × ColumnRule f w (cell c i j) n xs × (k ≡ n + sum_of t xs)
  two_at d o m k e a b v = (0, cell d i m ∷ cell o m j ∷ [], by_form (of_two d o) e 0 (cell d i m ∷ cell o m j ∷ []) (m, (a, b, span.1, refl, refl)), omega arith)

  below_two : (o e k : ℕ) → k ≤ t (cell o i i) + t (cell e i j) → k ≤ t (cell o i j) + t (cell e j j) → IsBelow (of_two o e) k
  below_two o e k u v n xs d (m, r) a = elim (at_end o e m n xs d r a) [
    | inl z ↦ two_right o e m k n xs r (rw (← z) v)
    | inr z ↦ two_right o e m k n xs r (rw (← z) u)
  ]

  pub sum_two : (d o k first last : ℕ) → form_at f c ≡ of_two d o → k ≡ min first last → first ≤ t (cell d i i) + t (cell o i j) → last ≤ t (cell d i j) + t (cell o j j) →
      (first < no_size → first ≡ t (cell d i i) + t (cell o i j)) → (last < no_size → last ≡ t (cell d i j) + t (cell o j j)) → IsSum k
  sum_two d o k first last e m a b u v = record {
    below = below_form (of_two d o) k e (below_two d o k (omega arith) (omega arith));
    attained = λ few. elim (less_or k first last m) [
      | inl z ↦ two_at d o i k e (omega arith) span.0 (let q = u (omega arith) in omega arith)
      | inr z ↦ two_at d o j k e span.0 (omega arith) (let q = v (omega arith) in omega arith)
    ];
  }

  -- a sum that counts for all values counts for those from v on
  pub sum_from_all : (v k : ℕ) → IsSum k → IsSumFrom f w t (cell c i j) v k
  sum_from_all v k s = record { below = λ n xs d r h l. s.below n xs d r h; attained = s.attained }

  right_sum : (x : Cell) (xs : List Cell) → IsRightSide x xs → t x ≤ sum_of t xs
  right_sum x [] h = absurd h
  right_sum x (y ∷ xs) (inl e) = let z = ap t e in omega arith
  right_sum x (y ∷ xs) (inr h) = let z = right_sum x xs h in omega arith

  -- the value of one of the columns of which one stands in this column
  pub sum_of_member : (ds : List ℕ) (o v : ℕ) → form_at f c ≡ of_one ds → IsOneOf o ds →
      t (cell o i j) ≡ v → IsSumFrom f w t (cell c i j) v v
  sum_of_member ds o v e one z = record {
    below = λ n xs d r h l. let s = right_sum (cell d i j) xs h in omega arith;
    attained = λ few. (
      0,
      cell o i j ∷ [],
      by_form (of_one ds) e 0 (cell o i j ∷ []) (o, one, (span, refl, refl)),
      omega arith,
    );
  }
