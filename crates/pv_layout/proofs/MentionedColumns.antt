-- Columns that rules mention, and those that are told to mention them.
use Rattle.std.proofs.Common.{List, None, Some, [], ap, arith, false, get_or, inl, inr, length, slice_get, suc, true, zero, ℕ, ◌+◌, ◌-◌, ◌<◌, ◌∷◌, ◌≡◌, ◌≢◌, ◌≤◌, ◌⊎◌}
use Rattle.std.proofs.Math.Logic.{∥∥₁_elim}
use Rattle.std.proofs.lemmas.List.Edits.{get_or-between, length-between}
use Rattle.std.proofs.lemmas.Option.{get_or_from_slice_get, slice_get-get_or, slice_get_within}
use Rattle.std.specs.List.{between}
use Rattle.pv_model.specs.Plain.{PlainToken}
use Rattle.pv_layout.specs.ColumnRules.{Cell, ColumnRule, FormRule, IsRightSide, IsOneOf, ToNone, ToOne, ToText, ToTwo, cell}
use Rattle.pv_layout.specs.Forms.{PlainForm, form_at, of_element, of_none, of_nothing, of_one, of_opt, of_plus, of_star, of_two}
use Rattle.pv_layout.specs.Mentions.{AreTold, IsMentionTold, columns_mentioned}
use Rattle.pv_layout.specs.declared.mentions.Mentions.{Mentions}
use Rattle.pv_layout.proofs.PutValues.{same_or_not}

module _ (w : List PlainToken) (c i j n : ℕ) (xs : List Cell) (d : ℕ) where
  none_right : ToNone w c i j n xs → IsRightSide (cell d i j) xs → ⊥
  none_right (e, l, z, q) a = rw q at a

  one_case : (o : ℕ) → IsRightSide (cell d i j) (cell o i j ∷ []) → d ≡ o
  one_case o (inl e) = ap (λ (x : Cell). x.column) e
  one_case o (inr e) = absurd e

  one_right : (o : ℕ) → ToOne w c i j n xs o → IsRightSide (cell d i j) xs → d ≡ o
  one_right o (s, z, q) a = one_case o (rw q at a)

  text_case : IsRightSide (cell d i j) (cell c (suc i) j ∷ []) → ⊥
  text_case (inl e) = absurd (let y = ap (λ (x : Cell). x.from) e in omega arith)
  text_case (inr e) = e

  text_right : ToText w c i j n xs → IsRightSide (cell d i j) xs → ⊥
  text_right (a, l, g, z, q) h = text_case (rw q at h)

  two_case : (o e m : ℕ) → IsRightSide (cell d i j) (cell o i m ∷ cell e m j ∷ []) → (d ≡ o) ⊎ ((d ≡ e) × (i ≡ m))
  two_case o e m (inl q) = inl (ap (λ (x : Cell). x.column) q)
  two_case o e m (inr (inl q)) = inr (ap (λ (x : Cell). x.column) q, ap (λ (x : Cell). x.from) q)
  two_case o e m (inr (inr q)) = absurd q

  two_right : (o e m : ℕ) → ToTwo w c i j n xs o e m → IsRightSide (cell d i j) xs → (d ≡ o) ⊎ ((d ≡ e) × (i ≡ m))
  two_right o e m (a, b, h, z, q) l = two_case o e m (rw q at l)

  here : (o : ℕ) (ds : List ℕ) → d ≡ o → IsOneOf d (o ∷ ds)
  here o ds e = (0, ap Some (let z : o ≡ d = cc in z))

  behind_first : (o e m : ℕ) → i < m → ToTwo w c i j n xs o e m → IsRightSide (cell d i j) xs → IsOneOf d (o ∷ [])
  behind_first o e m l r a = elim (two_right o e m r a) [ inl q ↦ here o [] q | inr q ↦ absurd (let z = q.1 in omega arith) ]

  form_mentions : (f : PlainForm) → FormRule w c i j n xs f → IsRightSide (cell d i j) xs → IsOneOf d (columns_mentioned f)
  form_mentions of_none r a = absurd r
  form_mentions (of_element x o) (inl (g, e, z, q)) a = absurd (rw q at a)
  form_mentions (of_element x o) (inr r) a = let q = r.2 in here o [] (one_case o (rw q at a))
  form_mentions of_nothing r a = absurd (none_right r a)
  form_mentions (of_one ds) (o, h, r) a = let e = one_right o r a in rw e h
  form_mentions (of_opt o) (inl r) a = absurd (none_right r a)
  form_mentions (of_opt o) (inr r) a = here o [] (one_right o r a)
  form_mentions (of_star o false) (inl r) a = absurd (none_right r a)
  form_mentions (of_star o false) (inr (m, l, r)) a = behind_first o c m l r a
  form_mentions (of_star o true) (inl r) a = absurd (none_right r a)
  form_mentions (of_star o true) (inr (inl r)) a = absurd (text_right r a)
  form_mentions (of_star o true) (inr (inr (m, l, r))) a = behind_first o c m l r a
  form_mentions (of_plus o) (inl r) a = here o [] (one_right o r a)
  form_mentions (of_plus o) (inr (m, l, h, r)) a = behind_first o c m l r a
  form_mentions (of_two o e) (m, r) a = elim (two_right o e m r a) [ inl q ↦ here o (e ∷ []) q | inr q ↦ (1, ap Some (let y = q.0 in let z : e ≡ d = cc in z)) ]

pub mentions_right : (f : List PlainForm) (w : List PlainToken) (c i j n : ℕ) (xs : List Cell)
    (d : ℕ) → ColumnRule f w (cell c i j) n xs → IsRightSide (cell d i j) xs →
    IsOneOf d (columns_mentioned (form_at f c))
mentions_right f w c i j n xs d r a = form_mentions w c i j n xs d (form_at f c) r a

-- a number at a place of a slice
pub told_between : (xs : List ℕ) (first end p c : ℕ) → first ≤ p → p < end → end ≤ length xs → slice_get xs p ≡ Some c → IsOneOf c (between first end xs)
told_between xs first end p c a b l e =
    let n = length-between xs first end l in
    let z : first + (p - first) ≡ p = omega arith in
    let g : get_or (between first end xs) (p - first) 0 ≡ get_or xs (first + (p - first)) 0 = get_or-between xs first end (p - first) 0 (omega arith) in
    let h = rw z at g in
    let q : get_or xs p 0 ≡ c = get_or_from_slice_get xs p c 0 e in
    let s : slice_get (between first end xs) (p - first) ≡ Some (get_or (between first end xs) (p - first) 0) = slice_get-get_or (between first end xs) (p - first) 0 (omega arith) in
    (p - first, cc)

-- whether a number is among others can be told
one_or_not : (c : ℕ) (xs : List ℕ) → IsOneOf c xs ⊎ (IsOneOf c xs → ⊥)
one_or_not c [] = inr (λ o. none_of o.0 o.1)
  where
    none_of : (k : ℕ) → slice_get [] k ≡ Some c → ⊥
    none_of k e = let z = slice_get_within [] k c e in omega arith
one_or_not c (x ∷ xs) = elim (same_or_not x c) [
  | inl e ↦ inl (0, ap Some e)
  | inr ne ↦ elim (one_or_not c xs) [
    | inl o ↦ inl (suc o.0, o.1)
    | inr none ↦ inr (λ o. neither o.0 o.1 ne none)
  ]
]
  where
    neither : (k : ℕ) → slice_get (x ∷ xs) k ≡ Some c → (x ≢ c) → (IsOneOf c xs → ⊥) → ⊥
    neither zero e ne none = ne (cc)
    neither (suc k) e ne none = none (k, e)

-- what is told of all, told of one
pub told_one : (f : List PlainForm) (m : Mentions) (c d : ℕ) (above : List ℕ) → ∥ AreTold f m ∥₁ → 0 < length m.above.items → IsOneOf d (columns_mentioned (form_at f c)) → d < length f →
    ((s : ℕ) → IsMentionTold m d s → IsOneOf s above) → IsOneOf c above
told_one f m c d above h some o l each = elim (one_or_not c above) [
  | inl q ↦ q
  | inr none ↦ absurd (∥∥₁_elim h (λ a b. absurd a) (λ t. none (each c (t some c d o l))))
]
