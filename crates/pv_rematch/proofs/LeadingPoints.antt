-- Points that lead over tokens.
use Rattle.std.proofs.Common.{◌≡◌, ℕ, zero, suc, ◌+◌, ◌<◌, Bool, List, [], ◌∷◌, ◌++◌, length, take}
use Rattle.std.proofs.Common.{drop, get_or, refl, sym, ap, ◌∙◌, subst, arith, append_assoc}
use Rattle.std.proofs.Common.{append-nil, length-append}
use Rattle.pv_model.specs.Plain.{PlainPart, PlainToken}
use Rattle.pv_rematch.specs.States.{IsAfter, is_word}
use Rattle.pv_rematch.specs.Points.{LeadOver, span}
use Rattle.pv_rematch.specs.Walks.{Wait}
use Rattle.pv_rematch.specs.declared.points.Point.{Point}

module _ (p : PlainPart) where
  pub leads_both : (u : List PlainToken) (xs ys : List Point) (a b : List PlainToken) →
      LeadOver p u xs a → LeadOver p (u ++ a) ys b → LeadOver p u (xs ++ ys) (a ++ b)
  leads_both u [] ys a b l m =
      let P : List PlainToken → Type 0 = λ z. LeadOver p (u ++ z) ys b → LeadOver p u ys (z ++ b) in
      let Q : List PlainToken → Type 0 = λ z. LeadOver p z ys b in
      subst P (sym l) (λ k. subst Q (append-nil u) k) m
  leads_both u (x ∷ xs) ys a b l m =
      let Q : List PlainToken → Type 0 = λ z. LeadOver p z ys b in
      let behind : u ++ a ≡ (u ++ l.0) ++ l.1 =
      ap (λ z. u ++ z) l.2 ∙ sym (append_assoc u l.0 l.1) in (
        l.0,
        l.1 ++ b,
        ap (λ z. z ++ b) l.2 ∙ append_assoc l.0 l.1 b,
        l.3,
        l.4,
        leads_both (u ++ l.0) xs ys l.1 b l.5 (subst Q behind m),
      )

  pub leads_split : (u : List PlainToken) (xs ys : List Point) (a : List PlainToken) →
      LeadOver p u (xs ++ ys) a →
      (b : List PlainToken) × (c : List PlainToken) × (a ≡ b ++ c) × LeadOver p u xs b ×
      LeadOver p (u ++ b) ys c
  leads_split u [] ys a l =
      let Q : List PlainToken → Type 0 = λ z. LeadOver p z ys a in
      ([], a, refl, refl, subst Q (sym (append-nil u)) l)
  leads_split u (x ∷ xs) ys a l =
      let s = leads_split (u ++ l.0) xs ys l.1 l.5 in
      let Q : List PlainToken → Type 0 = λ z. LeadOver p z ys s.1 in (
        l.0 ++ s.0,
        s.1,
        l.2 ∙ ap (λ z. l.0 ++ z) s.2 ∙ sym (append_assoc l.0 s.0 s.1),
        (l.0, s.0, refl, l.3, l.4, s.3),
        subst Q (append_assoc u l.0 s.0) s.4,
      )

  pub leads_span : (u : List PlainToken) (xs : List Point) (a : List PlainToken) →
      LeadOver p u xs a → length a ≡ span xs
  leads_span u [] a l = ap length l
  leads_span u (x ∷ xs) a l =
      ap length l.2 ∙ length-append l.0 l.1 ∙ omega (arith, l.3, leads_span (u ++ l.0) xs l.1 l.5)

  -- other tokens before them, of which the same is known of each continuation
  pub leads_behind : (u v : List PlainToken) (xs : List Point) (a : List PlainToken) →
      ((w : List PlainToken) → is_word p (u ++ w) ≡ is_word p (v ++ w)) → LeadOver p u xs a →
      LeadOver p v xs a
  leads_behind u v [] a same l = l
  leads_behind u v (x ∷ xs) a same l =
      let more : (w : List PlainToken) → is_word p ((u ++ l.0) ++ w) ≡ is_word p ((v ++ l.0) ++ w) =
      λ w. ap (is_word p) (append_assoc u l.0 w) ∙ same (l.0 ++ w)
      ∙ ap (is_word p) (sym (append_assoc v l.0 w)) in
      let after : IsAfter p (v ++ l.0) x.state =
      record { count = l.4.count; goes_on = λ w. l.4.goes_on w ∙ more w } in
      (l.0, l.1, l.2, l.3, after, leads_behind (u ++ l.0) (v ++ l.0) xs l.1 more l.5)

  -- a token further on, the tokens before the next point
  regroup : (w u a z b c : List PlainToken) → w ≡ u ++ (a ++ z) → a ≡ b ++ c →
      w ≡ (u ++ b) ++ (c ++ z)
  regroup w u a z b c e f =
      e ∙ ap (λ t. u ++ t) (ap (λ t. t ++ z) f ∙ append_assoc b c z)
      ∙ sym (append_assoc u b (c ++ z))

  -- the point of this number, and those after it
  pub wait_at : (w : List PlainToken) (was : Bool) → was ≡ is_word p w →
      (u : List PlainToken) (ps : List Point) (n : ℕ) (a z : List PlainToken) (k : ℕ) →
      w ≡ u ++ (a ++ z) → k ≡ length u + span (take (suc n) ps) →
      n < length ps → LeadOver p u ps a → Wait p w was k (drop n ps)
  wait_at w was known u [] n a z k e ke lt l = absurd (omega (arith, lt))
  wait_at w was known u (r ∷ rs) zero a z k e ke lt l =
      let len : length (u ++ l.0) ≡ k = omega (arith, length-append u l.0, l.3, ke) in
      (u ++ l.0, l.1, z, regroup w u a z l.0 l.1 e l.2, len, l.4, l.5, known)
  wait_at w was known u (r ∷ rs) (suc n) a z k e ke lt l =
      wait_at w was known (u ++ l.0) rs n l.1 z k (regroup w u a z l.0 l.1 e l.2)
      (omega (arith, length-append u l.0, l.3, ke)) (omega (arith, lt)) l.5

  -- the next one
  pub wait_next : (w : List PlainToken) (was : Bool) (n m : ℕ) (r : Point) (rs : List Point) →
      ((d : Point) → 0 < length rs → m ≡ n + (get_or rs 0 d).gap) → Wait p w was n (r ∷ rs) →
      Wait p w was m rs
  wait_next w was n m r [] g h = tt
  wait_next w was n m r (x ∷ xs) g h =
      let l = h.6 in
      let gap : m ≡ n + x.gap = g x (omega arith) in (
        h.0 ++ l.0,
        l.1,
        h.2,
        regroup w h.0 h.1 h.2 l.0 l.1 h.3 l.2,
        omega (arith, length-append h.0 l.0, h.4, l.3, gap),
        l.4,
        l.5,
        h.7,
      )

  -- what is reached at the last of some points
  pub after_last : (u : List PlainToken) (ps : List Point) (n : ℕ) (a : List PlainToken)
      (d : Point) → n < length ps → LeadOver p u (take (suc n) ps) a →
      IsAfter p (u ++ a) (get_or ps n d).state
  after_last u [] n a d lt l = absurd (omega (arith, lt))
  after_last u (r ∷ rs) zero a d lt l =
      let Q : List PlainToken → Type 0 = λ z. IsAfter p (u ++ z) r.state in
      subst Q (sym (l.2 ∙ ap (λ z. l.0 ++ z) l.5 ∙ append-nil l.0)) l.4
  after_last u (r ∷ rs) (suc n) a d lt l =
      let Q : List PlainToken → Type 0 = λ z. IsAfter p z (get_or rs n d).state in
      subst Q (append_assoc u l.0 l.1 ∙ ap (λ z. u ++ z) (sym l.2))
      (after_last (u ++ l.0) rs n l.1 d (omega (arith, lt)) l.5)

pub span_more : (ps : List Point) (n : ℕ) (d : Point) → n < length ps →
    span (take (suc n) ps) ≡ span (take n ps) + (get_or ps n d).gap
span_more [] n d lt = absurd (omega (arith, lt))
span_more (r ∷ rs) zero d lt = omega arith
span_more (r ∷ rs) (suc n) d lt = omega (arith, span_more rs n d (omega (arith, lt)))
