-- Rows that rise are a barrier where the rules hold whose right sides end where they say.
use Rattle.std.specs.List.{AllByRecursion}
use Rattle.std.proofs.Common.{List, Option, Some, [], arith, inl, inr, length, suc}
use Rattle.std.proofs.Common.{ℕ, ◌+◌, ◌<◌, ◌∷◌, ◌≡◌, ◌≤◌, ◌⊎◌}
use Rattle.std.proofs.lemmas.Bool.{cases_lt}
use Rattle.pv_model.specs.Plain.{PlainPart, PlainToken, plus}
use Rattle.pv_dtd.specs.Plain.{PlainDtd, parts_in}
use Rattle.pv_rules.specs.Barriers.{AreAtRows, AreRising, IsBarrierAtRows, IsWithinRows}
use Rattle.pv_rules.specs.Laws.{RowsMakeBarrier}
use Rattle.pv_rules.specs.Numbering.{first_part, part_at}
use Rattle.pv_rules.specs.Rules.{Goal, IsSpan, Rule, any_name, any_none, any_text, children_part}
use Rattle.pv_rules.specs.Rules.{empty_none, kept, missing, mixed_name, mixed_none, mixed_text, opt_none}
use Rattle.pv_rules.specs.Rules.{opt_one, over, part_choice, part_name, part_seq, plus_more, plus_one}
use Rattle.pv_rules.specs.Rules.{rest_last, rest_then, star_more, star_none}
use Rattle.pv_rules.specs.Sites.{PlainSite, content_site, name_site, part_site, rest_site}

module _ (g : PlainDtd) (w : List PlainToken) (rows : PlainSite → ℕ → Option ℕ)
    (rises : AreRising w rows) (at : IsBarrierAtRows g w rows) where
  shorter : (s : PlainSite) (i j m : ℕ) → j ≤ m → IsWithinRows rows (over s i m) →
      IsWithinRows rows (over s i j)
  shorter s i j m le (k, e, l) = (k, e, omega arith)

  -- one right side: the rule up to where its row says
  one : (c : ℕ) (s o : PlainSite) (i a j : ℕ) → i ≤ a →
      ((m : ℕ) → IsSpan w i m → a ≤ m → Rule g w (over s i m) c (over o a m ∷ [])) →
      IsWithinRows rows (over o a j) → IsWithinRows rows (over s i j)
  one c s o i a j le rule (k, e, l) =
      let b = rises.bounded o a k e in
      shorter s i j k l (at (over s i k) c (over o a k ∷ []) (rule k (omega arith, b.1) b.0) (e, tt))

  -- two right sides: the first up to where its row says, and the second from there
  two : (s o r : PlainSite) (i k j : ℕ) → k ≤ length w →
      ((m n : ℕ) → k ≤ m → m ≤ n → n ≤ length w → IsWithinRows rows (over o i m) →
      AreAtRows rows (over o i m ∷ over r m n ∷ []) → IsWithinRows rows (over s i n)) →
      IsWithinRows rows (over o i k) → IsWithinRows rows (over r k j) → IsWithinRows rows (over s i j)
  two s o r i k j short rule (m, e, l) (n, f, h) =
      let b = rises.bounded o i m e in
      let u = rises.rising r k m n f l b.1 in
      let d = rises.bounded r m u.0 u.1 in
      let z = u.2 in
      shorter s i j u.0 (omega arith) (rule m u.0 l d.0 d.1 (m, e, omega arith) (e, (u.1, tt)))

  plus_case : (q i m n : ℕ) (p : PlainPart) → i < m → m ≤ n → n ≤ length w →
      part_at g q ≡ Some (plus p) → IsWithinRows rows (over (part_site (suc q)) i m) →
      AreAtRows rows (over (part_site (suc q)) i m ∷ over (part_site q) m n ∷ []) →
      (suc m ≤ n) ⊎ (n ≤ m) → IsWithinRows rows (over (part_site q) i n)
  plus_case q i m n p a b l e f h (inl lt) =
      at (over (part_site q) i n) 0 (over (part_site (suc q)) i m ∷ over (part_site q) m n ∷ [])
      (plus_more q i m n p a lt l e) h
  plus_case q i m n p a b l e f h (inr le) =
      one 0 (part_site q) (part_site (suc q)) i i n (omega arith)
      (λ k s t. plus_one q i k p s e) (shorter (part_site (suc q)) i n m le f)

  within : (s : PlainSite) (i j c : ℕ) (xs : List Goal) → Rule g w (over s i j) c xs →
      AllByRecursion (IsWithinRows rows) xs → IsWithinRows rows (over s i j)
  within s i j c xs (kept x _ f) h = at (over s i j) c xs (kept x i f) tt
  within s i j c xs (missing x _ _ l) h =
      one 1 s (content_site x) i i j (omega arith) (λ m a b. missing x i m a) h.0
  within s i j c xs (empty_none x _ l m) h = at (over s i j) c xs (empty_none x i l m) tt
  within s i j c xs (mixed_none x _ ys l m) h = at (over s i j) c xs (mixed_none x i ys l m) tt
  within s i j c xs (mixed_text x _ _ ys a l m f) h =
      one 0 s (content_site x) i (suc i) j (omega arith)
      (λ k b d. mixed_text x i k ys (omega arith) b.1 m f) h.0
  within s i j c xs (mixed_name x e _ k _ ys a b l m f) h =
      two s (part_site (first_part g x + e)) (content_site x) i k j (omega arith)
      (λ y z o p q r t. at (over s i z) 0 (over (part_site (first_part g x + e)) i y ∷ over (content_site x) y z ∷ [])
      (mixed_name x e i y z ys (omega arith) p q m f) t)
      h.0 h.1.0
  within s i j c xs (any_none x _ l m) h = at (over s i j) c xs (any_none x i l m) tt
  within s i j c xs (any_text x _ _ a l m f) h =
      one 0 s (content_site x) i (suc i) j (omega arith)
      (λ k b d. any_text x i k (omega arith) b.1 m f) h.0
  within s i j c xs (any_name x v _ k _ a b l m d) h =
      two s (name_site v) (content_site x) i k j (omega arith)
      (λ y z o p q r t. at (over s i z) 0 (over (name_site v) i y ∷ over (content_site x) y z ∷ [])
      (any_name x v i y z (omega arith) p q m d) t)
      h.0 h.1.0
  within s i j c xs (children_part x _ _ p l m) h =
      one 0 s (part_site (first_part g x)) i i j (omega arith) (λ k a b. children_part x i k p a m) h.0
  within s i j c xs (part_name q y _ _ l e) h =
      one 0 s (name_site y) i i j (omega arith) (λ k a b. part_name q y i k a e) h.0
  within s i j c xs (part_seq q _ _ p ps l e) h =
      one 0 s (rest_site (suc q)) i i j (omega arith) (λ k a b. part_seq q i k p ps a e) h.0
  within s i j c xs (part_choice q r _ _ p ps l e m) h =
      one 0 s (part_site r) i i j (omega arith) (λ k a b. part_choice q r i k p ps a e m) h.0
  within s i j c xs (opt_none q _ p l e) h = at (over s i j) c xs (opt_none q i p l e) tt
  within s i j c xs (opt_one q _ _ p l e) h =
      one 0 s (part_site (suc q)) i i j (omega arith) (λ k a b. opt_one q i k p a e) h.0
  within s i j c xs (star_none q _ p l e) h = at (over s i j) c xs (star_none q i p l e) tt
  within s i j c xs (star_more q _ k _ p a b l e) h =
      two s (part_site (suc q)) (part_site q) i k j (omega arith)
      (λ y z o u v r t. at (over s i z) 0 (over (part_site (suc q)) i y ∷ over (part_site q) y z ∷ [])
      (star_more q i y z p (omega arith) u v e) t)
      h.0 h.1.0
  within s i j c xs (plus_one q _ _ p l e) h =
      one 0 s (part_site (suc q)) i i j (omega arith) (λ k a b. plus_one q i k p a e) h.0
  within s i j c xs (plus_more q _ k _ p a b l e) h =
      two s (part_site (suc q)) (part_site q) i k j (omega arith)
      (λ y z o u v r t. plus_case q i y z p (omega arith) u v e r t (cases_lt y z)) h.0 h.1.0
  within s i j c xs (rest_last q _ _ p l e) h =
      one 0 s (part_site q) i i j (omega arith) (λ k a b. rest_last q i k p a e) h.0
  within s i j c xs (rest_then q _ k _ p r ps a b l e) h =
      two s (part_site q) (rest_site (q + parts_in p)) i k j (omega arith)
      (λ y z o u v d t. at (over s i z) 0 (over (part_site q) i y ∷ over (rest_site (q + parts_in p)) y z ∷ [])
      (rest_then q i y z p r ps (omega arith) u v e) t)
      h.0 h.1.0

at_rows_within : (rows : PlainSite → ℕ → Option ℕ) (xs : List Goal) → AreAtRows rows xs →
    AllByRecursion (IsWithinRows rows) xs
at_rows_within rows [] h = tt
at_rows_within rows (x ∷ xs) h = ((x.to, h.0, omega arith), at_rows_within rows xs h.1)

pub rows_make_barrier : (g : PlainDtd) (w : List PlainToken) → RowsMakeBarrier g w
rows_make_barrier g w rows rises = (
  (λ at x c xs r h. within g w rows rises at x.site x.from x.to c xs r h),
  (λ b x c xs r h. b x c xs r (at_rows_within rows xs h)),
)
