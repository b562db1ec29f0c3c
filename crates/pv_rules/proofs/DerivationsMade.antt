-- Derivations of a site over a span, made by its rules.
use Rattle.std.proofs.Common.{List, Some, [], arith, inl, inr, length, refl, subst, suc, ℕ, ◌+◌, ◌<◌, ◌∷◌, ◌≡◌}
use Rattle.std.proofs.lemmas.Bool.{cases_lt}
use Rattle.pv_model.specs.Plain.{PlainPart, PlainToken, any, mixed, plus, star}
use Rattle.pv_dtd.specs.Plain.{IsDeclared, PlainDtd, model_of}
use Rattle.pv_rules.specs.Derivations.{by_rule, none_left, one_more}
use Rattle.pv_rules.specs.SiteDerivations.{DerivesAt}
use Rattle.pv_rules.specs.Numbering.{first_part, part_at}
use Rattle.pv_rules.specs.Rules.{IsSpan, Rule, any_name, mixed_name, over, plus_more, plus_one, star_more}
use Rattle.pv_rules.specs.Sites.{PlainSite, content_site, name_site, part_site}
use Rattle.pv_rules.proofs.Spans.{over_spans}

module _ (g : PlainDtd) (w : List PlainToken) where
  pub to_none : (s : PlainSite) (i : ℕ) → Rule g w (over s i i) 0 [] → DerivesAt g w s i i
  to_none s i r = (0, by_rule 0 0 0 (over s i i) [] refl r (none_left 0 refl))

  pub to_one : (c : ℕ) (s r : PlainSite) (i j k l : ℕ) → Rule g w (over s i j) c (over r k l ∷ []) → DerivesAt g w r k l → DerivesAt g w s i j
  to_one c s r i j k l rule (n, d) =
      (c + n, by_rule (c + n) c n (over s i j) (over r k l ∷ []) refl rule (one_more n n 0 (over r k l) [] (omega arith) d (none_left 0 refl)))

  pub to_two : (s r o : PlainSite) (i k j : ℕ) → Rule g w (over s i j) 0 (over r i k ∷ over o k j ∷ []) → DerivesAt g w r i k → DerivesAt g w o k j → DerivesAt g w s i j
  to_two s r o i k j rule (a, d) (b, f) = (
    a + b,
    by_rule (a + b) 0 (a + b) (over s i j) (over r i k ∷ over o k j ∷ []) (omega arith) rule
        (one_more (a + b) a b (over r i k) (over o k j ∷ []) refl d (one_more b b 0 (over o k j) [] (omega arith) f (none_left 0 refl))),
  )

  pub spanned : (s : PlainSite) (i j : ℕ) → DerivesAt g w s i j → IsSpan w i j
  spanned s i j (n, by_rule _ c m _ xs e r d) = (over_spans g w s i j c xs r).0

  -- the rules of two sides, also where the first of them is over nothing
  pub mixed_more : (x e i k j : ℕ) (ys : List ℕ) → model_of g x ≡ Some (mixed ys) → e < length ys → DerivesAt g w (part_site (first_part g x + e)) i k → DerivesAt g w (content_site x) k j →
      DerivesAt g w (content_site x) i j
  mixed_more x e i k j ys m l d f =
      let a = spanned (part_site (first_part g x + e)) i k d in let b = spanned (content_site x) k j f in
      elim (cases_lt i k) [
        | inl lt ↦ to_two (content_site x) (part_site (first_part g x + e)) (content_site x) i k j (mixed_name x e i k j ys lt (omega arith) (omega arith) m l) d f
        | inr le ↦ let z : k ≡ i = omega arith in let P : ℕ → Type 0 = λ v. DerivesAt g w (content_site x) v j in subst P z f
      ]

  pub any_more : (x y i k j : ℕ) → model_of g x ≡ Some any → IsDeclared g y → DerivesAt g w (name_site y) i k → DerivesAt g w (content_site x) k j → DerivesAt g w (content_site x) i j
  any_more x y i k j m l d f =
      let a = spanned (name_site y) i k d in let b = spanned (content_site x) k j f in
      elim (cases_lt i k) [
        | inl lt ↦ to_two (content_site x) (name_site y) (content_site x) i k j (any_name x y i k j lt (omega arith) (omega arith) m l) d f
        | inr le ↦ let z : k ≡ i = omega arith in let P : ℕ → Type 0 = λ v. DerivesAt g w (content_site x) v j in subst P z f
      ]

  pub star_again : (q i k j : ℕ) (p : PlainPart) → part_at g q ≡ Some (star p) → DerivesAt g w (part_site (suc q)) i k → DerivesAt g w (part_site q) k j → DerivesAt g w (part_site q) i j
  star_again q i k j p e d f =
      let a = spanned (part_site (suc q)) i k d in let b = spanned (part_site q) k j f in
      elim (cases_lt i k) [
        | inl lt ↦ to_two (part_site q) (part_site (suc q)) (part_site q) i k j (star_more q i k j p lt (omega arith) (omega arith) e) d f
        | inr le ↦ let z : k ≡ i = omega arith in let P : ℕ → Type 0 = λ v. DerivesAt g w (part_site q) v j in subst P z f
      ]

  pub plus_again : (q i k j : ℕ) (p : PlainPart) → part_at g q ≡ Some (plus p) → DerivesAt g w (part_site (suc q)) i k → DerivesAt g w (part_site q) k j → DerivesAt g w (part_site q) i j
  plus_again q i k j p e d f =
      let a = spanned (part_site (suc q)) i k d in let b = spanned (part_site q) k j f in
      elim (cases_lt i k) [
        | inl lt ↦ elim (cases_lt k j) [
          | inl kj ↦ to_two (part_site q) (part_site (suc q)) (part_site q) i k j (plus_more q i k j p lt kj (omega arith) e) d f
          | inr jk ↦
              let z : k ≡ j = omega arith in let P : ℕ → Type 0 = λ v. DerivesAt g w (part_site (suc q)) i v in
              to_one 0 (part_site q) (part_site (suc q)) i j i j (plus_one q i j p (omega arith, omega arith) e) (subst P z d)
        ]
        | inr le ↦ let z : k ≡ i = omega arith in let P : ℕ → Type 0 = λ v. DerivesAt g w (part_site q) v j in subst P z f
      ]
