-- What reaches a span reaches each span within it.
use Rattle.std.proofs.Common.{◌≡◌, ◌≤◌, ◌<◌, ◌+◌, ◌⊎◌, ℕ, suc, zero, List, [], ◌∷◌, Option, Some, None, Contains, length, refl, slice_get, sym, subst, arith, inl, inr}
use Rattle.std.proofs.lemmas.Bool.{cases_lt}
use Rattle.std.proofs.lemmas.Option.{slice_get_within}
use Rattle.pv_model.specs.declared.models.Token.{Token}
use Rattle.pv_columns.specs.declared.rules.ColumnRule.{ColumnRule}
use Rattle.pv_columns.specs.ColumnRules.{ReadsToken, ReadThrough, done, by_rule, TokensMayBeMissing, EndsAreIntervals}

pub reads_on : (word : List Token) (o : Option Token) (i m : ℕ) → ReadsToken word o i m → i ≤ m
reads_on word None i m e = omega arith
reads_on word (Some t) i m (g, e) = omega arith

pub reads_within : (word : List Token) (o : Option Token) (i m : ℕ) → ReadsToken word o i m → i ≤ length word → m ≤ length word
reads_within word None i m e le = omega arith
reads_within word (Some t) i m (g, e) le = let h = slice_get_within word i t g in omega arith

pub reaches_on : (rules : List ColumnRule) (word : List Token) (cs : List ℕ) (i j : ℕ) → ReadThrough rules word cs i j → i ≤ j
reaches_on rules word [] i j (done _ _ e) = omega arith
reaches_on rules word (c ∷ cs) i j (by_rule _ _ r _ m k _ con e reads d f) =
    omega (arith, reads_on word r.token i m reads, reaches_on rules word r.columns.items m k d, reaches_on rules word cs k j f)

pub reaches_within : (rules : List ColumnRule) (word : List Token) (cs : List ℕ) (i j : ℕ) → ReadThrough rules word cs i j → i ≤ length word → j ≤ length word
reaches_within rules word [] i j (done _ _ e) le = omega arith
reaches_within rules word (c ∷ cs) i j (by_rule _ _ r _ m k _ con e reads d f) le =
    reaches_within rules word cs k j f (reaches_within rules word r.columns.items m k d (reads_within word r.token i m reads le))

pub join : (rules : List ColumnRule) (word : List Token) (c : ℕ) (cs : List ℕ) (i k j : ℕ) → ReadThrough rules word (c ∷ []) i k → ReadThrough rules word cs k j → ReadThrough rules word (c ∷ cs) i j
join rules word c cs i k j (by_rule _ _ r _ m k1 _ con e reads d (done _ _ q)) f =
    by_rule c cs r i m k1 j con e reads d (let P : ℕ → Type 0 = λ x. ReadThrough rules word cs x j in subst P (sym q) f)

module _ (rules : List ColumnRule) (word : List Token) (missing : TokensMayBeMissing rules word) where
  -- what each span within i and j reaches, and each empty one
  abbrev Within : List ℕ → ℕ → ℕ → Type 0
  Within cs i j = (a b : ℕ) → a ≤ b → (a ≡ b) ⊎ ((i ≤ a) × (b ≤ j)) → ReadThrough rules word cs a b

  one_rule : (r : ColumnRule) (i m j : ℕ) → Contains rules r → ReadsToken word r.token i m → ReadThrough rules word r.columns.items m j → ReadThrough rules word (r.left ∷ []) i j
  one_rule r i m j con reads d = by_rule r.left [] r i m j j con refl reads d (done j j refl)

  -- of one column, by a rule
  head : (r : ColumnRule) (o : Option Token) (i m k : ℕ) → Contains rules r → r.token ≡ o → ReadsToken word o i m → Within r.columns.items m k → Within (r.left ∷ []) i k
  head r None i m k con e reads w a b le h =
      one_rule r a a b con (rw e refl) (w a b le (elim h [ inl q ↦ inl q | inr q ↦ inr (omega (arith, reads, q.0), q.1) ]))
  head r (Some t) i m k con e (g, q) w a b le h = elim (cases_lt a b) [
    | inr ge ↦ missing r t i a b con e g (w a b le (inl (omega arith)))
    | inl lt ↦ elim h [
      | inl s ↦ absurd (omega arith)
      | inr s ↦ elim (cases_lt i a) [
        | inl ia ↦ missing r t i a b con e g (w a b le (inr (omega arith, s.1)))
        | inr ai ↦
            let same : a ≡ i = omega (arith, s.0) in
            let P : ℕ → Type 0 = λ x. ReadThrough rules word (r.left ∷ []) x b in
            subst P (sym same) (one_rule r i (suc i) b con (rw e (g, refl)) (w (suc i) b (omega arith) (inr (omega arith, s.1))))
      ]
    ]
  ]

  both : (c : ℕ) (cs : List ℕ) (i k j : ℕ) → Within (c ∷ []) i k → Within cs k j → Within (c ∷ cs) i j
  both c cs i k j u v a b le h = elim h [
    | inl e ↦ join rules word c cs a b b (u a b le (inl e)) (v b b (omega arith) (inl refl))
    | inr s ↦ elim (cases_lt k b) [
      | inr bk ↦ join rules word c cs a b b (u a b le (inr (s.0, bk))) (v b b (omega arith) (inl refl))
      | inl kb ↦ elim (cases_lt a k) [
        | inl ak ↦ join rules word c cs a k b (u a k (omega arith) (inr (s.0, omega arith))) (v k b (omega arith) (inr (omega arith, s.1)))
        | inr ka ↦ join rules word c cs a a b (u a a (omega arith) (inl refl)) (v a b le (inr (ka, s.1)))
      ]
    ]
  ]

  pub within : (cs : List ℕ) (i j : ℕ) → ReadThrough rules word cs i j → Within cs i j
  within [] i j (done _ _ e) = λ a b le h. done a b (elim h [ inl q ↦ q | inr q ↦ omega (arith, q.0, q.1) ])
  within (c ∷ cs) i j (by_rule _ _ r _ m k _ con e reads d f) =
      both c cs i k j
      (let P : ℕ → Type 0 = λ x. Within (x ∷ []) i k in subst P (sym e) (head r r.token i m k con refl reads (within r.columns.items m k d)))
      (within cs k j f)

pub ends_are_intervals : EndsAreIntervals
ends_are_intervals rules word missing cs i j a b d le h = within rules word missing cs i j d a b le h

-- the token at a place within the word
pub token_at : (word : List Token) (i : ℕ) → i < length word → (t : Token) × (slice_get word i ≡ Some t)
token_at [] i l = absurd (omega arith)
token_at (t ∷ w) zero l = (t, refl)
token_at (t ∷ w) (suc i) l = token_at w i (omega arith)

-- so many places lie between two
pub between : (i j : ℕ) → i ≤ j → (n : ℕ) × (j ≡ i + n)
between zero j l = (j, omega arith)
between (suc i) zero l = absurd (omega arith)
between (suc i) (suc j) l = let r = between i j (omega arith) in let e = r.1 in (r.0, omega arith)
