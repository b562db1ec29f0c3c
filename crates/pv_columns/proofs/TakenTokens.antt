-- What a column takes, it reaches over, and each token that it reaches over it takes.
use Rattle.std.proofs.Common.{Bool, Contains, List, None, Option, Some, [], arith, inl, inr, refl, slice_get, subst, suc, sym, ℕ, ◌<◌, ◌∷◌, ◌≡◌, ◌≤◌}
use Rattle.std.proofs.lemmas.Bool.{cases_lt}
use Rattle.pv_model.specs.declared.models.Token.{Token}
use Rattle.pv_columns.specs.ColumnRules.{ReadThrough, ReadsToken, by_rule, done}
use Rattle.pv_columns.specs.Laws.{TakesReachesOne}
use Rattle.pv_columns.specs.Marks.{AreLiveMarks, AreMarked, IsAmong, ReadAlone}
use Rattle.pv_columns.specs.Takes.{Takes, TakesEach, takes_column, takes_token}
use Rattle.pv_columns.specs.declared.rules.ColumnRule.{ColumnRule}
use Rattle.pv_columns.proofs.Spans.{join}

module _ (rules : List ColumnRule) (word : List Token) (live : List Bool) (marks : AreLiveMarks rules word live) where
  pub none_reached : (cs : List ℕ) (p : ℕ) → AreMarked live cs → ReadThrough rules word cs p p
  none_reached [] p a = done p p refl
  none_reached (c ∷ cs) p a = join rules word c cs p p p (marks.sound c p a.0) (none_reached cs p a.1)

  -- one of live columns reaches, and with it all of them
  pub among_reached : (d i j : ℕ) (cs : List ℕ) → AreMarked live cs → IsAmong d cs → ReadThrough rules word (d ∷ []) i j → ReadThrough rules word cs i j
  among_reached d i j [] a m r = absurd m
  among_reached d i j (c ∷ cs) a (inl e) r =
      let P : ℕ → Type 0 = λ v. ReadThrough rules word (v ∷ []) i j in join rules word c cs i j j (subst P e r) (none_reached cs j a.1)
  among_reached d i j (c ∷ cs) a (inr m) r = join rules word c cs i i j (marks.sound c i a.0) (among_reached d i j cs a.1 m r)

  -- by a rule without a token, and by one with one
  pub by_columns : (c : ℕ) (r : ColumnRule) (i j : ℕ) → Contains rules r → c ≡ r.left → r.token ≡ None → ReadThrough rules word r.columns.items i j → ReadThrough rules word (c ∷ []) i j
  by_columns c r i j con e s d = by_rule c [] r i i j j con e (rw s refl) d (done j j refl)

  pub by_token : (c : ℕ) (r : ColumnRule) (i j : ℕ) (t : Token) → slice_get word i ≡ Some t → Contains rules r → c ≡ r.left → r.token ≡ Some t → ReadThrough rules word r.columns.items (suc i) j →
      ReadThrough rules word (c ∷ []) i j
  by_token c r i j t f con e s d = by_rule c [] r i (suc i) j j con e (rw s (f, refl)) d (done j j refl)

  pub takes_reaches : (t : Token) (i : ℕ) → slice_get word i ≡ Some t → (c : ℕ) → Takes rules live t c → ReadThrough rules word (c ∷ []) i (suc i)
  takes_reaches t i f c (takes_token _ r con e a s) = by_token c r i (suc i) t f con e s (none_reached r.columns.items (suc i) a)
  takes_reaches t i f c (takes_column _ d r con e a s m v) = by_columns c r i (suc i) con e s (among_reached d i (suc i) r.columns.items a m (takes_reaches t i f d v))

  -- what reaches is live
  pub all_marked : (cs : List ℕ) (i j : ℕ) → ReadThrough rules word cs i j → AreMarked live cs
  all_marked [] i j d = tt
  all_marked (c ∷ cs) i j (by_rule _ _ r _ m k _ con e reads d f) = (marks.complete c i k (by_rule c [] r i m k k con e reads d (done k k refl)), all_marked cs k j f)

  module _ (alone : ReadAlone rules) where
    -- one of the columns takes the token
    abbrev TakenBy : Token → List ℕ → Type 0
    TakenBy t cs = (d : ℕ) × IsAmong d cs × Takes rules live t d

    abbrev TakenIn : List ℕ → ℕ → ℕ → Type 0
    TakenIn cs i j = (p : ℕ) (t : Token) → i ≤ p → p < j → slice_get word p ≡ Some t → TakenBy t cs

    no_column : (t : Token) (cs : List ℕ) → cs ≡ [] → TakenBy t cs → ⊥
    no_column t [] e q = q.1
    no_column t (c ∷ cs) e q = absurd cc

    one_column : (t : Token) (c : ℕ) (cs : List ℕ) → cs ≡ c ∷ [] → TakenBy t cs → Takes rules live t c
    one_column t c cs e q = go (let P : List ℕ → Type 0 = λ v. IsAmong q.0 v in subst P e q.1)
      where
        go : IsAmong q.0 (c ∷ []) → Takes rules live t c
        go (inl z) = let P : ℕ → Type 0 = λ v. Takes rules live t v in subst P z q.2
        go (inr z) = absurd z

    -- by one rule
    head : (c : ℕ) (r : ColumnRule) (o : Option Token) (i m k : ℕ) → Contains rules r → c ≡ r.left → r.token ≡ o → ReadsToken word o i m → AreMarked live r.columns.items →
        TakenIn r.columns.items m k → (p : ℕ) (t : Token) → i ≤ p → p < k → slice_get word p ≡ Some t → Takes rules live t c
    head c r None i m k con e s reads a sub p t l h f =
        let q = sub p t (omega arith) h f in takes_column c q.0 r con e a s q.1 q.2
    head c r (Some u) i m k con e s (g, z) a sub p t l h f = elim (cases_lt i p) [
      | inr b ↦ let y : p ≡ i = omega arith in let x : u ≡ t = cc in takes_token c r con e a (rw x at s)
      | inl b ↦ elim (alone.alone r u con s) [
        | inl n ↦ absurd (no_column t r.columns.items n (sub p t (omega arith) h f))
        | inr n ↦ let P : ℕ → Type 0 = λ v. Takes rules live t v in subst P (sym e) (one_column t r.left r.columns.items n (sub p t (omega arith) h f))
      ]
    ]

    taken_in : (cs : List ℕ) (i j : ℕ) → ReadThrough rules word cs i j → TakenIn cs i j
    taken_in [] i j (done _ _ e) = λ p t l h f. absurd (omega arith)
    taken_in (c ∷ cs) i j (by_rule _ _ r _ m k _ con e reads d g) = λ p t l h f. elim (cases_lt p k) [
      | inl b ↦ (c, inl refl, head c r r.token i m k con e refl reads (all_marked r.columns.items m k d) (taken_in r.columns.items m k d) p t l b f)
      | inr b ↦ (let q = taken_in cs k j g p t b h f in (q.0, inr q.1, q.2))
    ]

    pub reaches_taken : (c i j : ℕ) → ReadThrough rules word (c ∷ []) i j → TakesEach rules live word c i j
    reaches_taken c i j d p t l h f = one_column t c (c ∷ []) refl (taken_in (c ∷ []) i j d p t l h f)

pub takes_reaches_one : TakesReachesOne
takes_reaches_one rules word live marks alone c i t f = (
  (λ d. reaches_taken rules word live marks alone c i (suc i) d i t (omega arith) (omega arith) f),
  (λ v. takes_reaches rules word live marks t i f c v),
)
