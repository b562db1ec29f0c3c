-- Marks that are closed have each column that reaches over no tokens.
use Rattle.std.proofs.Common.{Bool, Contains, List, None, Option, Some, [], arith, false, get_or, inl, length, refl, set, subst, suc, sym, true, zero}
use Rattle.std.proofs.Common.{get_or-set_other, ℕ, ◌+◌, ◌<◌, ◌∷◌, ◌≡◌, ◌≢◌, ◌≤◌, ◌⊎◌, inr}
use Rattle.std.proofs.lemmas.Bool.{cases_lt}
use Rattle.std.proofs.lemmas.List.{get_or_default}
use Rattle.pv_model.specs.declared.models.Token.{Token}
use Rattle.pv_columns.specs.ColumnRules.{ReadThrough, ReadsToken, TokensMayBeMissing, by_rule, done}
use Rattle.pv_columns.specs.Laws.{ClosedMarksAreLive}
use Rattle.pv_columns.specs.Marks.{AreNullable, AreClosedMarks, AreLiveMarks, AreMarked, IsMarked}
use Rattle.pv_columns.specs.Marks.{unmarked}
use Rattle.pv_columns.specs.declared.rules.ColumnRule.{ColumnRule}
use Rattle.pv_columns.proofs.Spans.{ends_are_intervals, join, reaches_on, reads_on}

nothing_read : (word : List Token) (o : Option Token) (i m : ℕ) → ReadsToken word o i m → m ≤ i → o ≡ None
nothing_read word None i m e l = refl
nothing_read word (Some t) i m (g, e) l = absurd (omega arith)

module _ (rules : List ColumnRule) (word : List Token) (marks : List Bool) (closed : AreClosedMarks rules marks) where
  marked : (cs : List ℕ) (i j : ℕ) → ReadThrough rules word cs i j → j ≤ i → AreMarked marks cs
  marked [] i j d l = tt
  marked (c ∷ cs) i j (by_rule _ _ r _ m k _ con e reads d f) l =
      let a = reads_on word r.token i m reads in let b = reaches_on rules word r.columns.items m k d in let n = reaches_on rules word cs k j f in
      let P : ℕ → Type 0 = λ v. IsMarked marks v in
      let none = nothing_read word r.token i m reads (omega arith) in
      (subst P (sym e) (closed r con none (marked r.columns.items m k d (omega arith))), marked cs k j f (omega arith))

pub closed_marks_are_live : ClosedMarksAreLive
closed_marks_are_live rules word marks sound closed emptied = record {
  sound = sound;
  complete = λ c i j d. (marked rules word marks closed (c ∷ []) i i (emptied c i j d) (omega arith)).0;
}

-- marks that are closed are complete where tokens may be missing
pub live_marks : (rules : List ColumnRule) (word : List Token) (marks : List Bool) →
    AreNullable rules marks → AreClosedMarks rules marks → TokensMayBeMissing rules word →
    AreLiveMarks rules word marks
live_marks rules word marks bare closed missing =
    closed_marks_are_live rules word marks (λ c p m. bare.bare c m word p) closed
    (λ c i j d. ends_are_intervals rules word missing (c ∷ []) i j i i d (omega arith) (inl refl))

-- by place
pub marked_at : (marks : List Bool) (cs : List ℕ) → AreMarked marks cs → (k : ℕ) → k < length cs → get_or marks (get_or cs k 0) false ≡ true
marked_at marks [] a k l = absurd (omega arith)
marked_at marks (c ∷ cs) a zero l = a.0
marked_at marks (c ∷ cs) a (suc k) l = marked_at marks cs a.1 k (omega arith)

-- one column more is marked
bare_all : (rules : List ColumnRule) (marks : List Bool) → AreNullable rules marks → (cs : List ℕ) → AreMarked marks cs → (word : List Token) (p : ℕ) → ReadThrough rules word cs p p
bare_all rules marks bare [] a word p = done p p refl
bare_all rules marks bare (c ∷ cs) a word p = join rules word c cs p p p (bare.bare c a.0 word p) (bare_all rules marks bare cs a.1 word p)

pub same_or_not : (k i : ℕ) → (k ≡ i) ⊎ (k ≢ i)
same_or_not k i = elim (cases_lt k i) [ inl lt ↦ inr (omega arith) | inr le ↦ elim (cases_lt i k) [ inl lt ↦ inr (omega arith) | inr ge ↦ inl (omega arith) ] ]

pub bare_more : (rules : List ColumnRule) (marks : List Bool) (r : ColumnRule) → Contains rules r →
    r.token ≡ None → AreMarked marks r.columns.items → AreNullable rules marks →
    AreNullable rules (set marks r.left true)
bare_more rules marks r con none a bare = record {
  bare = λ c m word p. elim (same_or_not c r.left) [
    | inl e ↦ by_rule c [] r p p p p con e (rw none refl) (bare_all rules marks bare r.columns.items a word p) (done p p refl)
    | inr e ↦ (let q : get_or (set marks r.left true) c false ≡ get_or marks c false = rw get_or-set_other in bare.bare c (rw q at m) word p)
  ];
}

pub fewer_unmarked : (marks : List Bool) (i : ℕ) → i < length marks → get_or marks i false ≡ false → unmarked (set marks i true) < unmarked marks
fewer_unmarked [] i l e = absurd (omega arith)
fewer_unmarked (true ∷ marks) zero l e = absurd cc
fewer_unmarked (false ∷ marks) zero l e = omega arith
fewer_unmarked (true ∷ marks) (suc i) l e = fewer_unmarked marks i (omega arith) e
fewer_unmarked (false ∷ marks) (suc i) l e = let r = fewer_unmarked marks i (omega arith) e in omega arith

-- one rule more holds
pub holds_more : (H : ColumnRule → Type 0) (xs : List ColumnRule) (i : ℕ) (d0 : ColumnRule) → i < length xs → H (get_or xs i d0) → ((k : ℕ) (d : ColumnRule) → k < i → H (get_or xs k d)) →
    (k : ℕ) (d : ColumnRule) → k < i + 1 → H (get_or xs k d)
holds_more H xs i d0 lt here below k d less = elim (same_or_not k i) [
  | inl e ↦ (let q : get_or xs k d ≡ get_or xs i d0 = rw e (get_or_default xs i d d0 lt) in rw q here)
  | inr ne ↦ below k d (omega arith)
]

pub all_hold : (H : ColumnRule → Type 0) (rules : List ColumnRule) → ((k : ℕ) (d : ColumnRule) → k < length rules → H (get_or rules k d)) → (r : ColumnRule) → Contains rules r → H r
all_hold H rules h r con = subst H con.2 (h con.0 r con.1)
