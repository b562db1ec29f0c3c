-- A free column reaches over the spans of tokens of its set.
use Rattle.std.proofs.Common.{Bool, IsTrue, List, None, Option, Some, [], arith, eq-eqb, eqb, eqb-true, get_or, inl, inr, length, refl, subst, sym}
use Rattle.std.proofs.Common.{zero, suc, ℕ, ◌++◌, ◌/◌, ◌%◌, ◌<◌, ◌∷◌, ◌≡◌, ◌≤◌, ◌↔◌, ◌⊎◌}
use Rattle.std.proofs.lemmas.Bool.{cases_lt}
use Rattle.std.proofs.lemmas.Grind.{common_steps}
use Rattle.pv_model.specs.declared.models.Token.{Token}
use Rattle.pv_columns.specs.Bits.{bit}
use Rattle.pv_columns.specs.ColumnRules.{ReadThrough, TokensMayBeMissing}
use Rattle.pv_columns.specs.FreeSets.{AreFreeSets, AreInRow, IsFreeOver, IsRowOf, IsSetAt, KeepSets}
use Rattle.pv_columns.specs.Marks.{AreNullable, AreClosedMarks, ReadAlone}
use Rattle.pv_columns.specs.Sets.{AreLayers, AreTokensBelow}
use Rattle.pv_columns.specs.Takes.{IsFree, Takes}
use Rattle.pv_columns.specs.Tokens.{IsInRow, IsRun, token_number}
use Rattle.pv_columns.specs.declared.free_sets.FreeSets.{FreeSets}
use Rattle.pv_columns.specs.declared.free_sets.TokenSet.{TokenSet}
use Rattle.pv_columns.specs.declared.rules.ColumnRule.{ColumnRule}
use Rattle.pv_columns.specs.declared.sets.Layer.{Layer}
use Rattle.pv_columns.proofs.FreeColumns.{layer_at, token_below}
use Rattle.pv_columns.proofs.ClosedMarks.{live_marks}
use Rattle.pv_columns.proofs.Runs.{free_reaches_taken}
use Rattle.pv_columns.proofs.Spans.{token_at}

no_bit : (row : List ℕ) (m k : ℕ) → length row ≤ m → bit (get_or row m 0) k ≡ 1 → ⊥
no_bit row m k l e = grind (arith, common_steps)

module _ (rules : List ColumnRule) (live : List Bool) (layers : List Layer)
    (are : AreLayers rules live layers) (below : AreTokensBelow (length layers) rules) (c : ℕ)
    (row : List ℕ) (is : IsRowOf layers c row) where
  in_set : (t : Token) → Takes rules live t c → IsInRow row t
  in_set t v =
      let m = token_number t / 64 in
      let l = token_below rules live (length layers) below t c v in
      let d = layer_at layers m l in
      let e = is.1 m d l in
      let P : ℕ → Type 0 = λ x. bit x (token_number t % 64) ≡ 1 in
      subst P (sym e) (((are m d l) c t refl).1 v)

  from_set : (t : Token) → IsInRow row t → Takes rules live t c
  from_set t h = elim (cases_lt (token_number t / 64) (length layers)) [
    | inr b ↦ absurd (no_bit row (token_number t / 64) (token_number t % 64) (let z = is.0 in omega arith) h)
    | inl l ↦
        let m = token_number t / 64 in
        let d = layer_at layers m l in
        let P : ℕ → Type 0 = λ x. bit x (token_number t % 64) ≡ 1 in
        ((are m d l) c t refl).0 (subst P (is.1 m d l) h)
  ]

  pub free_over : AreNullable rules live → AreClosedMarks rules live → ReadAlone rules → IsFree rules live c → IsFreeOver rules row c
  free_over bare closed alone free word missing i j le short =
      let law = free_reaches_taken rules word live (live_marks rules word live bare closed missing) alone c i j free le short in (
        (λ d k t a b f. in_set t (law.0 d k t a b f)),
        (λ u. law.1 (λ k t a b f. from_set t (u k t a b f))),
      )

-- a word is in a set where the run from its beginning is all of it
pub run_all : (row : List ℕ) (word : List Token) (end : ℕ) → IsRun row word 0 end → IsTrue (eqb end (length word)) ↔ AreInRow row word 0 (length word)
run_all row word end r = (
  (λ t k u a b f. r.all k u a (let e = eqb-true end (length word) t in omega arith) f),
  (λ all. elim (cases_lt end (length word)) [
    | inr b ↦ eq-eqb end (length word) (let w = r.within in omega arith)
    | inl l ↦ (let t = token_at word end l in absurd (r.stops t.0 t.1 (all end t.0 (omega arith) l t.1)))
  ]),
)

pub covers_all : (rules : List ColumnRule) (columns : List ℕ) (free : FreeSets) (place n : ℕ)
    (d : TokenSet) (word : List Token) (b : Bool) → AreFreeSets rules columns free →
    TokensMayBeMissing rules word →
    get_or free.numbers.items place None ≡ Some n → IsTrue b ↔ AreInRow (get_or free.sets.items n d).words.items word 0 (length word) →
    IsTrue b ↔ ReadThrough rules word (get_or columns place 0 ∷ []) 0 (length word)
covers_all rules columns free place n d word b are missing e iff =
    let f = (are place n d e).1 word missing 0 (length word) (omega arith) (omega arith) in ((λ t. f.1 (iff.0 t)), (λ r. iff.1 (f.0 r)))

-- the sets of columns, one more
push_cases : (xs : List (Option ℕ)) (v : Option ℕ) (x k : ℕ) → get_or (xs ++ (v ∷ [])) x None ≡ Some k → ((x < length xs) × (get_or xs x None ≡ Some k)) ⊎ ((x ≡ length xs) × (v ≡ Some k))
push_cases [] v zero k e = inr (refl, e)
push_cases [] v (suc x) k e = absurd cc
push_cases (y ∷ xs) v zero k e = inl (omega arith, e)
push_cases (y ∷ xs) v (suc x) k e = elim (push_cases xs v x k e) [
  | inl r ↦ inl (let l = r.0 in omega arith, r.1)
  | inr r ↦ inr (let l = r.0 in omega arith, r.1)
]

module _ (rules : List ColumnRule) (columns : List ℕ) where
  abbrev pub AreOver : List (Option ℕ) → List TokenSet → Type 0
  AreOver numbers sets = (x k : ℕ) (d : TokenSet) → get_or numbers x None ≡ Some k → (k < length sets) × IsFreeOver rules (get_or sets k d).words.items (get_or columns x 0)

  pub one_over : (numbers : List (Option ℕ)) (old new : List TokenSet) (number : Option ℕ) (i : ℕ) → AreOver numbers old → length numbers ≡ i → KeepSets old new →
      ((k : ℕ) (d : TokenSet) → number ≡ Some k → (k < length new) × IsFreeOver rules (get_or new k d).words.items (get_or columns i 0)) → AreOver (numbers ++ (number ∷ [])) new
  one_over numbers old new number i before long keep here x k d e = elim (push_cases numbers number x k e) [
    | inl r ↦
        let b = before x k d r.1 in let p = keep k d b.0 in
        let P : TokenSet → Type 0 = λ v. IsFreeOver rules v.words.items (get_or columns x 0) in
        (p.0, subst P (sym p.1) b.1)
    | inr r ↦
        let h = here k d r.1 in let z : i ≡ x = (let y = r.0 in omega arith) in
        let P : ℕ → Type 0 = λ v. IsFreeOver rules (get_or new k d).words.items (get_or columns v 0) in
        (h.0, subst P z h.1)
  ]

  pub keep_same : (sets : List TokenSet) → KeepSets sets sets
  keep_same sets k d l = (l, refl)

module _ (rules : List ColumnRule) (live : List Bool) (layers : List Layer) (are : AreLayers rules live layers) (below : AreTokensBelow (length layers) rules) where
  pub placed : (c place : ℕ) (sets : List TokenSet) → IsSetAt layers c sets place → AreNullable rules live → AreClosedMarks rules live → ReadAlone rules → IsFree rules live c →
      (k : ℕ) (d : TokenSet) → Some place ≡ Some k → (k < length sets) × IsFreeOver rules (get_or sets k d).words.items c
  placed c place sets at bare closed alone free k d e =
      let z : place ≡ k = cc in
      let P : ℕ → Type 0 = λ v. (v < length sets) × IsFreeOver rules (get_or sets v d).words.items c in
      subst P z (at.0, free_over rules live layers are below c (get_or sets place d).words.items (at.1 d) bare closed alone free)
