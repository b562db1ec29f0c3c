-- The ranges in which the rules of columns stand, and rules that are added to those over few columns.
use Rattle.std.proofs.Common.{Contains, List, None, Option, Some, [], ap, arith, get_or, inl, inr, length, refl, slice_get, subst, suc, sym, take}
use Rattle.std.proofs.Common.{zero, ℕ, ◌++◌, ◌+◌, ◌<◌, ◌∙◌, ◌∷◌, ◌≡◌, ◌≢◌, ◌≤◌, ◌⊎◌}
use Rattle.std.proofs.Common.{Err, Ok, Result}
use Rattle.std.specs.Prelude.{OnOk}
use Rattle.std.proofs.lemmas.Bool.{cases_lt}
use Rattle.std.proofs.lemmas.List.{take_more}
use Rattle.std.proofs.lemmas.List.Elements.{Contains-append_cases, Contains-append_left, Contains-append_right}
use Rattle.pv_model.specs.declared.models.Token.{Token}
use Rattle.pv_columns.specs.declared.rules.ColumnRule.{ColumnRule}
use Rattle.pv_columns.proofs.ClosedMarks.{same_or_not}
use Rattle.pv_reach.specs.AddedRules.{AddsRule, RulesGrow}
use Rattle.pv_reach.specs.Cuts.{AddsCut, AreCutRules, AreColumnNumbers, AreRanges, HasAllNumbered, HasCut, HasNumbered, IsCutRule, by_rules, by_set}
use Rattle.pv_reach.specs.Merging.{column_head}
use Rattle.pv_reach.specs.declared.columns.ranges.RuleRanges.{RuleRanges}
use Rattle.pv_reach.proofs.PushedRules.{grow_none, grow_twice}

module _ (rules : List ColumnRule) (old new : List ℕ) (n place : ℕ) (is : (d : ColumnRule) → (get_or rules n d).left ≡ place) (others : (x : ℕ) → x ≢ place → get_or new x 0 ≡ get_or old x 0) where
  pub first_more : get_or new place 0 ≡ n → ((k : ℕ) (d : ColumnRule) → n + 1 ≤ k → k < length rules → get_or old (get_or rules k d).left 0 ≤ k) →
      (k : ℕ) (d : ColumnRule) → n ≤ k → k < length rules → get_or new (get_or rules k d).left 0 ≤ k
  first_more here before k d le lt = elim (same_or_not (get_or rules k d).left place) [
    | inl e ↦ (let z : get_or new (get_or rules k d).left 0 ≡ n = ap (λ v. get_or new v 0) e ∙ here in omega arith)
    | inr ne ↦ elim (cases_lt n k) [
      | inl l ↦ (let z = others (get_or rules k d).left ne in let y = before k d (omega arith) lt in omega arith)
      | inr g ↦ (let z : n ≡ k = omega arith in let P : ℕ → Type 0 = λ v. (get_or rules v d).left ≡ place in absurd (ne (subst P z (is d))))
    ]
  ]

  pub end_more : get_or new place 0 ≡ n + 1 → ((k : ℕ) (d : ColumnRule) → k < n → k < get_or old (get_or rules k d).left 0) →
      (k : ℕ) (d : ColumnRule) → k < n + 1 → k < get_or new (get_or rules k d).left 0
  end_more here before k d lt = elim (same_or_not (get_or rules k d).left place) [
    | inl e ↦ (let z : get_or new (get_or rules k d).left 0 ≡ n + 1 = ap (λ v. get_or new v 0) e ∙ here in omega arith)
    | inr ne ↦ elim (cases_lt k n) [
      | inl l ↦ (let z = others (get_or rules k d).left ne in let y = before k d l in omega arith)
      | inr g ↦ (let z : n ≡ k = omega arith in let P : ℕ → Type 0 = λ v. (get_or rules v d).left ≡ place in absurd (ne (subst P z (is d))))
    ]
  ]

-- the tokens of a word up to a place
module _ (word tokens new : List Token) (n : ℕ) (token : Token) (is : (t : Token) →
    slice_get word n ≡ Some t → token ≡ t) (before : (k : ℕ) (t : Token) → k < n →
    slice_get word k ≡ Some t → Contains tokens t)
    (keep : (t : Token) → Contains tokens t → Contains new t) (here : Contains new token) where
  pub token_more : (k : ℕ) (t : Token) → k < n + 1 → slice_get word k ≡ Some t → Contains new t
  token_more k t lt f = elim (cases_lt k n) [
    | inl l ↦ keep t (before k t l f)
    | inr g ↦
        let z : k ≡ n = omega arith in
        let P : ℕ → Type 0 = λ v. slice_get word v ≡ Some t in
        let Q : Token → Type 0 = λ v. Contains new v in
        subst Q (is t (subst P z f)) here
  ]

pub either_token : (xs : List Token) (i : ℕ) (d : Token) → i < length xs → (x : Token) → Contains (take (i + 1) xs) x → Contains (take i xs) x ⊎ (x ≡ get_or xs i d)
either_token xs i d lt x con =
    let P : List Token → Type 0 = λ v. Contains v x in
    elim (Contains-append_cases (take i xs) (get_or xs i d ∷ []) x (subst P (take_more xs i d lt) con)) [ inl c ↦ inl c | inr c ↦ inr (alone (get_or xs i d) x c) ]
  where
    same : (y z : Token) (k : ℕ) → k < 1 → get_or (y ∷ []) k z ≡ z → z ≡ y
    same y z zero less e = sym e
    same y z (suc k) less e = absurd (omega arith)

    alone : (y z : Token) → Contains (y ∷ []) z → z ≡ y
    alone y z c = same y z c.0 c.1 c.2

pub push_keeps : {X : Type 0} (xs ys : List X) (x : X) → ys ≡ xs ++ (x ∷ []) → (y : X) → Contains xs y → Contains ys y
push_keeps xs ys x e y c = rw e (Contains-append_left xs (x ∷ []) y c)

pub push_contains : {X : Type 0} (xs ys : List X) (x : X) → ys ≡ xs ++ (x ∷ []) → Contains ys x
push_contains xs ys x e = rw e (Contains-append_right xs (x ∷ []) x (0, omega arith, refl))

-- rules added one after another
pub adds_none : (rules : List ColumnRule) (names : List ℕ) (a : List ColumnRule) → AddsCut rules names a a
adds_none rules names a = record { grow = grow_none a; cut = λ s. s }

pub adds_twice : (rules : List ColumnRule) (names : List ℕ) (a b c : List ColumnRule) → AddsCut rules names a b → AddsCut rules names b c → AddsCut rules names a c
adds_twice rules names a b c x y = record { grow = grow_twice a b c x.grow y.grow; cut = λ s. y.cut (x.cut s) }

pub adds_rule : (rules : List ColumnRule) (names : List ℕ) (old new : List ColumnRule) (l : ℕ)
    (o : Option Token) (ls : List ℕ) → AddsRule old new l o ls → IsCutRule rules names l o ls →
    l < length names → AreColumnNumbers names ls →
    AddsCut rules names old new
adds_rule rules names old new l o ls adds rule lt range = record {
  grow = adds.grow;
  cut = λ s. record {
    only = λ k u ks h. elim (adds.only k u ks h) [
      | inl q ↦ s.only k u ks q
      | inr q ↦ rw (q.0, q.1, q.2) (rule, lt, range)
    ];
  };
}

pub no_rules : (rules : List ColumnRule) (names : List ℕ) (few : List ColumnRule) → few ≡ [] → AreCutRules rules names few
no_rules rules names few e = record { only = λ l o ls h. absurd (let c = h.is_in in let z : length few ≡ 0 = ap length e in let y = c.1 in omega arith) }

pub numbered_still : (names : List ℕ) (old new : List ColumnRule) (l : ℕ) (r : ColumnRule) → RulesGrow old new → HasNumbered names old l r → HasNumbered names new l r
numbered_still names old new l r grow h = record { numbers = h.numbers; has = grow.keeps l r.token h.numbers h.has; are = h.are; within = h.within }

-- a column that has its rules has them still
pub has_still : (rules : List ColumnRule) (names : List ℕ) (tokens : List Token)
    (old new : List ColumnRule) (l : ℕ) → RulesGrow old new → HasCut rules names old tokens l →
    HasCut rules names new tokens l
has_still rules names tokens old new l grow (by_set row free none each) =
    by_set row free (grow.keeps l None [] none) (λ t c i. grow.keeps l (Some t) (l ∷ []) (each t c i))
has_still rules names tokens old new l grow (by_rules all) = by_rules (λ r con e. numbered_still names old new l r grow (all r con e))

pub one_number : (names : List ℕ) (l : ℕ) → l < length names → AreColumnNumbers names (l ∷ [])
one_number names l lt zero d k = lt
one_number names l lt (suc k) d h = absurd (omega arith)

pub no_numbers : (names : List ℕ) → AreColumnNumbers names []
no_numbers names k d lt = absurd (omega arith)

-- a column has all its rules, where those in its range are there
pub by_range : (rules those : List ColumnRule) (names : List ℕ) (new : List ColumnRule)
    (l column first end : ℕ) (ranges : RuleRanges) → AreRanges rules ranges → those ≡ rules →
    column_head names l ≡ column →
    first ≡ get_or ranges.first.items column 0 → end ≡ get_or ranges.end.items column 0 →
    ((k : ℕ) (r : ColumnRule) → first ≤ k → k < end → k < length those → r ≡ get_or those k r → r.left ≡ column_head names l → HasNumbered names new l r) → HasAllNumbered rules names new l
by_range rules those names new l column first end ranges are same is f e has = λ r con z.
    let k = con.0 in
    let at : (get_or rules k r).left ≡ column = ap (λ (v : ColumnRule). v.left) con.2 ∙ z ∙ is in
    let P : ℕ → Type 0 = λ v. (get_or ranges.first.items v 0 ≤ k) × (k < get_or ranges.end.items v 0) in
    let b = subst P at (are k r con.1) in
    let Q : List ColumnRule → Type 0 = λ v. (k < length v) × (r ≡ get_or v k r) in
    let q = subst Q (sym same) (con.1, sym con.2) in
    has k r (let u = b.0 in omega arith) (let u = b.1 in omega arith) q.0 q.1 z

pub on_ok_as : {E : Type 0} (r : Result (Unit {0}) E) (P Q : Type 0) → (P → Q) → OnOk r P → OnOk r Q
on_ok_as (Ok u) P Q f h = f h
on_ok_as (Err e) P Q f h = tt
