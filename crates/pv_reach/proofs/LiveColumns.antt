-- Columns that reach over no tokens, by those that stand for them.
use Rattle.std.proofs.Common.{All, Bool, Contains, List, [], ap, arith, false, get_or, inl, inr, length, replicate, subst, sym, true, ℕ, ◌+◌, ◌<◌, ◌^◌, ◌∙◌, ◌∷◌, ◌≡◌, ◌≤◌, ◌⊎◌}
use Rattle.pv_model.specs.declared.models.Token.{Token}
use Rattle.pv_columns.specs.ColumnRules.{InRange, ReadThrough}
use Rattle.pv_columns.specs.Marks.{AreNullable}
use Rattle.pv_columns.specs.declared.rules.ColumnRule.{ColumnRule}
use Rattle.pv_dtd.specs.Plain.{PlainDtd}
use Rattle.pv_reach.specs.Columns.{AreRules, width_of}
use Rattle.pv_reach.specs.LeadingColumns.{AreAlike}
use Rattle.pv_reach.specs.Merging.{AreMerged, HasMerged, IsMerging, Replaces}
use Rattle.pv_reach.specs.Plans.{IsReplacement}
use Rattle.pv_reach.specs.declared.columns.merging.Merging.{Merging}
use Rattle.pv_reach.proofs.TokenRules.{read_alone}
use Rattle.pv_reach.proofs.FormedDtds.{IsFormedDtd}
use Rattle.pv_reach.proofs.PlacedNumbers.{unset}
use Rattle.pv_reach.proofs.ColumnsInRange.{rules_in_range}
use Rattle.pv_reach.proofs.StandInColumns.{has_all, is_merging, replaces}

pub none_bare : (rules : List ColumnRule) (flags : List Bool) (n : ℕ) → flags ≡ replicate n false → AreNullable rules flags
none_bare rules flags n e = record { bare = λ c m word p. absurd (let z = unset n c in let y = ap (λ v. get_or v c false) e in cc) }

-- one more that stands for a column that reaches over none
pub head_more : (rules : List ColumnRule) (old new : List Bool) (number head : ℕ) → number ≡ head → ((word : List Token) (p : ℕ) → ReadThrough rules word (head ∷ []) p p) → AreNullable rules old →
    ((x : ℕ) → get_or new x false ≡ true → (x ≡ number) ⊎ (get_or old x false ≡ true)) → AreNullable rules new
head_more rules old new number head e reached are flags = record {
  bare = λ x m word p. elim (flags x m) [
    | inr k ↦ are.bare x k word p
    | inl z ↦ (let P : ℕ → Type 0 = λ v. ReadThrough rules word (v ∷ []) p p in subst P (sym (z ∙ e)) (reached word p))
  ];
}

module _ (g : PlainDtd) (formed : IsFormedDtd g) (rules : List ColumnRule) (m : Merging) (bare : List Bool) (heads order : List ℕ) (merged : List ColumnRule) (n led : ℕ) (are : AreRules g rules)
    (same : (m.bare.items ≡ bare) × (m.heads.items ≡ heads)) (are_bare : AreNullable rules bare) (alike : (length heads ≡ n) × AreAlike rules heads) (width : n ≡ width_of g) (narrow : n < 2 ^ 25)
    (below : All (λ a. a < length heads) m.led.items) (few : length m.led.items ≤ length heads) where
  pub merging_is : IsMerging rules m
  merging_is = let R : ℕ → Type 0 = λ v. InRange v rules in is_merging rules m bare heads n same alike.0 narrow few below are_bare alike.1 (subst R (sym width) (rules_in_range g formed rules are))

  pub replacement : AreMerged rules m merged → ((i : ℕ) → i < length rules → Contains order i) →
      ((i : ℕ) → Contains order i → i < length rules → HasMerged rules m merged i) →
      led ≡ length m.led.items → IsReplacement g rules m merged (n + led)
  replacement only all has count =
      let long : length m.heads.items ≡ width_of g = ap length same.1 ∙ alike.0 ∙ width in
      let P : ℕ → Type 0 = λ v. Replaces rules merged v (v + length m.led.items) m.heads.items in
      let Q : ℕ → Type 0 = λ v. Replaces rules merged (width_of g) v m.heads.items in
      let wide : width_of g + length m.led.items ≡ n + led = omega arith in
      let is = merging_is in
      let r : Replaces rules merged (width_of g) (n + led) m.heads.items = subst Q wide (subst P long (replaces rules merged m is only (has_all rules m order merged all has))) in
      record {
        long = long;
        replaces = r;
        narrow = (let z = is.narrow in omega arith);
        heads = λ c mark lt word p. (r.same word c p p (let z = long in omega arith)).1 (is.bare.bare c mark word p);
        alone = read_alone g rules merged m are only;
      }
