-- The rules of free columns for a word, in front of those that are kept.
use Rattle.std.proofs.Common.{Contains, List, [], arith, get_or, inl, inr, subst, suc, zero, ℕ}
use Rattle.std.proofs.Common.{◌++◌, ◌<◌, ◌∷◌, ◌≡◌}
use Rattle.std.proofs.lemmas.List.Elements.{Contains-append_cases, Contains-append_left, Contains-append_right}
use Rattle.pv_model.specs.declared.models.Token.{Token}
use Rattle.pv_columns.specs.declared.rules.ColumnRule.{ColumnRule}
use Rattle.pv_reach.specs.AddedRules.{RulesGrow}
use Rattle.pv_reach.specs.Cuts.{AreCutRules, AreCuts, AreRulesCut, AreRulesKept, HasCut, IsCutOf, by_rules}
use Rattle.pv_reach.specs.declared.tables.cut.Cut.{Cut}
use Rattle.pv_reach.specs.declared.tables.kept.Cuts.{Cuts}
use Rattle.pv_reach.proofs.RangesOfRules.{has_still, numbered_still}

front_grows : (front few : List ColumnRule) → RulesGrow front (front ++ few)
front_grows front few = record {
  keeps = λ l o cs h. record { rule = h.rule; is_in = Contains-append_left front few h.rule h.is_in; is_left = h.is_left; is_token = h.is_token; are_columns = h.are_columns };
}

few_grow : (front few : List ColumnRule) → RulesGrow few (front ++ few)
few_grow front few = record {
  keeps = λ l o cs h. record { rule = h.rule; is_in = Contains-append_right front few h.rule h.is_in; is_left = h.is_left; is_token = h.is_token; are_columns = h.are_columns };
}

pub joined : (rules : List ColumnRule) (names frees : List ℕ) (tokens : List Token) (front few : List ColumnRule) → AreRulesKept rules names frees few → AreCutRules rules names front →
    ((l : ℕ) → Contains frees l → HasCut rules names front tokens l) → AreRulesCut rules names tokens (front ++ few)
joined rules names frees tokens front few kept cut has = record {
  cut = record {
    only = λ l o ls h. elim (Contains-append_cases front few h.rule h.is_in) [
      | inl c ↦ cut.only l o ls (record { rule = h.rule; is_in = c; is_left = h.is_left; is_token = h.is_token; are_columns = h.are_columns })
      | inr c ↦ kept.cut.only l o ls (record { rule = h.rule; is_in = c; is_left = h.is_left; is_token = h.is_token; are_columns = h.are_columns })
    ];
  };
  has = λ l lt. elim (kept.has l lt) [
    | inl c ↦ has_still rules names tokens front (front ++ few) l (front_grows front few) (has l c)
    | inr all ↦ by_rules (λ r con e. numbered_still names few (front ++ few) l r (few_grow front few) (all r con e))
  ];
}

-- the only one of a list
only_one : {X : Type 0} (x y : X) → Contains (x ∷ []) y → x ≡ y
only_one x y (k, lt, e) = go k lt e
  where
    go : (k : ℕ) → k < 1 → get_or (x ∷ []) k y ≡ y → x ≡ y
    go zero lt e = e
    go (suc k) lt e = absurd (omega arith)

-- one more cut
pub one_more_cut : (rules : List ColumnRule) (width : ℕ) (old new : Cuts) (cut : Cut) →
    new.cuts.items ≡ old.cuts.items ++ (cut ∷ []) → IsCutOf rules width cut →
    AreCuts rules width old → AreCuts rules width new
one_more_cut rules width old new cut e is are = record {
  each = λ x con.
      let P : List Cut → Type 0 = λ v. Contains v x in
      elim (Contains-append_cases old.cuts.items (cut ∷ []) x (subst P e con)) [
        | inl c ↦ are.each x c
        | inr c ↦ (let Q : Cut → Type 0 = λ v. IsCutOf rules width v in subst Q (only_one cut x c) is)
      ];
}
