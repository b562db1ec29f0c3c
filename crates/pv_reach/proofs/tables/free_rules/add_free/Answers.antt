use Rattle.std.proofs.Common.{Contains, List, None, Some, [], arith, inl, inr, refl, subst, sym, ◌∷◌}
use Rattle.std.proofs.lemmas.List.{take_all}
use Rattle.pv_model.specs.declared.models.Token.{Token}
use Rattle.pv_columns.specs.Tokens.{IsInRow}
use Rattle.pv_reach.specs.Columns.{Has, token_of}
use Rattle.pv_reach.specs.Cuts.{by_set, of_none}
use Rattle.pv_reach.proofs.RangesOfRules.{adds_rule, adds_twice, either_token, no_numbers}
use Rattle.pv_reach.proofs.tables.free_rules.add_free.Goals as goal

pub loop-token-init : goal.loop-token-init
loop-token-init c = record {
  adds = λ rules names free lt. adds_rule rules names c.args.few.now.items c.add.new.rules.items c.args.left None [] c.in_ok-add.ensures (of_none c.args.row.now free refl refl) lt (no_numbers names);
  none = c.in_ok-add.ensures.has;
  each = λ t con. absurd (let l = con.1 in omega arith);
}

pub loop-token-preserved : goal.loop-token-preserved
loop-token-preserved c =
    let tokens = c.args.tokens.now in let i = c.loop-token.token-index in let l = c.args.left in
    let old = c.loop-token.few.items in let new = c.add_token.new.few.items in let e = c.in_ok-add_token.ensures in
    record {
      adds = λ rules names free lt. adds_twice rules names c.args.few.now.items old new (c.loop-token.invariant.adds rules names free lt) (e.adds rules names free lt);
      none = e.grow.keeps l None [] c.loop-token.invariant.none;
      each = λ t con is. elim (either_token tokens i (token_of 0) c.loop-token-test.true t con) [
        | inl k ↦ e.grow.keeps l (Some t) (l ∷ []) (c.loop-token.invariant.each t k is)
        | inr z ↦ (
            let P : Token → Type 0 = λ v. IsInRow c.args.row.now v in let Q : Token → Type 0 = λ v. Has new l (Some v) (l ∷ []) in
            subst Q (sym z) (e.has (subst P z is)))
      ];
    }

pub returns-clause-has : goal.returns-clause-has
returns-clause-has c = λ rules names free.
    let P : Token → List Token → Type 0 = λ t v. Contains v t in
    by_set c.args.row.now free c.loop-token.invariant.none
    (λ t con is. c.loop-token.invariant.each t (subst (P t) (sym (take_all c.loop-token.token-index c.args.tokens.now (let z = c.loop-token-test.false in omega arith))) con) is)
