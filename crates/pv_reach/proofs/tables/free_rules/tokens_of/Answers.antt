use Rattle.std.proofs.Common.{Contains, List, Some, arith, get_or, slice_get, subst, ◌≡◌}
use Rattle.std.proofs.lemmas.Option.{get_or_from_slice_get, slice_get_within}
use Rattle.pv_model.specs.declared.models.Token.{Token}
use Rattle.pv_reach.specs.Columns.{token_of}
use Rattle.pv_reach.proofs.RangesOfRules.{push_contains, push_keeps, token_more}
use Rattle.pv_reach.proofs.tables.free_rules.tokens_of.Goals.{then-not-is_among+in_ok-push, else-not-is_among}
use Rattle.pv_reach.proofs.tables.free_rules.tokens_of.Goals as goal

pub loop-token-preserved : goal.loop-token-preserved
loop-token-preserved c =
    let word = c.args.word.now in let i = c.loop-token.token-index in let tokens = c.loop-token.tokens.items in let t = get_or word i (token_of 0) in
    let is = λ (u : Token) (f : slice_get word i ≡ Some u). get_or_from_slice_get word i u (token_of 0) f in
    elim c.if-not-is_among.branch [
      | then-not-is_among+in_ok-push w ↦
          rw w.tokens-is (token_more word tokens w.push.new.self.items i t is c.loop-token.invariant
          (push_keeps tokens w.push.new.self.items t w.in_ok-push.ensures.items)
          (push_contains tokens w.push.new.self.items t w.in_ok-push.ensures.items))
      | else-not-is_among w ↦ rw w.tokens-is (token_more word tokens tokens i t is
          c.loop-token.invariant (λ u k. k)
          (let P : List Token → Type 0 = λ v. Contains v t in subst P c.deref.ensures.value
          (c.is_among.ensures w.if-not-is_among.false)))
    ]

pub returns : goal.returns
returns c = λ k t f. c.loop-token.invariant k t (let l = slice_get_within c.args.word.now k t f in let e = c.loop-token-test.false in omega arith) f
