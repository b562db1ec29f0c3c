use Rattle.std.proofs.Common.{arith, map, subst, ℕ, ◌≡◌}
use Rattle.pv_model.specs.PlainForms.{plain_token}
use Rattle.pv_rules.specs.Derivations.{IsWeight, heaviest}
use Rattle.pv_rules.specs.Rules.{Rule}
use Rattle.pv_productive.specs.PlainForms.{dtd_of}
use Rattle.pv_missing.specs.PlainForms.{plain_of}
use Rattle.pv_missing.specs.ListWeights.{whole}
use Rattle.pv_complete.proofs.words.completing.list_pieces.Goals as goal

pub returns-then-weight-ge-HEAVIEST-clause-pieces : goal.returns-then-weight-ge-HEAVIEST-clause-pieces
returns-then-weight-ge-HEAVIEST-clause-pieces c =
    let d = dtd_of c.args.owner.now.layout.now.grammar.now in
    let w = map plain_token c.args.word.now in
    let i = c.weight_by-weight.ensures.weight in
    let e : c.weight_by-weight.result ≡ heaviest = let b = i.bounded in let f = c.if-weight-ge-HEAVIEST.true in omega arith in
    subst (λ (k : ℕ). IsWeight (Rule d w) (whole (plain_of c.args.owner.now.of) w) k) e i

pub returns-clause-pieces : goal.returns-clause-pieces
returns-clause-pieces c = (c.weight_by-weight.result, c.weight_by-weight.ensures.weight, c.in_ok-pieces.ensures)
