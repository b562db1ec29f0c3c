use Rattle.std.proofs.Common.{Some, [], refl, ◌∷◌}
use Rattle.pv_reach.specs.Cuts.{of_token}
use Rattle.pv_reach.proofs.RangesOfRules.{adds_rule, one_number}
use Rattle.pv_reach.proofs.tables.free_rules.add_token.Goals as goal

pub returns-clause-adds : goal.returns-clause-adds
returns-clause-adds c = λ rules names free lt.
    adds_rule rules names c.args.few.now.items c.add.new.rules.items c.args.left (Some c.args.token) (c.args.left ∷ []) c.in_ok-add.ensures
    (of_token c.args.row.now c.args.token free (c.has.ensures.0 c.if-not-has.false) refl refl) lt (one_number names c.args.left lt)
