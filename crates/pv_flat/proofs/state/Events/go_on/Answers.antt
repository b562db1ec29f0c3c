use Rattle.std.proofs.lemmas.Result.{err_from_is_err_and}
use Rattle.pv_read.specs.PlainItems.{plain_item}
use Rattle.pv_flat.proofs.States.{refused-advance, same-inside, stands-inside}
use Rattle.pv_flat.proofs.state.Events.go_on.Goals as goal

pub returns-in_err-item-clause-advances : goal.returns-in_err-item-clause-advances
returns-in_err-item-clause-advances c =
    let from = err_from_is_err_and c.from_residual.result c.from_residual.ensures.1 in
    rw (from.1, from.2) (refused-advance c.args.self.now _ _ c.requires.inside
    c.in_err-item.ensures.refused (same-inside c.args.self.now _ c.requires.inside
    c.requires.inside (λ es end. (λ x. x, λ x. x))))

pub take-requires-clause-stands : goal.take-requires-clause-stands
take-requires-clause-stands c = stands-inside c.args.self.now c.args.name.now (plain_item c.in_ok-item.item) c.in_ok-item.more.now c.requires.innermost c.in_ok-item.ensures.taken
