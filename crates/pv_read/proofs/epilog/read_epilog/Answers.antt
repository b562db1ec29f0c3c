use Rattle.std.proofs.Common.{◌≡◌, [], refl, arith}
use Rattle.std.proofs.lemmas.Result.{err_from_is_err_and}
use Rattle.std.proofs.lemmas.Grind.{common_steps}
use Rattle.pv_read.specs.PlainItems.{plain_item}
use Rattle.pv_read.proofs.Epilogs.{one_more_behind, nothing_left, refused_behind}
use Rattle.pv_read.proofs.epilog.read_epilog.Goals as goal

pub returns-in_err-more-clause-refused : goal.returns-in_err-more-clause-refused
returns-in_err-more-clause-refused c =
    let from = err_from_is_err_and c.from_residual.result c.from_residual.ensures.1 in
    rw (from.1, from.2) (refused_behind c.items.invariant _ c.in_err-more.ensures.refused)

pub next_item-requires : goal.next_item-requires
next_item-requires c = λ e. grind (arith, common_steps)

pub items-preserved : goal.items-preserved
items-preserved c =
    one_more_behind c.items.invariant (plain_item c.in_ok-more.field-0-0) c.in_ok-more.more.now c.in_ok-more.ensures.taken c.in_ok-more.ensures.within _ refl

pub returns-clause-ends : goal.returns-clause-ends
returns-clause-ends c =
    let none : c.items.rest.now ≡ [] = grind (arith, common_steps) in
    nothing_left c.items.invariant none
