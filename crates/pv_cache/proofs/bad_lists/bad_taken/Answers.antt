use Rattle.std.proofs.Common.{arith, ap, ◌≤◌, ◌∙◌}
use Rattle.std.specs.List.{between}
use Rattle.pv_edit.proofs.FilledKids.{slice_plain}
use Rattle.pv_edit.specs.FittingChanges.{plain_filling}
use Rattle.pv_tree.specs.Legal.{MAX_NODES}
use Rattle.pv_tree.specs.Plain.{forest_of, nodes_in_all}
use Rattle.pv_tree.specs.PlainForms.{plain_all}
use Rattle.pv_cache.specs.BadLists.{bad_gone}
use Rattle.pv_cache.proofs.ImpossibleCounts.{few-between}
use Rattle.pv_cache.proofs.bad_lists.bad_taken.Goals as goal

pub bad_gone-requires-clause-fits : goal.bad_gone-requires-clause-fits
bad_gone-requires-clause-fits c =
    rw (slice_plain c.args.change.now.from c.args.change.now.to c.args.kids.now)
    c.requires.suits.fits

pub bad_gone-requires-clause-small : goal.bad_gone-requires-clause-small
bad_gone-requires-clause-small c =
    let few =
    few-between (plain_all c.args.kids.now) c.args.change.now.from c.args.change.now.to
    c.requires.suits.order in
    let most : nodes_in_all
    (forest_of (between c.args.change.now.from c.args.change.now.to (plain_all c.args.kids.now)))
    ≤ MAX_NODES = omega (arith, few, c.requires.small) in
    rw (slice_plain c.args.change.now.from c.args.change.now.to c.args.kids.now) most

pub returns : goal.returns
returns c =
    c.bad_gone.ensures
    ∙ ap (bad_gone (plain_filling c.args.change.now.filling))
    (slice_plain c.args.change.now.from c.args.change.now.to c.args.kids.now)
