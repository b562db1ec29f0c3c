use Rattle.std.proofs.Common.{◌∙◌, rules, arith}
use Rattle.pv_tree.specs.PlainForms.{plain}
use Rattle.pv_cache.specs.Updates.{CanUpdateOwner, update_owner}
use Rattle.pv_cache.proofs.Levels.{first-below, level-again, level-at-least, level-counted}
use Rattle.pv_cache.proofs.updates.+update_below.Goals as goal

pub update_below-requires : goal.update_below-requires
update_below-requires t c =
    let b =
    first-below (CanUpdateOwner c.args.update.now.inner c.args.update.now.stamp c.args.exchange.now)
    c.args.path.now (update_owner c.args.update.now.verdict c.args.update.now.inner c.args.update.now.stamp)
    (plain c.args.node.now) c.take_kids-kids.result.items c.index_mut-kid.result.now
    (omega arith) c.take_kids-kids.ensures.taken c.requires.can c.requires.counted in (
      search rules,
      (rw c.index_mut-kid.ensures.value b.1.can, rw c.index_mut-kid.ensures.value b.1.counted),
    )

pub tell_again-requires-clause-at_least : goal.tell_again-requires-clause-at_least
tell_again-requires-clause-at_least t c =
    level-at-least (CanUpdateOwner c.args.update.now.inner c.args.update.now.stamp c.args.exchange.now)
    c.args.path.now
    (update_owner c.args.update.now.verdict c.args.update.now.inner c.args.update.now.stamp)
    (plain c.args.node.now) (plain c.take_kids-kids.new.node) (plain c.put_kids.new.node)
    c.take_kids-kids.result.items c.index_mut-kid.result.now c.update_below.new.node
    c.told_of-before.result c.told_of-after.result (omega arith) c.take_kids-kids.ensures.taken
    c.take_kids-kids.ensures.rest c.put_kids.ensures c.index_mut-kid.ensures.value
    c.update_below.ensures
    c.told_of-before.ensures.left c.told_of-before.ensures.nodes c.told_of-after.ensures.left
    c.told_of-after.ensures.nodes c.requires.can c.requires.counted

pub tell_again-requires-clause-counted : goal.tell_again-requires-clause-counted
tell_again-requires-clause-counted t c =
    level-counted (CanUpdateOwner c.args.update.now.inner c.args.update.now.stamp c.args.exchange.now)
    c.args.path.now
    (update_owner c.args.update.now.verdict c.args.update.now.inner c.args.update.now.stamp)
    (plain c.args.node.now) (plain c.take_kids-kids.new.node) (plain c.put_kids.new.node)
    c.take_kids-kids.result.items c.index_mut-kid.result.now c.update_below.new.node
    c.told_of-before.result c.told_of-after.result (omega arith) c.take_kids-kids.ensures.taken
    c.take_kids-kids.ensures.rest c.put_kids.ensures c.index_mut-kid.ensures.value
    c.update_below.ensures
    c.told_of-before.ensures.left c.told_of-before.ensures.nodes c.told_of-after.ensures.left
    c.told_of-after.ensures.nodes c.requires.can c.requires.counted

pub returns-in-len1-up : goal.returns-in-len1-up
returns-in-len1-up t c =
    c.tell_again.ensures
    ∙ level-again (CanUpdateOwner c.args.update.now.inner c.args.update.now.stamp c.args.exchange.now)
    c.args.path.now
    (update_owner c.args.update.now.verdict c.args.update.now.inner c.args.update.now.stamp)
    (plain c.args.node.now) (plain c.take_kids-kids.new.node) (plain c.put_kids.new.node)
    c.take_kids-kids.result.items c.index_mut-kid.result.now c.update_below.new.node
    c.told_of-before.result c.told_of-after.result (omega arith) c.take_kids-kids.ensures.taken
    c.take_kids-kids.ensures.rest c.put_kids.ensures c.index_mut-kid.ensures.value
    c.update_below.ensures
    c.told_of-before.ensures.left c.told_of-before.ensures.nodes c.told_of-after.ensures.left
    c.told_of-after.ensures.nodes c.requires.can c.requires.counted
