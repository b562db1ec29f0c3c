use Rattle.pv_read.specs.PlainItems.{plain_item}
use Rattle.pv_lists.proofs.SimpleRuns.{run_taken}
use Rattle.pv_lists.proofs.KnownTags.{end_tag_taken, bare_tag_taken}
use Rattle.pv_lists.proofs.items.item_in.Goals as goal

pub returns-in-Some-clause-taken : goal.returns-in-Some-clause-taken
returns-in-Some-clause-taken g c = λ left at.
    run_taken c.args.most_depth c.args.root.now c.args.rest.now c.in-Some.run'.now c.in-Some.more.now c.args.element.now.name.now c.args.open_elements left at c.in-Some.ensures.begins

pub returns-clause-taken : goal.returns-clause-taken
returns-clause-taken g c = λ left at.
    end_tag_taken c.args.most_depth c.args.root.now c.args.rest.now c.in-Some-after_end_tag.more.now
    c.args.element.now.name.now c.args.open_elements left at
    (c.requires.named c.if-element.true) c.in-Some-after_end_tag.ensures.whole

pub returns-2-clause-taken : goal.returns-2-clause-taken
returns-2-clause-taken g c = λ left at.
    let tag = c.in-Some-known_tag_at in
    bare_tag_taken c.args.most_depth c.args.root.now c.args.rest.now tag.more.now
    c.args.element.now.name.now tag.kind.name.now (plain_item tag.item) c.args.open_elements left at
    tag.ensures.named (c.may_open.ensures c.if-may_open.true) tag.ensures.bare tag.ensures.whole
