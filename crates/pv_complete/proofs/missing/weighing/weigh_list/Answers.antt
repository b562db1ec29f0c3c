use Rattle.std.proofs.Common.{sym, true≢false, ◌∙◌}
use Rattle.pv_productive.specs.PlainForms.{dtd_of}
use Rattle.pv_tree.specs.PlainForms.{forest}
use Rattle.pv_missing.specs.PlainForms.{plain_of}
use Rattle.pv_complete.specs.PlainForms.{load_of}
use Rattle.pv_complete.proofs.WeightSums.{adds_no_owner, adds_other, adds_weight, stops_here, weighs_by}
use Rattle.pv_complete.proofs.OwnerSites.{owner_site}
use Rattle.pv_complete.proofs.missing.weighing.weigh_list.Goals as goal

pub returns-then-not-takes_possible-clause-weighed : goal.returns-then-not-takes_possible-clause-weighed
returns-then-not-takes_possible-clause-weighed c = λ root list kids owner.
    adds_other (dtd_of c.args.layout.now.grammar.now) root c.args.verdicts.now.verdicts list (load_of c.args.load.now) (load_of c.takes_possible.new.self)
    c.if-not-takes_possible.ensures.taken c.if-not-takes_possible.ensures.total c.args.load.now.bounded

pub returns-in_default-clause-weighed : goal.returns-in_default-clause-weighed
returns-in_default-clause-weighed c = λ root list kids owner.
    adds_no_owner (dtd_of c.args.layout.now.grammar.now) root c.args.verdicts.now.verdicts list (load_of c.args.load.now) (load_of c.takes_possible.new.self)
    c.if-not-takes_possible.ensures.taken (rw c.in_default.is at owner)

pub returns-then-not-is_known_owner-clause-weighed : goal.returns-then-not-is_known_owner-clause-weighed
returns-then-not-is_known_owner-clause-weighed c = λ root list kids owner.
    absurd (true≢false (sym (c.is_known_owner.ensures.1
    (owner_site (dtd_of c.args.layout.now.grammar.now) root list.owner (plain_of c.in-Some.of)
    (rw c.in-Some.is at owner))) ∙ c.if-not-is_known_owner.true))

pub returns-in-Ok-clause-weighed : goal.returns-in-Ok-clause-weighed
returns-in-Ok-clause-weighed c = λ root list kids owner.
    let d = dtd_of c.args.layout.now.grammar.now in
    adds_weight d root c.args.verdicts.now.verdicts list c.in-Ok.weight (load_of c.args.load.now) (load_of c.add.new.self)
    (rw c.add.ensures.used c.if-not-takes_possible.ensures.taken)
    (weighs_by d root list (forest c.args.kids.now) (plain_of c.in-Some.of) c.in-Ok.weight kids (rw c.in-Some.is at owner) c.in-Ok.ensures.weight)
    (rw kids c.in-Ok.ensures.fits) (rw c.if-not-takes_possible.ensures.total at c.add.ensures.total)

pub returns-in-Err-clause-wide : goal.returns-in-Err-clause-wide
returns-in-Err-clause-wide c = λ e root list kids owner.
    stops_here (dtd_of c.args.layout.now.grammar.now) root c.args.verdicts.now.verdicts list _ (load_of c.args.load.now)
    c.if-not-takes_possible.ensures.taken (rw kids (c.in-Err.ensures.wide e))
