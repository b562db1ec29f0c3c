use Rattle.std.proofs.Common.{Bool, Contains, List, subst, sym}
use Rattle.pv_columns.specs.Marks.{AreMarked}
use Rattle.pv_columns.proofs.ClosedMarks.{marked_at}
use Rattle.pv_productive.specs.PlainForms.{dtd_of}
use Rattle.pv_reach.proofs.FormedDtds.{formed_dtd}
use Rattle.pv_reach.proofs.LinkedColumns.{bare_more, bare_names}
use Rattle.pv_reach.proofs.columns.bare.bare_columns.Goals.{then-is_open, else-is_open}
use Rattle.pv_reach.proofs.columns.bare.bare_columns.Goals as goal

pub loop-rule-init : goal.loop-rule-init
loop-rule-init c =
    bare_names (dtd_of c.args.grammar.now) c.args.rules.now c.in_ok-flags.flags.items c.set_names.new.flags.items c.args.width c.requires (formed_dtd c.args.grammar.now)
    (c.in_ok-flags.ensures.items_if_clones_equal (λ y e. e)) c.set_names.ensures

pub loop-rule-preserved : goal.loop-rule-preserved
loop-rule-preserved c =
    let r = c.rule-item.result in
    let con : Contains c.args.rules.now r = (c.loop-rule.rule-index, c.loop-rule-test.true, sym c.rule-item.is) in
    let P : List Bool → Type 0 = λ v. AreMarked v r.columns.items in
    elim c.if-is_open.branch [
      | then-is_open w ↦
          rw w.flags-is
          (bare_more c.args.rules.now c.loop-rule.flags.items w.set_flag.new.flags.items r con
          (c.is_open.ensures.token w.if-is_open.true) (marked_at c.loop-rule.flags.items
          r.columns.items (subst P c.deref.ensures.value (c.is_open.ensures.marked w.if-is_open.true)))
          c.loop-rule.invariant w.set_flag.ensures.set)
      | else-is_open w ↦ rw w.flags-is c.loop-rule.invariant
    ]
