use Rattle.std.proofs.Common.{Contains, List, length, refl, subst, sym, ℕ, ◌<◌}
use Rattle.pv_productive.specs.PlainForms.{dtd_of}
use Rattle.pv_reach.proofs.FormedDtds.{formed_dtd}
use Rattle.pv_reach.proofs.LiveColumns.{merging_is, replacement}
use Rattle.pv_reach.proofs.plan.merged_rules.Goals as goal

pub merge-requires : goal.merge-requires
merge-requires c =
    let s = c.in_ok-merging.ensures in let rules = c.args.rules.now in
    merging_is (dtd_of c.args.grammar.now) (formed_dtd c.args.grammar.now) rules
    c.in_ok-merging.merging c.in_ok-bare.bare.items c.in_ok-components.components.heads.items
    c.deref-3.result.now rules
    c.args.width 0 c.requires.rules s.same c.in_ok-bare.ensures c.in_ok-components.ensures
    c.requires.width c.requires.narrow s.below s.few

pub returns : goal.returns
returns c =
    let s = c.in_ok-merging.ensures in let rules = c.args.rules.now in
    let m = c.in_ok-merging.merging in
    let H : List ℕ → Type 0 = λ v. (i : ℕ) → i < length rules → Contains v i in
    replacement (dtd_of c.args.grammar.now) (formed_dtd c.args.grammar.now) rules m
    c.in_ok-bare.bare.items c.in_ok-components.components.heads.items c.deref-3.result.now
    c.in_ok-merged.merged.items c.args.width (length m.led.items) c.requires.rules s.same
    c.in_ok-bare.ensures c.in_ok-components.ensures c.requires.width c.requires.narrow s.below
    s.few
    c.in_ok-merged.ensures.merged (subst H (sym c.deref-3.ensures.value) c.in_ok-order.ensures)
    c.in_ok-merged.ensures.has refl
