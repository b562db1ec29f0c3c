use Rattle.std.proofs.Common.{ap, arith, subst, ℕ, ◌∙◌, ◌≡◌}
use Rattle.pv_dtd.specs.Plain.{declared}
use Rattle.pv_productive.specs.PlainForms.{dtd_of}
use Rattle.pv_reach.specs.AddedRules.{AddsDeclared}
use Rattle.pv_reach.proofs.NameRules.{declared_more, declared_none}
use Rattle.pv_reach.proofs.rules.any.add_declared.Goals as goal

pub loop-name-init : goal.loop-name-init
loop-name-init c = declared_none (dtd_of c.args.grammar.now) c.args.rules.now.items

pub loop-name-preserved : goal.loop-name-preserved
loop-name-preserved c =
    declared_more (dtd_of c.args.grammar.now) c.args.rules.now.items c.loop-name.rules.items c.add.new.rules.items c.add-in-loop-name.new.rules.items c.loop-name.name c.any_column-column.result
    c.any_column-column.ensures c.loop-name.invariant c.in_ok-add.ensures c.in_ok-add-2.ensures

pub returns : goal.returns
returns c =
    let n = c.count-name-end.ensures ∙ ap declared c.dtd.ensures in
    let z : c.loop-name.name ≡ declared (dtd_of c.args.grammar.now) = let t = c.loop-name-test.false in let a = c.loop-name.auto.name-end in omega arith in
    let P : ℕ → Type 0 = λ v. AddsDeclared (dtd_of c.args.grammar.now) c.args.rules.now.items c.loop-name.rules.items v in
    subst P z c.loop-name.invariant
