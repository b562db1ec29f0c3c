use Rattle.std.proofs.Common.{arith, ℕ, subst, ◌≡◌}
use Rattle.pv_productive.specs.PlainForms.{dtd_of}
use Rattle.pv_reach.specs.AddedRules.{AddsListed}
use Rattle.pv_reach.proofs.ContentRules.{listed_more, listed_none}
use Rattle.pv_reach.proofs.rules.contents.add_listed.Goals as goal

pub loop-number-init : goal.loop-number-init
loop-number-init c = listed_none (dtd_of c.args.grammar.now) c.args.rules.now.items c.args.name c.args.first

pub loop-number-preserved : goal.loop-number-preserved
loop-number-preserved c =
    listed_more (dtd_of c.args.grammar.now) c.args.rules.now.items c.loop-number.rules.items c.add.new.rules.items c.args.name c.args.first c.loop-number.number c.part_column.result
    c.part_column.ensures c.loop-number.auto.number c.loop-number.invariant c.in_ok-add.ensures

pub returns : goal.returns
returns c =
    let z : c.loop-number.number ≡ c.args.end = let a = c.loop-number-test.false in let b = c.loop-number.auto.number-end c.requires in omega arith in
    let P : ℕ → Type 0 = λ v. AddsListed (dtd_of c.args.grammar.now) c.args.rules.now.items c.loop-number.rules.items c.args.name c.args.first v in
    subst P z c.loop-number.invariant
