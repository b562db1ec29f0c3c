use Rattle.std.proofs.Common.{arith, ◌-◌}
use Rattle.pv_productive.specs.PlainForms.{dtd_of}
use Rattle.pv_reach.proofs.NameRules.{parts_more, parts_none}
use Rattle.pv_reach.proofs.rules.contents.add_parts.Goals as goal

pub loop-number-init : goal.loop-number-init
loop-number-init c = parts_none (dtd_of c.args.grammar.now) c.args.rules.now.items c.args.end

pub loop-number-preserved : goal.loop-number-preserved
loop-number-preserved c =
    parts_more (dtd_of c.args.grammar.now) c.args.rules.now.items c.loop-number.rules.items c.add_part.new.rules.items (c.loop-number.number - 1) c.loop-number.number c.args.end
    (let t = c.loop-number-test.true in omega arith) c.loop-number.invariant c.in_ok-add_part.ensures

pub returns : goal.returns
returns c =
    let l = c.loop-number.invariant in
    let t = c.loop-number-test.false in
    record { sound = l.sound; grow = l.grow; parts = λ q a b. l.parts q (omega arith) b }
