use Rattle.std.proofs.Common.{Contains, List, arith, subst, sym, ℕ}
use Rattle.std.proofs.lemmas.List.{take_all}
use Rattle.pv_reach.proofs.StandInColumns.{rule_more, rule_passed}
use Rattle.pv_reach.proofs.columns.merging.merge.Goals.{then-number-rules+in_ok-add_rule, else-number-rules}
use Rattle.pv_reach.proofs.columns.merging.merge.Goals as goal

pub loop-place-preserved : goal.loop-place-preserved
loop-place-preserved c =
    let rules = c.args.rules.now in let m = c.args.merging.now in let order = c.args.order.now in let n = c.loop-place.place in
    elim c.if-number-rules.branch [
      | then-number-rules+in_ok-add_rule w ↦ rw w.new-is record {
        merged = w.in_ok-add_rule.ensures.added.merged c.loop-place.invariant.merged;
        has = rule_more rules m order n c.loop-place.new.items w.add_rule.new.new.items
            c.loop-place-test.true w.in_ok-add_rule.ensures.added.grow w.in_ok-add_rule.ensures.has
            c.loop-place.invariant.has;
      }
      | else-number-rules w ↦ rw w.new-is record {
        merged = c.loop-place.invariant.merged;
        has = rule_passed rules m order n c.loop-place.new.items c.loop-place-test.true w.if-number-rules.false c.loop-place.invariant.has;
      }
    ]

pub returns-clause-has : goal.returns-clause-has
returns-clause-has c = λ i con.
    let P : List ℕ → Type 0 = λ v. Contains v i in
    c.loop-place.invariant.has i (subst P (sym (take_all c.loop-place.place c.args.order.now (let t = c.loop-place-test.false in omega arith))) con)
