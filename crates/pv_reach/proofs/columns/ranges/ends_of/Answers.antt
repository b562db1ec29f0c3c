use Rattle.std.proofs.Common.{Contains, ap, arith, get_or, length, replicate, ◌<◌, ◌∙◌, ◌≡◌}
use Rattle.std.proofs.lemmas.Grind.{common_steps}
use Rattle.std.proofs.lemmas.List.{get_or_default}
use Rattle.pv_columns.specs.declared.rules.ColumnRule.{ColumnRule}
use Rattle.pv_reach.proofs.ClosedCells.{columns_in_range}
use Rattle.pv_reach.proofs.RangesOfRules.{end_more}
use Rattle.pv_reach.proofs.columns.ranges.ends_of.Goals as goal

pub loop-number-init : goal.loop-number-init
loop-number-init c =
    let e : c.in_ok-ends.ends.items ≡ replicate c.args.width 0 = c.in_ok-ends.ensures.items_if_clones_equal (λ y e. e) in
    record {
      long = grind (arith, common_steps, ap length e);
      held = λ k d lt. absurd (omega arith);
    }

pub put_number-requires : goal.put_number-requires
put_number-requires c =
    let rules = c.args.rules.now in let n = c.loop-number.number in
    let lt : n < length rules = omega (arith, c.loop-number-test.true) in
    let r = get_or rules n c.index-rules-number.result in
    let con : Contains rules r = (n, lt, get_or_default rules n r c.index-rules-number.result lt) in
    let l = (columns_in_range c.args.width rules r c.requires con).0 in let z = c.loop-number.invariant.long in omega arith

pub loop-number-preserved : goal.loop-number-preserved
loop-number-preserved c =
    let rules = c.args.rules.now in let n = c.loop-number.number in let r = get_or rules n c.index-rules-number.result in let e = c.put_number.ensures in
    let lt : n < length rules = omega (arith, c.loop-number-test.true) in
    record {
      long = e.long ∙ c.loop-number.invariant.long;
      held = end_more rules c.loop-number.ends.items c.put_number.new.numbers.items n r.left
          (λ d. ap (λ (v : ColumnRule). v.left)
          (get_or_default rules n d c.index-rules-number.result lt)) e.others e.here
          c.loop-number.invariant.held;
    }
