use Rattle.std.proofs.Common.{ℕ, List, Contains, true≢false, set, sym, ◌*◌, ◌+◌, ◌∙◌, subst, arith}
use Rattle.pv_columns.specs.ColumnRules.{InRange}
use Rattle.pv_columns.specs.declared.rules.ColumnRule.{ColumnRule}
use Rattle.pv_reach.specs.Tables.{AreAmong, IsReachedTable, RaisesNothing}
use Rattle.pv_reach.proofs.RaisedCells.{Raised, raised, holds_more}
use Rattle.pv_reach.proofs.tables.table.raise.Goals as goal
use Rattle.pv_reach.proofs.tables.table.raise.Goals.{then-table-at, else-table-at}

pub loop-rule-preserved : goal.loop-rule-preserved
loop-rule-preserved c =
    let r = c.rule-item.result in
    let con : Contains c.args.rules.now r = (c.loop-rule.rule-index, c.loop-rule-test.true, sym c.rule-item.is) in
    let before = c.loop-rule.invariant in
    elim c.if-table-at.branch [
      | then-table-at w ↦ (
          let raised_by : (all : List ColumnRule) → InRange c.args.width all → AreAmong c.args.rules.now all → IsReachedTable all c.args.word.now c.args.width c.args.table.now →
          Raised all c.args.word.now c.args.width c.loop-rule.table (set c.loop-rule.table (c.args.place * c.args.width + r.left) c.past_rule-bound.result) = λ all range among att.
          raised all c.args.word.now c.args.width c.loop-rule.table c.args.place r c.past_rule-bound.result before.table (before.attained all range among att) range c.requires.place
          (among r con) w.if-table-at.true c.past_rule-bound.ensures.offered in
          let given = c.requires.attained in
          let up = raised_by given.0 given.1 given.2 given.3 in
          record {
            table = rw w.table-is up.table;
            attained = λ all range among att. rw w.table-is (raised_by all range among att).attained;
            rises = rw w.table-is (λ k. let a = before.rises k in let b = up.rises k in omega arith);
            same = λ e. absurd (true≢false (sym w.changed-is ∙ e));
            closed = λ e. absurd (true≢false (sym w.changed-is ∙ e));
            less = λ _. rw w.table-is (let a = up.less in let b = before.most in omega arith);
            most = rw w.table-is (let a = up.less in let b = before.most in omega arith);
          })
      | else-table-at w ↦ record {
        table = rw w.table-is before.table;
        attained = rw w.table-is before.attained;
        rises = rw w.table-is before.rises;
        same = λ e. w.table-is ∙ before.same (sym w.changed-is ∙ e);
        closed = λ e.
            let H : List ℕ → ColumnRule → Type 0 = λ t. RaisesNothing c.args.word.now c.args.width t c.args.place in
            let held : H c.loop-rule.table r = λ m reads. let a = c.past_rule-bound.ensures.most m reads in let b = w.if-table-at.false in omega arith in
            let P : List ℕ → Type 0 = λ t. H t r in
            let here : H c.args.table.now r = subst P (before.same (sym w.changed-is ∙ e)) held in
            holds_more (H c.args.table.now) c.args.rules.now c.loop-rule.rule-index r c.loop-rule-test.true (subst (H c.args.table.now) c.rule-item.is here) (before.closed (sym w.changed-is ∙ e));
        less = λ e. rw w.table-is (before.less (sym w.changed-is ∙ e));
        most = rw w.table-is before.most;
      }
    ]
