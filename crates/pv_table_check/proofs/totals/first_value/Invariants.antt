use Rattle.pv_rules.specs.PlainForms.{plain_site}
use Rattle.pv_rules.specs.Rules.{over}
use Rattle.pv_table_check.proofs.FirstValues.{IsAhead}
use Rattle.pv_table_check.proofs.totals.first_value.Given as goal

abbrev pub invariant-loop-entry : goal.invariant-loop-entry
invariant-loop-entry l = IsAhead (over (plain_site l.fn.site) l.fn.from l.fn.to) l.entries l.entry-index
