-- Rules in two lists.
use Rattle.std.proofs.Common.{All, List, arith, length, subst, ℕ, ◌++◌, ◌+◌, ◌<◌}
use Rattle.std.proofs.lemmas.List.{get_or-append-add}
use Rattle.std.proofs.lemmas.List.Elements.{Contains-append_left, Contains-append_right}
use Rattle.std.proofs.Math.ListN.{length-append}
use Rattle.pv_columns.specs.ColumnRules.{InRange}
use Rattle.pv_columns.specs.declared.rules.ColumnRule.{ColumnRule}
use Rattle.pv_reach.specs.Tables.{AreAmong}

module _ (width : ℕ) (front rules : List ColumnRule) (range : InRange width (front ++ rules)) where
  pub rules_in_range : InRange width rules
  rules_in_range k d lt =
      let long = length-append front rules in
      let P : ColumnRule → Type 0 = λ r. (r.left < width) × All (λ c. c < width) r.columns.items in
      subst P (get_or-append-add front rules k d) (range (length front + k) d (omega arith))

pub front_among : (front rules : List ColumnRule) → AreAmong front (front ++ rules)
front_among front rules r con = Contains-append_left front rules r con

pub rules_among : (front rules : List ColumnRule) → AreAmong rules (front ++ rules)
rules_among front rules r con = Contains-append_right front rules r con
