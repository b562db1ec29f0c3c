use Rattle.std.proofs.Common.{◌≡◌, ◌≤◌, ℕ, suc, max, List, ◌∷◌, length, take, drop}
use Rattle.std.specs.List.{AllByRecursion}
use Rattle.pv_chars.specs.Texts.{joined}
use Rattle.pv_standoff.specs.declared.ranges.Range.{Range}
use Rattle.pv_standoff.specs.Stacks.{PlainOpen, stack_depth}
use Rattle.pv_tree.specs.Legal.{MAX_DEPTH}
use Rattle.pv_standoff.specs.PlainForms.{plain_open, plain_outer, seen}
use Rattle.pv_standoff.proofs.BuiltDocuments.{IsAt}
use Rattle.pv_standoff.proofs.building.fill.Given as goal

-- the first i ranges have been opened, and the others begin at `at` or later
pub record HasOpened (root : List ℕ) (text : List (List ℕ)) (all : List Range) (i : ℕ) (f : PlainOpen) (fs : List PlainOpen) (at : ℕ) (rest : List ℕ) : Type 0 where
  pub is_at : IsAt root text (take i all) f fs at
  pub left : rest ≡ joined (drop at text)
  pub later : AllByRecursion (λ x. at ≤ x.from) (drop i all)
  pub shallow : stack_depth (f ∷ fs) ≤ max MAX_DEPTH (suc (length fs))

abbrev pub invariant-each : goal.invariant-each
invariant-each l =
    HasOpened l.fn.top.name l.text (seen l.sorted) l.range-index (plain_open l.top)
    (plain_outer l.outer.items) l.at l.rest

abbrev pub invariant-ended : goal.invariant-ended
invariant-ended l =
    IsAt l.fn.top.name l.text (take l.range-index (seen l.sorted)) (plain_open l.top)
    (plain_outer l.outer.items) l.at × (l.at ≤ l.from) ×
    (stack_depth (plain_open l.top ∷ plain_outer l.outer.items) ≤ MAX_DEPTH) × (l.rest ≡ joined (drop l.at l.text))

abbrev pub decreases-ended : goal.decreases-ended
decreases-ended l = length l.outer.items

abbrev pub invariant-left : goal.invariant-left
invariant-left l =
    IsAt l.fn.top.name l.text (seen l.sorted) (plain_open l.top) (plain_outer l.outer.items) l.at ×
    (stack_depth (plain_open l.top ∷ plain_outer l.outer.items) ≤ MAX_DEPTH) × (l.rest ≡ joined (drop l.at l.text))

abbrev pub decreases-left : goal.decreases-left
decreases-left l = length l.outer.items
