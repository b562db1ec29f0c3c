use Rattle.std.proofs.Common.{◌≡◌, ◌≤◌, ◌-◌, ◌∙◌, length, take, drop, ap, subst, refl, List, ℕ, arith}
use Rattle.std.specs.Prelude.{IfOk}
use Rattle.pv_chars.specs.Units.{units_in}
use Rattle.pv_chars.proofs.MeansLemmas.{cut_named, count_is, behind_view, back_cut}
use Rattle.pv_chars.proofs.unit_text.Units.part.Goals as goal

pub behind_units-start-requires-clause-units : goal.behind_units-start-requires-clause-units
behind_units-start-requires-clause-units c = cut_named c.as_slice-bytes.result.now c.self.inside.bytes.items c.self.inside.count c.self.invariant c.as_slice-bytes.ensures.value

pub behind_units-start-requires-clause-within : goal.behind_units-start-requires-clause-within
behind_units-start-requires-clause-within c = omega (arith, c.requires.some, c.requires.within, count_is c.self.inside.bytes.items c.self.inside.count c.self.invariant, ap length c.self.view_is)

-- that the part is within the text
within : (c : goal.After-behind_units-start) → c.args.to ≤ c.self.inside.count
within c = omega (arith, c.requires.within, count_is c.self.inside.bytes.items c.self.inside.count c.self.invariant, ap length c.self.view_is)

pub overflow_sub-self-inside : goal.overflow_sub-self-inside
overflow_sub-self-inside c = omega (arith, c.requires.some, within c)

pub first_units-requires-clause-units : goal.first_units-requires-clause-units
first_units-requires-clause-units c =
    let start = c.behind_units-start.result.now in
    let bytes = c.as_slice-bytes.result.now in
    let is = cut_named bytes c.self.inside.bytes.items c.self.inside.count c.self.invariant c.as_slice-bytes.ensures.value in
    back_cut bytes start c.self.inside.count c.args.from is c.behind_units-start.ensures start (omega (arith, c.requires.some, within c)) refl

pub first_units-requires-clause-within : goal.first_units-requires-clause-within
first_units-requires-clause-within c = omega (arith, c.requires.some, within c)

pub returns : goal.returns
returns c =
    let start = c.behind_units-start.result.now in
    let bytes = c.as_slice-bytes.result.now in
    let is = cut_named bytes c.self.inside.bytes.items c.self.inside.count c.self.invariant c.as_slice-bytes.ensures.value in
    let units_are : units_in start ≡ drop c.args.from c.args.self.now =
    behind_view bytes start c.self.inside.count c.args.from is c.behind_units-start.ensures ∙ ap (drop c.args.from) (ap units_in c.as_slice-bytes.ensures.value ∙ c.self.view_is) in
    subst (λ (us : List (List ℕ)). IfOk c.first_units.result (λ u. u ≡ take (c.args.to - c.args.from) us)) units_are c.first_units.ensures
