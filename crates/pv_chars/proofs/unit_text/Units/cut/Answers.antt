use Rattle.std.proofs.Common.{◌≡◌, ◌≤◌, ◌<◌, ◌∙◌, length, take, drop, ap, arith}
use Rattle.pv_chars.specs.Units.{units_in, IsCut}
use Rattle.pv_chars.proofs.MeansLemmas.{cut_named, count_is, behind_shorter, front_cut, front_view, back_cut, back_view}
use Rattle.pv_chars.proofs.unit_text.Units.cut.Goals as goal

pub behind_units-rest-requires-clause-units : goal.behind_units-rest-requires-clause-units
behind_units-rest-requires-clause-units c = cut_named c.as_slice-bytes.result.now c.self.inside.bytes.items c.self.inside.count c.self.invariant c.as_slice-bytes.ensures.value

pub behind_units-rest-requires-clause-within : goal.behind_units-rest-requires-clause-within
behind_units-rest-requires-clause-within c = omega (arith, c.requires.within, count_is c.self.inside.bytes.items c.self.inside.count c.self.invariant, ap length c.self.view_is)

pub overflow_sub-bytes : goal.overflow_sub-bytes
overflow_sub-bytes c =
    let bytes = c.as_slice-bytes.result.now in
    behind_shorter bytes c.behind_units-rest.result.now c.self.inside.count c.args.at
    (cut_named bytes c.self.inside.bytes.items c.self.inside.count c.self.invariant
    c.as_slice-bytes.ensures.value) c.behind_units-rest.ensures

-- the text, and that the cut is within it
is_cut : (c : goal.In_ok-from_slice-2) → IsCut c.as_slice-bytes.result.now c.self.inside.count
is_cut c = cut_named c.as_slice-bytes.result.now c.self.inside.bytes.items c.self.inside.count c.self.invariant c.as_slice-bytes.ensures.value

within : (c : goal.In_ok-from_slice-2) → c.args.at < c.self.inside.count
within c = omega (arith, c.requires.within, count_is c.self.inside.bytes.items c.self.inside.count c.self.invariant, ap length c.self.view_is)

within_all : (c : goal.In_ok-from_slice-2) → c.args.at ≤ c.self.inside.count
within_all c = omega (arith, within c)

units_are : (c : goal.In_ok-from_slice-2) → units_in c.as_slice-bytes.result.now ≡ c.args.self.now
units_are c = ap units_in c.as_slice-bytes.ensures.value ∙ c.self.view_is

pub overflow_sub-behind : goal.overflow_sub-behind
overflow_sub-behind c = within_all c

pub invariant_of-before : goal.invariant_of-before
invariant_of-before c =
    front_cut c.as_slice-bytes.result.now c.behind_units-rest.result.now c.self.inside.count c.args.at (is_cut c) c.behind_units-rest.ensures
    c.split_at.result.0.now c.in_ok-from_slice.field-0.items c.requires.some (within_all c) c.split_at.ensures.front c.in_ok-from_slice.ensures.items

pub invariant_of-behind : goal.invariant_of-behind
invariant_of-behind c =
    back_cut c.as_slice-bytes.result.now c.behind_units-rest.result.now c.self.inside.count c.args.at (is_cut c) c.behind_units-rest.ensures
    c.in_ok-from_slice-2.field-0.items (within c) c.in_ok-from_slice-2.ensures.items

pub returns-clause-front : goal.returns-clause-front
returns-clause-front c =
    front_view c.as_slice-bytes.result.now c.behind_units-rest.result.now c.self.inside.count c.args.at (is_cut c) c.behind_units-rest.ensures
    c.split_at.result.0.now c.in_ok-from_slice.field-0.items c.requires.some (within_all c) c.split_at.ensures.front c.in_ok-from_slice.ensures.items
    ∙ ap (take c.args.at) (units_are c)

pub returns-clause-back : goal.returns-clause-back
returns-clause-back c =
    back_view c.as_slice-bytes.result.now c.behind_units-rest.result.now c.self.inside.count c.args.at (is_cut c) c.behind_units-rest.ensures
    c.in_ok-from_slice-2.field-0.items (within c) c.in_ok-from_slice-2.ensures.items
    ∙ ap (drop c.args.at) (units_are c)
