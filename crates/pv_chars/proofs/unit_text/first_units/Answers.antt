use Rattle.pv_chars.proofs.MeansLemmas.{behind_shorter, front_cut, front_view}
use Rattle.pv_chars.proofs.unit_text.first_units.Goals as goal

pub overflow_sub-bytes : goal.overflow_sub-bytes
overflow_sub-bytes c = behind_shorter c.args.bytes.now c.behind_units-rest.result.now c.args.all c.args.count c.requires.units c.behind_units-rest.ensures

pub invariant_of-result : goal.invariant_of-result
invariant_of-result c =
    front_cut c.args.bytes.now c.behind_units-rest.result.now c.args.all c.args.count c.requires.units c.behind_units-rest.ensures
    c.split_at.result.0.now c.in_ok-from_slice.field-0.items c.requires.some c.requires.within c.split_at.ensures.front c.in_ok-from_slice.ensures.items

pub returns : goal.returns
returns c =
    front_view c.args.bytes.now c.behind_units-rest.result.now c.args.all c.args.count c.requires.units c.behind_units-rest.ensures
    c.split_at.result.0.now c.in_ok-from_slice.field-0.items c.requires.some c.requires.within c.split_at.ensures.front c.in_ok-from_slice.ensures.items
