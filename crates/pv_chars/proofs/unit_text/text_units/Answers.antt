use Rattle.pv_chars.proofs.MeansLemmas.{cut_of, means_cut, not_empty}
use Rattle.pv_chars.proofs.unit_text.text_units.Goals as goal

pub invariant_of-result : goal.invariant_of-result
invariant_of-result c =
    cut_of c.args.bytes.now c.in-Ok.bytes.items c.in_ok-count.count c.in_ok-count.ensures (not_empty c.args.bytes.now c.is_empty.result c.is_empty.ensures c.if-is_empty.false) c.in-Ok.ensures.items

pub returns : goal.returns
returns c = means_cut c.args.bytes.now c.in-Ok.bytes.items c.in_ok-count.count c.in_ok-count.ensures
    (not_empty c.args.bytes.now c.is_empty.result c.is_empty.ensures c.if-is_empty.false)
    c.in-Ok.ensures.items
