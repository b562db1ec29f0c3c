use Rattle.std.proofs.Common.{◌≡◌, ◌++◌, ◌∙◌, arith}
use Rattle.pv_chars.proofs.MeansLemmas.{count_fits, cut_units-append, units_in-append}
use Rattle.pv_chars.proofs.unit_text.Units.joined.Goals as goal

both_items : (c : goal.In_ok-extend_from_slice-2) → c.extend_from_slice-2.new.self.items ≡ c.self.inside.bytes.items ++ c.other.inside.bytes.items
both_items c =
    c.in_ok-extend_from_slice-2.ensures.items ∙ (λ i. c.in_ok-extend_from_slice.ensures.items i
    ++ c.as_slice-2.ensures.value i) ∙ (λ i. (c.in_ok-bytes.ensures.items i
    ++ c.as_slice.ensures.value i) ++ c.other.inside.bytes.items)

pub overflow_add-result : goal.overflow_add-result
overflow_add-result c =
    let a = count_fits c.self.inside.bytes.items c.self.inside.count c.self.invariant in
    let b = count_fits c.other.inside.bytes.items c.other.inside.count c.other.invariant in omega (arith, c.len.ensures, c.len-2.ensures, c.self.inside.bytes.small, c.other.inside.bytes.small)

pub invariant_of-result : goal.invariant_of-result
invariant_of-result c = cut_units-append c.self.inside.bytes.items c.other.inside.bytes.items _ c.self.inside.count c.other.inside.count c.self.invariant c.other.invariant (both_items c)

pub returns : goal.returns
returns c = units_in-append c.self.inside.bytes.items c.other.inside.bytes.items _
    c.self.inside.count c.other.inside.count c.self.invariant c.other.invariant (both_items c)
    ∙ (λ i. c.self.view_is i ++ c.other.view_is i)
