use Rattle.std.proofs.Common.{◌≡◌, ◌∙◌, ap, length, ◌/◌, ◌<◌, arith, rules}
use Rattle.pv_model.specs.Plain.{star}
use Rattle.pv_model.specs.PlainForms.{plain_part, plain_parts}
use Rattle.pv_model.specs.declared.models.Part.{the_lemmas}
use Rattle.pv_model.proofs.LayingOut.{weights, first_half-<, second_half-<, IsLaidOut-star, IsLaidOut-plus, IsLaidOut-in_order, IsLaidOut-either}
use Rattle.pv_model.proofs.layout.+lay_out.Goals as goal

pub lay_out-returns-in_ok-new-in-Star : goal.lay_out-returns-in_ok-new-in-Star
lay_out-returns-in_ok-new-in-Star t c =
    let is : plain_part c.args.part.now ≡ star (plain_part c.in-Star.inner.value) = ap plain_part c.in-Star.is ∙ search (rules, the_lemmas) in
    rw (is, c.in_ok-new-in-Star.ensures.ok) (IsLaidOut-star _ _ _ _ (rw c.deref-in-Star.ensures at c.in_ok-rounds-in-Star.ensures))

pub lay_out_rounds-returns : goal.lay_out_rounds-returns
lay_out_rounds-returns t c =
    rw c.in_ok-new.ensures.ok (IsLaidOut-plus _ _ _ _ _ _ c.in_ok-member.ensures c.in_ok-place.ensures.place c.in_ok-place.ensures.count c.in_ok-place.ensures.others)

pub box_choice-returns : goal.box_choice-returns
box_choice-returns t c = rw c.in_ok-new.ensures.ok c.in_ok-layout.ensures

pub box_in_order-returns : goal.box_in_order-returns
box_in_order-returns t c = rw c.in_ok-new.ensures.ok c.in_ok-layout.ensures

pub lay_out_choice-returns-in_ok-second-in_default :
    goal.lay_out_choice-returns-in_ok-second-in_default
lay_out_choice-returns-in_ok-second-in_default t c =
    IsLaidOut-either _ c.args.parts.now _ _ _ _ _ _ c.count-middle.ensures (rw c.split_at.ensures.front at c.in_ok-first-in_default.ensures)
    (rw c.split_at.ensures.back at c.in_ok-second-in_default.ensures)

pub lay_out_in_order-returns-in_ok-second-in_default :
    goal.lay_out_in_order-returns-in_ok-second-in_default
lay_out_in_order-returns-in_ok-second-in_default t c =
    IsLaidOut-in_order _ c.args.parts.now _ _ _ _ _ _ c.count-middle.ensures _ _
    (rw c.deref.ensures at c.may_be_empty.ensures)
    (rw c.deref-in_default.ensures at c.may_be_empty-in_default.ensures)
    (rw c.split_at.ensures.front at c.in_ok-first-in_default.ensures) (rw c.split_at.ensures.back at c.in_ok-second-in_default.ensures)

pub lay_out_choice-box_choice-requires : goal.lay_out_choice-box_choice-requires
lay_out_choice-box_choice-requires t c =
    let parts = c.args.parts.now in
    let less : weights (plain_parts c.split_at.result.0.now) < weights (plain_parts parts) = rw c.split_at.ensures.front (first_half-< (length parts / 2) parts (omega arith)) in
    (omega (arith, less, c.decreases), tt)

pub lay_out_choice-box_choice-requires-in_default :
    goal.lay_out_choice-box_choice-requires-in_default
lay_out_choice-box_choice-requires-in_default t c =
    let parts = c.args.parts.now in
    let less : weights (plain_parts c.split_at.result.1.now) < weights (plain_parts parts) = rw c.split_at.ensures.back (second_half-< (length parts / 2) parts (omega arith) (omega arith)) in
    (omega (arith, less, c.decreases), tt)

pub lay_out_in_order-box_in_order-requires : goal.lay_out_in_order-box_in_order-requires
lay_out_in_order-box_in_order-requires t c =
    let parts = c.args.parts.now in
    let less : weights (plain_parts c.split_at.result.0.now) < weights (plain_parts parts) = rw c.split_at.ensures.front (first_half-< (length parts / 2) parts (omega arith)) in
    (omega (arith, less, c.decreases), tt)

pub lay_out_in_order-box_in_order-requires-in_default :
    goal.lay_out_in_order-box_in_order-requires-in_default
lay_out_in_order-box_in_order-requires-in_default t c =
    let parts = c.args.parts.now in
    let less : weights (plain_parts c.split_at.result.1.now) < weights (plain_parts parts) = rw c.split_at.ensures.back (second_half-< (length parts / 2) parts (omega arith) (omega arith)) in
    (omega (arith, less, c.decreases), tt)
