use Rattle.std.proofs.Common.{refl, sym, ◌∙◌, arith}
use Rattle.std.proofs.lemmas.List.{with_items_is}
use Rattle.pv_model.specs.PlainForms.{plain_part}
use Rattle.pv_rematch.proofs.ReadStates.{after_more, never_on}
use Rattle.pv_rematch.proofs.states.State.read.Goals as goal

pub returns-clause-next : goal.returns-clause-next
returns-clause-next c = λ u h on.
    let moved = c.advance-moved in
    let items =
    with_items_is c.args.self.now.positions moved.new.positions
    (omega (
      arith,
      moved.auto.positions,
      c.deref_mut.ensures.len,
      c.args.self.now.positions.ok.0,
    )) in
    let value = c.deref_mut.ensures.value in
    after_more (plain_part c.args.part.now) u c.args.self.now _ c.args.name.0 h
    (rw value at (sym moved.ensures.is_reached ∙ on)) refl (rw value at moved.ensures.is_end)
    (items ∙ rw value at moved.ensures.positions)

pub returns-clause-lost : goal.returns-clause-lost
returns-clause-lost c = λ u v h none.
    let moved = c.advance-moved in
    never_on (plain_part c.args.part.now) u c.args.self.now c.args.self.now c.args.name.0 h
    (rw c.deref_mut.ensures.value at (sym moved.ensures.is_reached ∙ none)) v
