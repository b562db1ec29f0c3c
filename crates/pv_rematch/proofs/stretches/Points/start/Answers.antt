use Rattle.pv_model.specs.PlainForms.{plain_part}
use Rattle.pv_rematch.proofs.TurnedPoints.{after_point}
use Rattle.pv_rematch.proofs.stretches.Points.start.Goals as goal

pub returns-then-len-clause-after : goal.returns-then-len-clause-after
returns-then-len-clause-after c = λ u l.
    let e = c.in_ok-state-2.ensures in
    after_point (plain_part c.args.part.now) c.args.self.now.items.items
    c.points_before-known.result.count u c.index.result.now _ c.if-known-gt0.true
    (rw c.as_slice.ensures.value at c.points_before-known.ensures.within) c.index.ensures
    e.start e.end e.positions l
