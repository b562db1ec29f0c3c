use Rattle.std.proofs.Common.{refl, subst}
use Rattle.pv_flat.specs.Plain.{plain_event}
use Rattle.pv_compare.specs.ReaderMoves.{PassesBy}
use Rattle.pv_compare.proofs.ComparedEvents.{past-compared, past-different, past-left-out}
use Rattle.pv_compare.proofs.comparing.Comparison.take.Goals as goal
use Rattle.pv_compare.proofs.comparing.Comparison.take.Goals.{else-stays-via-else-stays, else-stays-via-then-stays+else-self}

pub returns-then-self : goal.returns-then-self
returns-then-self c =
    let old = c.args.self.now in
    let e = plain_event c.args.event.now in
    let p = subst (λ b. PassesBy e b old.tags c.pass.new.self) c.if-stays.true c.in_ok-stays.ensures in
    record { past = λ marks other given i. past-compared marks other given e old _ i p c.if-self.true c.take-self.result refl c.take-self.ensures; next = p.next }

pub returns-else-stays : goal.returns-else-stays
returns-else-stays c =
    let old = c.args.self.now in
    let e = plain_event c.args.event.now in
    elim c.else-stays.branch [
      | else-stays-via-then-stays+else-self w ↦
          (let p = subst (λ b. PassesBy e b old.tags c.pass.new.self) w.if-stays.true c.in_ok-stays.ensures in
          record { past = λ marks other given i. past-different marks other given e old _ i p w.if-self.false w.if-self.false; next = p.next })
      | else-stays-via-else-stays w ↦
          (let p = subst (λ b. PassesBy e b old.tags c.pass.new.self) w.if-stays.false c.in_ok-stays.ensures in
          record { past = λ marks other given i. past-left-out marks other given e old _ i p refl refl; next = p.next })
    ]
