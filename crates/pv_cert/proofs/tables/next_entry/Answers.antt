use Rattle.std.proofs.Common.{◌≡◌, true}
use Rattle.pv_cert.proofs.EntryOrder.{none-follows}
use Rattle.pv_cert.proofs.tables.next_entry.Goals as goal

pub returns-then-not-follows-clause-entry : goal.returns-then-not-follows-clause-entry
returns-then-not-follows-clause-entry c =
    none-follows c.args.bytes.now c.in_ok-next.rest.now c.in_ok-next.next c.args.last c.in_ok-next.ensures.entry
    (λ f. let t : c.follows.result ≡ true = c.follows.ensures.1 f in cc)
