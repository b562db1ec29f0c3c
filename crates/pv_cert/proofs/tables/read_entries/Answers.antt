use Rattle.std.proofs.Common.{ap, length, arith, ◌∷◌, []}
use Rattle.std.proofs.lemmas.List.{length-append}
use Rattle.pv_cert.proofs.TableLines.{entries-full, entry-read}
use Rattle.pv_cert.proofs.tables.read_entries.Goals as goal

pub returns-then-len-most-clause-refused : goal.returns-then-len-most-clause-refused
returns-then-len-most-clause-refused c =
    entries-full c.args.bytes.now c.entries.entries.items c.entries.last c.entries.rest.now
    c.in-Some.next c.in-Some.after.now c.args.most c.entries.invariant.read
    c.in-Some.ensures.entry (omega arith)

pub entries-preserved : goal.entries-preserved
entries-preserved c = record {
  read = rw c.in_ok-push.ensures.items (entry-read c.args.bytes.now c.entries.entries.items
      c.entries.last c.entries.rest.now c.in-Some.next c.in-Some.after.now c.entries.invariant.read
      c.in-Some.ensures.entry);
  few = omega (arith, c.entries.invariant.few, ap length c.in_ok-push.ensures.items, length-append c.entries.entries.items (c.in-Some.next ∷ []));
  within = omega (arith, c.in-Some.ensures.within, c.entries.invariant.within, ap length c.in_ok-push.ensures.items, length-append c.entries.entries.items (c.in-Some.next ∷ []));
}
