use Rattle.std.proofs.Common.{ap, length, arith, ◌∷◌, []}
use Rattle.std.proofs.lemmas.List.{length-append}
use Rattle.pv_cert.proofs.LineSequences.{marks-more}
use Rattle.pv_cert.proofs.reading.read_marks.Goals as goal

pub marks-preserved : goal.marks-preserved
marks-preserved c = record {
  stand = rw c.in_ok-push.ensures.items (marks-more c.args.bytes.now c.marks.marks.items c.marks.rest.now c.in-Some.mark c.in-Some.after.now c.marks.invariant.stand c.in-Some.ensures.mark);
  within = omega (arith, c.in-Some.ensures.within, c.marks.invariant.within, ap length c.in_ok-push.ensures.items, length-append c.marks.marks.items (c.in-Some.mark ∷ []));
}
