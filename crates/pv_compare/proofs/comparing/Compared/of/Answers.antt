use Rattle.std.proofs.Common.{IsTrue, [], ap, arith, map, subst, sym, ◌++◌, ◌∙◌, ◌∷◌, ◌↔◌}
use Rattle.std.proofs.lemmas.Result.{err_from_is_err_and}
use Rattle.pv_read.specs.Meaning.{long}
use Rattle.pv_flat.specs.Plain.{plain_event}
use Rattle.pv_compare.specs.LeftOut.{LeavesEvents}
use Rattle.pv_compare.proofs.GivenEvents.{given-all, given-more, given-refused}
use Rattle.pv_compare.specs.ReadEvents.{is_plain_start, plain_starts}
use Rattle.pv_compare.proofs.PlainElements.{plain-push, plain-tree}
use Rattle.pv_compare.proofs.comparing.Compared.of.Goals as goal

pub events-preserved : goal.events-preserved
events-preserved c =
    let i = c.events.invariant in
    let e = plain_event c.in-Some.event in
    let leads = rw c.in-Some.is at c.in_ok-event.ensures.answers in
    let less = rw c.in-Some.is at c.in_ok-event.ensures.leaves_less in
    let moves = c.in_ok-take.ensures in
    let next = moves.next in (
      i.0 ++ e ∷ [],
      given-more c.args.root.now c.args.bytes.now i.0 c.events.events i.1 e c.next.new.self leads,
      moves.past c.args.marks.now (map plain_event c.args.other.now) i.0 i.2,
      omega (arith, less, next, i.3),
      c.in_ok-note.ensures ∙ ap (λ l. l ++ is_plain_start e) i.4 ∙ sym (plain-push i.0 e),
    )

pub returns-in_err-event-clause-refused : goal.returns-in_err-event-clause-refused
returns-in_err-event-clause-refused c =
    let from = err_from_is_err_and c.from_residual-in_err-event.result c.from_residual-in_err-event.ensures.1 in
    rw (from.1, from.2) (given-refused c.args.root.now c.args.bytes.now c.events.invariant.0 c.events.events c.events.invariant.1 _ c.in_err-event.ensures.answers.0)

pub returns-clause-compared : goal.returns-clause-compared
returns-clause-compared c =
    let i = c.events.invariant in
    let other = map plain_event c.args.other.now in
    let ends = rw c.in_default.is at c.in_ok-event.ensures.answers in
    let t = given-all c.args.root.now c.args.bytes.now i.0 c.events.events i.1 c.next.new.self ends.0 ends.1 in
    record {
      doc = t.0;
      is_text = t.1;
      is_before = t.3 ∙ sym c.before-2.ensures;
      is_after = t.4 ∙ sym c.rest.ensures;
      leaves = subst (λ l. IsTrue c.is_whole.result ↔ LeavesEvents c.args.marks.now l other) (sym t.2) (c.is_whole.ensures c.args.marks.now other i.0 i.2);
      are = i.4 ∙ ap plain_starts (sym t.2) ∙ plain-tree t.0.root;
    }

pub returns-then-bytes-gt-MAX_FLAT_BYTES-clause-refused : goal.returns-then-bytes-gt-MAX_FLAT_BYTES-clause-refused
returns-then-bytes-gt-MAX_FLAT_BYTES-clause-refused c = long (omega (arith, c.if-bytes-gt-MAX_FLAT_BYTES.true))
