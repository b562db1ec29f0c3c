use Rattle.std.proofs.Common.{[], map, subst, sym, ◌∙◌, ◌∷◌}
use Rattle.std.proofs.lemmas.List.{map-append}
use Rattle.std.proofs.lemmas.Result.{err_from_is_err_and}
use Rattle.pv_flat.specs.Plain.{plain_event}
use Rattle.pv_compare.specs.ReadEvents.{HasGiven}
use Rattle.pv_compare.proofs.GivenEvents.{given-all, given-more, given-refused}
use Rattle.pv_compare.proofs.reading.EventParts.of.Goals as goal

pub returns-in_err-event-clause-refused : goal.returns-in_err-event-clause-refused
returns-in_err-event-clause-refused c =
    let from = err_from_is_err_and c.from_residual-in_err-event.result c.from_residual-in_err-event.ensures.1 in
    rw (from.1, from.2) (given-refused c.args.root.now c.args.bytes.now _ c.events.events c.events.invariant _ c.in_err-event.ensures.answers.0)

pub events-preserved : goal.events-preserved
events-preserved c =
    let leads = rw c.in-Some.is at c.in_ok-event.ensures.answers in
    let more = given-more c.args.root.now c.args.bytes.now _ c.events.events c.events.invariant (plain_event c.in-Some.event) c.next.new.self leads in
    subst (λ l. HasGiven c.args.root.now c.args.bytes.now (map plain_event l) c.next.new.self) (sym c.in_ok-push.ensures.items)
    (subst (λ l. HasGiven c.args.root.now c.args.bytes.now l c.next.new.self) (sym (map-append plain_event c.events.found.items (c.in-Some.event ∷ []))) more)

pub returns-clause-read : goal.returns-clause-read
returns-clause-read c =
    let ends = rw c.in_default.is at c.in_ok-event.ensures.answers in
    let t = given-all c.args.root.now c.args.bytes.now _ c.events.events c.events.invariant c.next.new.self ends.0 ends.1 in
    record { doc = t.0; is_text = t.1; are = record { is_before = t.3 ∙ sym c.before-2.ensures; is_events = t.2; is_after = t.4 ∙ sym c.rest.ensures } }
