use Rattle.std.proofs.Common.{Some, sym, ap, ◌∙◌}
use Rattle.std.specs.Str.{bytes_eq}
use Rattle.pv_words.proofs.PathWords.{between_dots-front, between_dots-last, place-read, last-read, none-read}
use Rattle.pv_words.proofs.paths.written_path.Goals as goal

pub returns-in_default-written_number : goal.returns-in_default-written_number
returns-in_default-written_number c =
    let at = between_dots-front c.places.rest.now c.in-Some.number.now c.in-Some.after.now c.in-Some.ensures in
    none-read c.args.word.now c.places.places.items c.places.rest.now c.in-Some.number.now _
    (ap (bytes_eq c.args.word.now) (sym c.as_slice.ensures) ∙ sym c.if-eq.ensures)
    c.places.invariant at c.in_default-written_number.ensures

pub places-preserved : goal.places-preserved
places-preserved c =
    let at = between_dots-front c.places.rest.now c.in-Some.number.now c.in-Some.after.now c.in-Some.ensures in
    rw c.in_ok-push.ensures.items
    (place-read c.args.word.now c.places.places.items c.places.rest.now c.in-Some.number.now c.in-Some.after.now c.in-Some-written_number.place c.places.invariant at c.in-Some-written_number.ensures)

pub returns-in_default-written_number-2 : goal.returns-in_default-written_number-2
returns-in_default-written_number-2 c =
    let at = between_dots-last c.places.rest.now c.in_default.ensures in
    none-read c.args.word.now c.places.places.items c.places.rest.now c.places.rest.now _
    (ap (bytes_eq c.args.word.now) (sym c.as_slice.ensures) ∙ sym c.if-eq.ensures)
    c.places.invariant at c.in_default-written_number-2.ensures

pub returns : goal.returns
returns c =
    let at = between_dots-last c.places.rest.now c.in_default.ensures in
    last-read c.args.word.now c.places.places.items c.places.rest.now
    c.in-Some-written_number-2.place (ap (bytes_eq c.args.word.now) (sym c.as_slice.ensures)
    ∙ sym c.if-eq.ensures) c.places.invariant at c.in-Some-written_number-2.ensures
    ∙ ap Some (sym (c.in_ok-new-2.ensures ∙ c.deref.ensures.value ∙ c.in_ok-push-2.ensures.items))
