use Rattle.std.proofs.Common.{Some, ap, slice_get, sym, ◌∙◌, ◌≡◌}
use Rattle.std.proofs.lemmas.Option.{slice_get-get_or}
use Rattle.pv_check.proofs.known.KnownVerdicts.find.Goals as goal

pub returns-then-is_of : goal.returns-then-is_of
returns-then-is_of c = λ s g all.
    let number = c.in_ok-number.field-0.now in
    let entry = c.in_ok-entry.entry.now in
    let entries = c.deref-2.result.now in
    let h = c.in_ok-entry.ensures.lookup in
    let found : slice_get entries number ≡ Some entry =
    slice_get-get_or entries number entry h.3.0 ∙ ap Some (sym h.1) in
    let here : slice_get c.args.self.now.entries.items number ≡ Some entry =
    rw c.deref-2.ensures.value at found in
    let p = c.is_of.ensures c.if-is_of.true in
    rw (p.0, p.1, p.2) at (all number entry here)
