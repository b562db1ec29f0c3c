use Rattle.std.proofs.Common.{Some, ap, slice_get, sym, ◌∙◌, ◌≡◌}
use Rattle.std.proofs.lemmas.Option.{slice_get-get_or}
use Rattle.pv_complete.proofs.missing.known.KnownWeights.entry.Goals as goal

pub returns-then-is_of : goal.returns-then-is_of
returns-then-is_of c = λ g all.
    let entry = c.in_ok-entry.entry.now in
    let entries = c.deref.result.now in
    let h = c.in_ok-entry.ensures.lookup in
    let found : slice_get entries c.loop-look.at ≡ Some entry = slice_get-get_or entries c.loop-look.at entry h.3.0 ∙ ap Some (sym h.1) in
    let here : slice_get c.args.self.now.entries.items c.loop-look.at ≡ Some entry =
    rw c.deref.ensures.value at found in
    let p = c.is_of.ensures c.if-is_of.true in
    rw (p.0, p.1) at (all c.loop-look.at entry here)
