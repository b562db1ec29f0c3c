use Rattle.std.proofs.Common.{arith, length, set, subst, sym, ℕ, ◌+◌, ◌≤◌}
use Rattle.pv_productive.specs.PlainForms.{dtd_of}
use Rattle.pv_reach.proofs.MemberRows.{IsFilled, filled_more, filled_row}
use Rattle.pv_reach.proofs.tables.rests.fill_rest.Goals as goal

pub loop-from-preserved : goal.loop-from-preserved
loop-from-preserved c =
    let g = dtd_of c.args.grammar.now in let e = c.args.ends.now in let v = c.members_past-past.result in
    let le : c.loop-from.from ≤ length e.word.items = omega arith in
    let P : ℕ → Type 0 = λ k. IsFilled g e (set c.loop-from.rests k v) c.args.number (c.loop-from.from + 1) in
    subst P (sym c.rest_place.ensures)
    (filled_more g e c.loop-from.rests c.args.number c.loop-from.from v c.requires.number le c.loop-from.invariant (λ ps h. c.members_past-past.ensures ps h) (c.loop-from.from + 1) (omega arith))

pub returns : goal.returns
returns c = filled_row (dtd_of c.args.grammar.now) c.args.ends.now c.loop-from.rests c.args.number c.loop-from.from (omega arith) c.loop-from.invariant
