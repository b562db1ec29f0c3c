use Rattle.std.proofs.Common.{arith, subst, suc, sym, ℕ, ◌+◌, ◌-◌, ◌∙◌, ◌≡◌}
use Rattle.pv_rules.proofs.FlatKinds.{followed_at, last_at, no_rest, outside_at}
use Rattle.pv_productive.specs.PlainForms.{dtd_of}
use Rattle.pv_reach.specs.ReachedPlaces.{past_column, past_rest}
use Rattle.pv_reach.proofs.MemberRows.{past_last, past_more, past_none, past_outside}
use Rattle.pv_reach.proofs.tables.rests.members_past.Goals as goal

pub returns-in_default : goal.returns-in_default
returns-in_default c = λ ps h.
    let g = dtd_of c.args.grammar.now in
    past_outside g c.args.ends.now c.args.number c.args.from ps (no_rest g c.args.number (sym c.part_of.ensures ∙ c.in_default.is)) h

pub returns-in-Outside : goal.returns-in-Outside
returns-in-Outside c = λ ps h.
    let g = dtd_of c.args.grammar.now in
    past_outside g c.args.ends.now c.args.number c.args.from ps (outside_at g c.args.number c.in-Some.part (sym c.part_of.ensures ∙ c.in-Some.is) c.in-Outside.is) h

pub returns-in-Last : goal.returns-in-Last
returns-in-Last c = λ ps h.
    let g = dtd_of c.args.grammar.now in
    let a = last_at g c.args.number c.in-Some.part (sym c.part_of.ensures ∙ c.in-Some.is) c.in-Last.is in
    c.part_past.ensures ∙ past_last g c.args.ends.now c.args.number c.args.from c.requires.names a.0 ps a.1 h

pub returns-in-0 : goal.returns-in-0
returns-in-0 c = λ ps h.
    let g = dtd_of c.args.grammar.now in
    let a = followed_at g c.args.number c.in-Some.part (sym c.part_of.ensures ∙ c.in-Some.is) c.in-Followed.is in
    past_none g c.args.ends.now c.args.number c.args.from c.requires.names a.0 a.1 a.2 ps a.3 h (sym c.part_past-in-Followed.ensures ∙ c.in-0.is)

pub returns-in_default-part_past : goal.returns-in_default-part_past
returns-in_default-part_past c = λ ps h.
    let g = dtd_of c.args.grammar.now in let e = c.args.ends.now in
    let a = followed_at g c.args.number c.in-Some.part (sym c.part_of.ensures ∙ c.in-Some.is) c.in-Followed.is in
    let k = c.part_past-in-Followed.result - 1 in
    let some : past_column e (e.names + c.args.number) c.args.from ≡ suc k = (let z = c.part_past-in-Followed.ensures in omega arith) in
    let P : ℕ → Type 0 = λ v. c.rest_past.result ≡ past_rest e c.args.rests.now v k in
    subst P a.4 c.rest_past.ensures ∙ past_more g e c.args.number c.args.from c.requires.names a.0 a.1 a.2 ps k c.args.rests.now a.3 h some c.requires.table c.requires.rests
