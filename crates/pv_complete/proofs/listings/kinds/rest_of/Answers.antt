use Rattle.std.proofs.Common.{refl, sym}
use Rattle.pv_model.specs.Plain.{no_parts, part}
use Rattle.pv_productive.specs.PlainForms.{dtd_of}
use Rattle.pv_rules.proofs.FlatKinds.{followed_at, last_at, no_rest, outside_at}
use Rattle.pv_complete.proofs.KindFacts.{none_of_rest}
use Rattle.pv_complete.proofs.Ranks.{rest_site_of}
use Rattle.pv_complete.proofs.listings.kinds.rest_of.Goals as goal

pub returns-in_default-clause-none : goal.returns-in_default-clause-none
returns-in_default-clause-none c =
    let d = dtd_of c.args.grammar.now in
    none_of_rest d c.args.number (no_rest d c.args.number (sym c.in_default.ensures))

pub returns-in-Outside-clause-none : goal.returns-in-Outside-clause-none
returns-in-Outside-clause-none c =
    let d = dtd_of c.args.grammar.now in
    none_of_rest d c.args.number (outside_at d c.args.number c.in-Some.part (sym c.in-Some.ensures) c.in-Outside.is)

pub returns-in-Followed-clause-is : goal.returns-in-Followed-clause-is
returns-in-Followed-clause-is c =
    let d = dtd_of c.args.grammar.now in
    let a = followed_at d c.args.number c.in-Some.part (sym c.in-Some.ensures) c.in-Followed.is in
    (refl, refl, rest_site_of d c.args.number (part a.0 (part a.1 a.2)) a.3)

pub returns-in-Last-clause-is : goal.returns-in-Last-clause-is
returns-in-Last-clause-is c =
    let d = dtd_of c.args.grammar.now in
    let a = last_at d c.args.number c.in-Some.part (sym c.in-Some.ensures) c.in-Last.is in
    (refl, refl, rest_site_of d c.args.number (part a.0 no_parts) a.1)
