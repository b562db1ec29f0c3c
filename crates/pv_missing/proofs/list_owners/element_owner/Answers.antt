use Rattle.std.proofs.Common.{sym}
use Rattle.std.proofs.lemmas.Option.{slice_get_within}
use Rattle.pv_dtd.specs.PlainForms.{plain_dtd}
use Rattle.pv_dtd.proofs.NameSequences.{get-place}
use Rattle.pv_missing.proofs.list_owners.element_owner.Goals as goal

pub returns-in-Some-clause-known : goal.returns-in-Some-clause-known
returns-in-Some-clause-known c =
    let names = (plain_dtd c.args.dtd.now).names in
    slice_get_within names c.in-Some.id.0 c.args.name.now (get-place names c.args.name.now c.in-Some.id.0 (sym c.in-Some.ensures))
