use Rattle.std.proofs.Common.{ap, ◌∙◌}
use Rattle.pv_dtd.specs.Plain.{PlainDtd, number_of}
use Rattle.pv_productive.specs.PlainForms.{dtd_of}
use Rattle.pv_denial.proofs.ListJudgements.{known_id}
use Rattle.pv_denial.proofs.causes.owner_id.Goals as goal

pub returns-clause-known : goal.returns-clause-known
returns-clause-known c = known_id (dtd_of c.args.grammar.now).names c.args.place.now.name.now
    c.name_id.result (c.name_id.ensures
    ∙ ap (λ (d : PlainDtd). number_of d c.args.place.now.name.now) c.dtd.ensures)
