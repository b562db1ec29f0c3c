use Rattle.std.proofs.Common.{ap, refl, sym, ◌∙◌}
use Rattle.pv_dtd.specs.Plain.{number_of}
use Rattle.pv_productive.specs.PlainForms.{dtd_of}
use Rattle.pv_denial.proofs.causes.has_name.Goals as goal

pub returns-in-Some : goal.returns-in-Some
returns-in-Some c = λ root list is. ((λ t. (c.in-Some._id.0, ap (λ n. number_of (dtd_of c.args.grammar.now) n) is.name ∙ sym c.in-Some.ensures.named)), (λ h. refl))
