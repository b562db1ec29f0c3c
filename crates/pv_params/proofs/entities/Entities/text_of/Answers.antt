use Rattle.std.proofs.Common.{Some, ap, ◌∙◌}
use Rattle.pv_params.specs.Meaning.{text_of}
use Rattle.pv_params.proofs.EntitiesKept.{text_found, no_text_found}
use Rattle.pv_params.proofs.entities.Entities.text_of.Goals as goal

pub returns-in-Some : goal.returns-in-Some
returns-in-Some c = ap Some c.as_slice.ensures.value ∙ text_found c.args.name.now c.self.inside.texts.entries c.in-Some.text.now c.in-Some.ensures.value ∙ ap (text_of c.args.name.now) c.self.view_is

pub returns-in-None : goal.returns-in-None
returns-in-None c = no_text_found c.args.name.now c.self.inside.texts.entries c.in-None.ensures.value ∙ ap (text_of c.args.name.now) c.self.view_is
