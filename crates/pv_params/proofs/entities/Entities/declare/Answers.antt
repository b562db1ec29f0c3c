use Rattle.pv_params.proofs.EntitiesKept.{entity_kept, entity_known}
use Rattle.pv_params.proofs.entities.Entities.declare.Goals as goal

pub returns-in-Some : goal.returns-in-Some
returns-in-Some c = entity_known c.args.self.now c.args.name.items c.args.text.items c.as_slice.result.now _ c.as_slice.ensures.value c.in-Some.ensures

pub returns-in_ok-insert-in-None : goal.returns-in_ok-insert-in-None
returns-in_ok-insert-in-None c = entity_kept c.self.inside.texts.entries c.insert.new.self.entries
    c.args.name c.args.text c.as_slice.result.now c.args.self.now c.self.view_is
    c.as_slice.ensures.value c.in-None.ensures c.in_ok-insert-in-None.ensures.entries
