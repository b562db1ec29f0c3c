use Rattle.std.proofs.Common.{◌∙◌, ◌∷◌, [], ap, sym, subst}
use Rattle.pv_flat.specs.ComingEvents.{EventsCome}
use Rattle.pv_flat.specs.Plain.{begin_element}
use Rattle.pv_flat.proofs.EnteredRoot.{entered, entered-short}
use Rattle.pv_flat.specs.declared.state.Stage.TheVariants as stage
use Rattle.pv_flat.proofs.States.{comes-as, pushed-names, same-names}
use Rattle.pv_flat.proofs.state.Events.enter.Goals as goal

pub returns-then-opening-clause-leads : goal.returns-then-opening-clause-leads
returns-then-opening-clause-leads c = λ es end given.
    let p = c.pass_tag.ensures in
    let tag = c.args.opening.now in
    let comes = comes-as c.pass_tag.new.self stage.StopDue p.at_stage es end given in
    subst (λ l. EventsCome c.args.self.now (begin_element tag.tag.name.now tag.tag.attrs.now ∷ l) end) (sym comes.1)
    (entered-short c.args.self.now c.pass_tag.new.self tag c.requires.opens c.requires.fresh p.root p.before p.rest p.count comes.0 end comes.2 c.if-opening.true
    (same-names [] c.pass_tag.new.self.elements.items (p.open_elements ∙ (c.args.self.now.none_open c.requires.fresh))))

pub returns-clause-leads : goal.returns-clause-leads
returns-clause-leads c = λ es end given.
    let p = c.pass_tag-2.ensures in
    let tag = c.args.opening.now in
    let comes = comes-as c.pass_tag-2.new.self stage.Inside p.at_stage es end given in
    entered c.args.self.now c.pass_tag-2.new.self tag c.requires.opens c.requires.fresh p.root p.before p.rest p.count es end comes c.if-opening.false
    (pushed-names c.args.self.now.elements.items c.push.new.self.items c.pass_tag-2.new.self.elements.items tag.tag.name c.in_ok-push.ensures.items p.open_elements
    ∙ ap (λ l. tag.tag.name.now ∷ l) (same-names [] c.args.self.now.elements.items ((c.args.self.now.none_open c.requires.fresh))))
