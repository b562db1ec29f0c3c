use Rattle.std.proofs.Common.{◌∙◌, sym, subst, ◌∷◌, arith}
use Rattle.pv_read.specs.Items.{comment_or_instruction, cdata_section, start_tag, empty_tag, end_tag, text_run}
use Rattle.pv_flat.specs.ComingEvents.{EventsCome}
use Rattle.pv_flat.specs.Plain.{begin_element}
use Rattle.pv_flat.specs.declared.state.Stage.TheVariants as stage
use Rattle.pv_flat.proofs.States.{comes-as, passed, popped-names, pushed-names, same-names}
use Rattle.pv_flat.proofs.state.Events.take.Goals as goal

pub returns-in-CommentOrInstruction-clause-leads : goal.returns-in-CommentOrInstruction-clause-leads
returns-in-CommentOrInstruction-clause-leads c = λ es end comes.
    let p = c.pass.ensures in
    passed c.args.self.now c.pass.new.self
    (comment_or_instruction c.in-CommentOrInstruction.bytes.now) c.args.more.now
    c.requires.inside c.requires.some (rw c.in-CommentOrInstruction.is at c.requires.taken)
    p.root p.before p.rest p.count (same-names _ _ p.open_elements) es end (comes-as c.pass.new.self stage.Inside (p.at_stage ∙ c.requires.inside) es end comes)

pub returns-in-CdataSection-clause-leads : goal.returns-in-CdataSection-clause-leads
returns-in-CdataSection-clause-leads c = λ es end comes.
    let p = c.pass-in-CdataSection.ensures in
    passed c.args.self.now c.pass-in-CdataSection.new.self (cdata_section c.in-CdataSection.bytes.now) c.args.more.now c.requires.inside c.requires.some (rw c.in-CdataSection.is at c.requires.taken)
    p.root p.before p.rest p.count (same-names _ _ p.open_elements) es end (comes-as c.pass-in-CdataSection.new.self stage.Inside (p.at_stage ∙ c.requires.inside) es end comes)

pub returns-in-TextRun-clause-leads : goal.returns-in-TextRun-clause-leads
returns-in-TextRun-clause-leads c = λ es end comes.
    let p = c.pass-in-TextRun.ensures in
    passed c.args.self.now c.pass-in-TextRun.new.self (text_run c.in-TextRun.bytes.now) c.args.more.now c.requires.inside c.requires.some (rw c.in-TextRun.is at c.requires.taken)
    p.root p.before p.rest p.count (same-names _ _ p.open_elements) es end (comes-as c.pass-in-TextRun.new.self stage.Inside (p.at_stage ∙ c.requires.inside) es end comes)

pub returns-in_ok-push-in-StartTag-clause-leads : goal.returns-in_ok-push-in-StartTag-clause-leads
returns-in_ok-push-in-StartTag-clause-leads c = λ es end comes.
    let p = c.pass-in-StartTag.ensures in
    passed c.args.self.now c.pass-in-StartTag.new.self (start_tag c.in-StartTag.tag.name.now
    c.in-StartTag.tag.attrs.now) c.args.more.now c.requires.inside c.requires.some
    (rw c.in-StartTag.is at c.requires.taken)
    p.root p.before p.rest p.count (pushed-names c.args.self.now.elements.items _ _ c.in-StartTag.tag.name c.in_ok-push-in-StartTag.ensures.items p.open_elements) es end
    (comes-as c.pass-in-StartTag.new.self stage.Inside (p.at_stage ∙ c.requires.inside) es end comes)

pub returns-in-EmptyTag-clause-leads : goal.returns-in-EmptyTag-clause-leads
returns-in-EmptyTag-clause-leads c = λ es end comes.
    let p = c.pass-in-EmptyTag.ensures in
    let name = c.in-EmptyTag.tag.name.now in
    let attrs = c.in-EmptyTag.tag.attrs.now in
    subst (λ l. EventsCome c.args.self.now (begin_element name attrs ∷ l) end) (sym comes.1)
    (passed c.args.self.now c.pass-in-EmptyTag.new.self (empty_tag name attrs) c.args.more.now c.requires.inside c.requires.some (rw c.in-EmptyTag.is at c.requires.taken)
    p.root p.before p.rest p.count (same-names _ _ p.open_elements) comes.0 end comes.2)

pub returns-in-EndTag-clause-leads : goal.returns-in-EndTag-clause-leads
returns-in-EndTag-clause-leads c = λ es end comes.
    let p = c.pass-in-EndTag.ensures in
    passed c.args.self.now c.pass-in-EndTag.new.self (end_tag c.in-EndTag.name.now c.in-EndTag.gap.now) c.args.more.now c.requires.inside c.requires.some (rw c.in-EndTag.is at c.requires.taken)
    p.root p.before p.rest p.count
    (popped-names c.args.self.now.elements.items c.pop-name.new.self.items
    c.pass-in-EndTag.new.self.elements.items c.pop-name.result c.in-EndTag.name.now
    c.in-EndTag.gap.now c.pop-name.ensures.items p.open_elements
    (λ none. let z = rw none at c.pop-name.ensures.cases in omega (arith, z.0)) c.requires.some)
    es end (comes-as c.pass-in-EndTag.new.self stage.Inside (p.at_stage ∙ c.requires.inside) es end comes)
