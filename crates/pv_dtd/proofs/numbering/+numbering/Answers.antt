use Rattle.std.proofs.Common.{◌++◌, ◌∷◌, [], take, sym, ap, subst, ◌∙◌, ◌≡◌, rules, arith}
use Rattle.std.proofs.lemmas.List.{take_more}
use Rattle.pv_model.specs.Plain as plain
use Rattle.pv_model.specs.PlainForms.{plain_part}
use Rattle.pv_dtd.specs.NamedForms.{named_part}
use Rattle.pv_model.specs.declared.models.Part.{Name}
use Rattle.pv_model.specs.declared.models.Part.{the_lemmas as part_lemmas}
use Rattle.pv_dtd.specs.declared.items.SpelledPart.{the_lemmas}
use Rattle.pv_dtd.specs.declared.items.SpelledPart.{Name as SpelledName}
use Rattle.pv_dtd.specs.Items.{name}
use Rattle.pv_dtd.specs.Numbering.{with_numbers, number_among}
use Rattle.pv_dtd.specs.NameOrder.{AreFirstIn}
use Rattle.pv_dtd.proofs.GrowingNames.{number_stays, parts_step}
use Rattle.pv_dtd.proofs.numbering.+numbering.Goals as goal

pub part_of-returns-in_ok-number-in-Name-clause-numbers : goal.part_of-returns-in_ok-number-in-Name-clause-numbers
part_of-returns-in_ok-number-in-Name-clause-numbers t c =
    let word : named_part (SpelledName c.in-Name.name) ≡ name c.in-Name.name.now = search (rules, the_lemmas) in
    let is : named_part c.args.part.now ≡ name c.in-Name.name.now = ap named_part c.in-Name.is ∙ word in
    let given : plain_part (Name c.in_ok-number-in-Name.field-0) ≡ plain.name c.in_ok-number-in-Name.field-0.0 = search (rules, part_lemmas) in
    λ more g. ap (with_numbers (number_among more)) is
    ∙ ap plain.name (number_stays c.args.names.now c.in-Name.name.now more
    (subst (λ ns. AreFirstIn ns more) c.in_ok-number-in-Name.ensures.names g)
    ∙ sym c.in_ok-number-in-Name.ensures.number) ∙ sym given

pub parts_of-loop-member-preserved : goal.parts_of-loop-member-preserved
parts_of-loop-member-preserved t c =
    let more = take_more c.args.members.now c.loop-member.member-index c.member-item.result
    (omega arith) ∙ ap (λ m. take c.loop-member.member-index c.args.members.now ++ m ∷ [])
    (sym c.member-item.is) in
    let step = parts_step named_part plain_part _ _ _ _ _ _ _ _ _ more c.in_ok-part_of.ensures.names
    c.in_ok-part_of.ensures.numbers c.in_ok-push.ensures.items c.loop-member.invariant.names
    c.loop-member.invariant.numbers in
    record { names = step.0; numbers = step.1 }
