use Rattle.std.proofs.Common.{◌≡◌, [], sym, ◌∙◌, length, eqb-true}
use Rattle.pv_model.specs.PlainForms.{plain_part}
use Rattle.pv_model.proofs.Answer.{read-means}
use Rattle.pv_model.proofs.LongAnswer.{no_elements}
use Rattle.pv_model.proofs.children.has_children.Goals as goal

pub returns-then-is_empty : goal.returns-then-is_empty
returns-then-is_empty c =
    let none : c.args.word.now ≡ [] = no_elements c.args.word.now (eqb-true (length c.args.word.now) 0 (sym c.is_empty.ensures ∙ c.if-is_empty.true)) in
    rw (none, c.may_be_empty.ensures) (read-means (plain_part c.args.part.now) [])
