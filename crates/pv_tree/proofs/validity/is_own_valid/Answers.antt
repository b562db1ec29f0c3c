use Rattle.std.proofs.Common.{◌≡◌, Some, ap, ◌∙◌, sym}
use Rattle.pv_model.specs.PlainForms.{plain_model}
use Rattle.pv_model.specs.Plain.{empty}
use Rattle.pv_dtd.specs.Plain.{number_of}
use Rattle.pv_dtd.specs.PlainForms.{plain_dtd}
use Rattle.pv_tree.proofs.Owners.{model_for, own_valid-empty}
use Rattle.pv_tree.proofs.validity.is_own_valid.Goals as goal

pub returns-in-Empty : goal.returns-in-Empty
returns-in-Empty c =
    let g = plain_dtd c.args.dtd.now in
    let is : model_for g (number_of g c.args.name.now) ≡ Some empty = sym c.in-Some.ensures ∙ ap (λ m. Some (plain_model m)) (sym c.model.ensures ∙ c.in-Empty.is) in
    rw c.is_empty.ensures (own_valid-empty g (number_of g c.args.name.now) c.args.kids.now is)
