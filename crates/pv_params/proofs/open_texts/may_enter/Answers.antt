use Rattle.std.proofs.Common.{refl, sym, ◌∙◌}
use Rattle.pv_params.proofs.DeclarationsRead.{inside_is, is_inside_read}
use Rattle.pv_params.proofs.open_texts.may_enter.Goals as goal

pub returns-in-Inside-clause-may : goal.returns-in-Inside-clause-may
returns-in-Inside-clause-may c = λ yes_it_may is. inside_is c.args.text.now (sym c.is_inside.ensures ∙ yes_it_may)

pub returns-in-Inside-clause-may_not : goal.returns-in-Inside-clause-may_not
returns-in-Inside-clause-may_not c = λ may_not. (rw c.in-Inside.is refl, λ is. let some = is_inside_read c.args.text.now is in let none = sym c.is_inside.ensures ∙ may_not in cc)
