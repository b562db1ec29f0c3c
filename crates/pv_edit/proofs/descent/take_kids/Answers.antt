use Rattle.std.proofs.Common.{ap, ◌∙◌}
use Rattle.pv_tree.specs.Places.{kids_of}
use Rattle.pv_tree.specs.declared.nodes.Node.{Node}
use Rattle.pv_tree.specs.PlainForms.{plain}
use Rattle.pv_tree.proofs.Levels.{kids_of-Elem}
use Rattle.pv_edit.proofs.descent.take_kids.Goals as goal

pub returns-clause-taken : goal.returns-clause-taken
returns-clause-taken c = kids_of-Elem c.in-Elem.name c.in-Elem.attrs c.in-Elem.end c.in-Elem.kids c.in-Elem.mark ∙ ap (λ (n : Node). kids_of (plain n)) c.in-Elem.ensures.value
