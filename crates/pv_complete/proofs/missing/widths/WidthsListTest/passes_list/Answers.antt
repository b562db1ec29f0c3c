use Rattle.std.proofs.Common.{refl}
use Rattle.std.proofs.lemmas.Result.{IfOk-weaker}
use Rattle.pv_tree.specs.Walks.{list_given}
use Rattle.pv_complete.proofs.missing.widths.WidthsListTest.passes_list.Goals as goal

pub returns : goal.returns
returns c = λ path. IfOk-weaker c.can_weigh.result _ _ (λ can is. is (list_given path c.args.list.now) refl) c.can_weigh.ensures
