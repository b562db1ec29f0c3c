use Rattle.std.proofs.lemmas.Result.{IfOk-weaker}
use Rattle.pv_complete.proofs.missing.widths.first_wide_list.Goals as goal

pub returns : goal.returns
returns c = IfOk-weaker c.first_list.result _ _ (λ found h root are. h root are) c.first_list.ensures
