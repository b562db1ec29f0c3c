use Rattle.std.proofs.Common.{[]}
use Rattle.std.proofs.lemmas.Result.{IfOk-weaker}
use Rattle.pv_fresh.proofs.widths.first_too_wide.Goals as goal

pub returns : goal.returns
returns c = IfOk-weaker c.first_list.result _ _ (λ found h. h [] tt) c.first_list.ensures
