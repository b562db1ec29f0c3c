use Rattle.pv_deny.proofs.Outcomes.{one_outcome}
use Rattle.pv_deny.proofs.laws.one_outcome_law.Goals as goal

pub returns : goal.returns
returns g c = λ d root doc o p proper proper_doc. one_outcome _ c.one_list_at_path_law.ensures c.one_live_word_law.ensures c.live_lists_law.ensures d root doc proper proper_doc o p
