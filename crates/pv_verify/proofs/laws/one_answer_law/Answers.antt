use Rattle.pv_verify.proofs.OneAnswer.{one_answer}
use Rattle.pv_verify.proofs.laws.one_answer_law.Goals as goal

pub returns : goal.returns
returns g c = one_answer _ c.one_meaning_law.ensures
