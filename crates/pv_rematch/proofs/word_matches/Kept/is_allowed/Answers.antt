use Rattle.std.proofs.Common.{refl}
use Rattle.pv_rematch.proofs.KeptAnswers.{count_answers, points_answer}
use Rattle.pv_rematch.proofs.word_matches.Kept.is_allowed.Goals as goal

pub returns-in-Count : goal.returns-in-Count
returns-in-Count c = λ d m w k.
    let h = rw c.in-Count.is at k in
    count_answers d m w c.in-Count.count _ refl h.0 h.1

pub returns-in-Points : goal.returns-in-Points
returns-in-Points c = λ d m w k. points_answer d m w c.in-Points.points (rw c.in-Points.is at k)
