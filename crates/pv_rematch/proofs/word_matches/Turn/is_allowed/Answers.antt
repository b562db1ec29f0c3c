use Rattle.pv_rematch.proofs.KeptAnswers.{word_answer}
use Rattle.pv_rematch.proofs.word_matches.Turn.is_allowed.Goals as goal

pub returns-in-Part : goal.returns-in-Part
returns-in-Part c = λ d m w word_match t.
    let k = rw c.in-Part.is at t.is in
    word_answer d m w k.0 c.in-Part.stretch.is_allowed k.2 k.4.answer
