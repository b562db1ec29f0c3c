use Rattle.pv_deny.proofs.Outcomes.{not_too_many, same_denial}
use Rattle.pv_deny.proofs.laws.one_denial_law.Goals as goal

pub returns : goal.returns
returns g c = λ d root doc.
    let paths = c.one_list_at_path_law.ensures in
    let words = c.one_live_word_law.ensures in
    (same_denial _ paths words d root doc, not_too_many _ paths words d root doc)
