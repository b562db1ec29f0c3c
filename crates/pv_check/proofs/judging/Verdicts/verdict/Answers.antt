use Rattle.std.proofs.Common.{◌∙◌}
use Rattle.std.proofs.lemmas.Bool.Decides.{Decides-ltb}
use Rattle.std.proofs.lemmas.Result.{IfOk-weaker}
use Rattle.pv_dtd.specs.Plain.{number_of}
use Rattle.pv_productive.specs.PlainForms.{dtd_of}
use Rattle.pv_tree.specs.Lists.{an_element}
use Rattle.pv_tree.specs.Plain.{forest_of}
use Rattle.pv_check.proofs.ListsByWords.{bare_by, judged_as, site_by_token}
use Rattle.pv_check.proofs.judging.Verdicts.verdict.Goals as goal

pub returns-clause-judges : goal.returns-clause-judges
returns-clause-judges c = λ kids whole.
    let g = dtd_of c.args.self.now.judge.now in
    let list = c.args.list.now in
    IfOk-weaker c.judge_word.result _ _
    (λ v judged root path. judged_as c.args.self.now.widths g root
    (record { path = path; owner = an_element list.name.now; kids = forest_of kids }) v _ _ _ tt
    (c.owner_of-owner.ensures ∙ site_by_token (number_of g list.name.now) _ whole.is_token)
    whole.is_word
    (bare_by kids list.kids _ whole.is_count (Decides-ltb 0 list.kids))
    judged)
    c.judge_word.ensures.judges
