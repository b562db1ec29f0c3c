use Rattle.std.proofs.Common.{IsTrue, subst, ◌↔◌}
use Rattle.pv_model.specs.PlainForms.{plain_token}
use Rattle.pv_productive.specs.PlainForms.{dtd_of}
use Rattle.pv_missing.specs.LiveWords.{IsProductiveToken}
use Rattle.pv_reach.specs.Contents.{ContentOf}
use Rattle.pv_reach.specs.TokensTaken.{ContentTakes}
use Rattle.pv_verdicts.proofs.counts.is_taken.Goals as goal

pub returns-then-is_productive : goal.returns-then-is_productive
returns-then-is_productive c =
    let t = plain_token c.args.token in
    let P : ContentOf → Type 0 = λ v. IsProductiveToken (dtd_of v.grammar) t →
    IsTrue c.takes.result ↔ ContentTakes (dtd_of v.grammar) v.name t in
    let p = c.is_productive.ensures.0 c.if-is_productive.true in
    let takes = subst P c.requires c.takes.ensures p in
    ((λ b. (p, takes.0 b)), (λ q. takes.1 q.1))
