use Rattle.std.proofs.Common.{IsTrue, subst, ◌↔◌}
use Rattle.pv_model.specs.PlainForms.{plain_token}
use Rattle.pv_missing.specs.LiveWords.{IsProductiveToken}
use Rattle.pv_productive.specs.PlainForms.{dtd_of}
use Rattle.pv_reach.specs.Contents.{ContentOf}
use Rattle.pv_reach.specs.TokensTaken.{ContentTakes}
use Rattle.pv_reach.proofs.free_content.FreeContent.takes.Goals as goal

pub returns : goal.returns
returns c =
    let t = plain_token c.args.token in
    let P : ContentOf → Type 0 = λ v. IsProductiveToken (dtd_of v.grammar) t → IsTrue c.has.result ↔ ContentTakes (dtd_of v.grammar) v.name t in
    subst P c.self.view_is (λ productive.
    let is = c.self.invariant c.args.token productive in
    ((λ b. is.0 (c.has.ensures.0 b)), (λ d. c.has.ensures.1 (is.1 d))))
