use Rattle.std.proofs.Common.{IsTrue, map, subst, ◌↔◌, ◌≡◌}
use Rattle.pv_dtd.specs.Plain.{declared}
use Rattle.pv_model.specs.Models.{Allows}
use Rattle.pv_model.specs.Plain.{PlainModel}
use Rattle.pv_model.specs.PlainForms.{plain_model, plain_token}
use Rattle.pv_productive.specs.PlainForms.{dtd_of}
use Rattle.pv_verdicts.proofs.judged.Kept.verdict_after.Goals as goal

pub verdict_by-requires-clause-allowed : goal.verdict_by-requires-clause-allowed
verdict_by-requires-clause-allowed c =
    let g = dtd_of c.args.judge.now in let w = map plain_token c.args.change.now.word.now in
    let turn = c.in_ok-turn.ensures in
    let m = plain_model c.args.content.now.model.now in
    let is_model = turn.is_model in
    let e : turn.model ≡ m = let z = c.requires.content.model in cc in
    let P : PlainModel → Type 0 =
    λ v. IsTrue c.is_allowed-is_allowed.result ↔ Allows (declared g) v w in
    subst P e (c.is_allowed-is_allowed.ensures (declared g) turn.model w
    c.args.self.now.word_match turn.word_match)
