use Rattle.std.proofs.Common.{sym, subst, ℕ}
use Rattle.std.proofs.lemmas.List.{length-map}
use Rattle.std.proofs.lemmas.Result.{IfOk-weaker}
use Rattle.pv_model.specs.PlainForms.{plain_token}
use Rattle.pv_productive.specs.PlainForms.{dtd_of}
use Rattle.pv_check.specs.ListJudgements.{FitsWithin}
use Rattle.pv_check.proofs.words.is_seen_valid.Goals as goal

pub returns-in-Some : goal.returns-in-Some
returns-in-Some c =
    let s = c.args.widths in
    let g = dtd_of c.args.judge.now in
    let fits = subst (λ (n : ℕ). FitsWithin s g n)
    (sym (length-map c.args.word.now plain_token)) (c.is_narrow.ensures.0 c.if-not-is_narrow.false)
    in
    IfOk-weaker c.is_valid_of.result _ _ (λ seen is yes. rw c.in-Some.is (fits, is yes))
    c.is_valid_of.ensures
