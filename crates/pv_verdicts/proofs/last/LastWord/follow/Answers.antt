use Rattle.std.proofs.Common.{List, ◌∙◌, arith, map, subst, sym}
use Rattle.std.specs.Option.{option_map}
use Rattle.pv_missing.specs.PlainForms.{plain_of}
use Rattle.pv_model.specs.PlainForms.{plain_token}
use Rattle.pv_model.specs.declared.models.Token.{Token}
use Rattle.pv_productive.specs.PlainForms.{dtd_of}
use Rattle.pv_verdicts.specs.Judged.{IsJudged}
use Rattle.pv_verdicts.proofs.ReplacedParts.{followed_back}
use Rattle.pv_verdicts.proofs.last.LastWord.follow.Goals as goal

pub turned-requires : goal.turned-requires
turned-requires c =
    let last = c.args.self in
    subst (λ (w : List Token). IsJudged (dtd_of c.args.judge.now)
    (option_map plain_of last.owner) (map plain_token w) last.judged)
    (sym (followed_back last.tokens.items c.args.came.now c.deref-2.result.now c.deref.result.now
    c.args.from c.saturating_add-to.result (omega arith) (omega arith)
    (c.deref.ensures.value ∙ c.in_ok-gone.ensures.items)
    (c.deref-2.ensures.value ∙ c.in_ok-gone.ensures.gone)))
    c.requires
