use Rattle.std.proofs.Common.{List, map, subst, sym}
use Rattle.std.proofs.lemmas.Result.{IfOk-weaker}
use Rattle.pv_model.specs.PlainForms.{plain_token}
use Rattle.pv_model.specs.declared.models.Token.{Token}
use Rattle.pv_productive.specs.PlainForms.{dtd_of}
use Rattle.pv_tree.specs.PlainForms.{forest}
use Rattle.pv_tree.specs.Words.{word_of}
use Rattle.pv_missing.specs.LiveWords.{IsLiveWord}
use Rattle.pv_deny.proofs.words.word_rows.Goals as goal

pub returns : goal.returns
returns c =
    let g = dtd_of c.args.grammar.now in
    let w = word_of g (forest c.args.kids.now) in
    let L : List Token → Type 0 = λ v. IsLiveWord g w (map plain_token v) in
    IfOk-weaker c.rows_by.result _ _ (λ found all. all w
    (subst L (sym c.as_slice-word.ensures) c.in_ok-live.ensures)) c.rows_by.ensures
