use Rattle.std.proofs.Common.{List, length, map, subst, sym, true≢false, ◌∙◌}
use Rattle.pv_model.specs.PlainForms.{plain_token}
use Rattle.pv_productive.specs.PlainForms.{dtd_of}
use Rattle.pv_tree.specs.Plain.{Forest}
use Rattle.pv_tree.specs.PlainForms.{forest}
use Rattle.pv_tree.specs.Words.{word_of}
use Rattle.pv_tree.specs.declared.nodes.Mark.{Mark}
use Rattle.pv_missing.specs.LiveWords.{IsLiveWord}
use Rattle.pv_missing.specs.PlainForms.{plain_of}
use Rattle.pv_missing.specs.Widths.{FitsVerdict}
use Rattle.pv_model.specs.declared.models.Token.{Token}
use Rattle.pv_denial.specs.Judgements.{JudgesRows}
use Rattle.pv_denial.specs.declared.denials.Row.{Row}
use Rattle.pv_denial.proofs.ListJudgements.{live_fits, live_known, no_owner, rows_judged}
use Rattle.pv_denial.proofs.judging.judge_word.Goals as goal

pub returns-then-not-is_narrow-clause-wide : goal.returns-then-not-is_narrow-clause-wide
returns-then-not-is_narrow-clause-wide c = λ e root list is fits.
    let g = dtd_of c.args.grammar.now in let word = c.as_slice-word.result.now in let w = word_of g (forest c.args.place.now.kids.now) in
    let L : List Token → Type 0 = λ v. IsLiveWord g w (map plain_token v) in
    let live = subst L (sym c.as_slice-word.ensures) c.in_ok-live.ensures in
    let F : Forest Mark → Type 0 = λ v. FitsVerdict g (length (word_of g v)) in
    let fit = live_fits g _ w word c.live_follows_law.ensures c.dtd.ensures live in
    true≢false (sym (c.is_narrow.ensures.1 (fit.1 (subst F is.kids fits))) ∙ c.if-not-is_narrow.true)

pub returns-in_default-clause-judged : goal.returns-in_default-clause-judged
returns-in_default-clause-judged c = λ root list is.
    let g = dtd_of c.args.grammar.now in let word = c.as_slice-word.result.now in let w = word_of g (forest c.args.place.now.kids.now) in
    let L : List Token → Type 0 = λ v. IsLiveWord g w (map plain_token v) in
    let live = subst L (sym c.as_slice-word.ensures) c.in_ok-live.ensures in
    let F : Forest Mark → Type 0 = λ v. FitsVerdict g (length (word_of g v)) in
    let fit = live_fits g _ w word c.live_follows_law.ensures c.dtd.ensures live in
    no_owner g root c.args.denial.now list c.requires (c.in_default.ensures root list is) (subst F (sym is.kids) (fit.0 (c.is_narrow.ensures.0 c.if-not-is_narrow.false)))

pub judge_rows-requires-clause-known : goal.judge_rows-requires-clause-known
judge_rows-requires-clause-known c =
    let g = dtd_of c.args.grammar.now in let word = c.as_slice-word.result.now in let w = word_of g (forest c.args.place.now.kids.now) in
    let L : List Token → Type 0 = λ v. IsLiveWord g w (map plain_token v) in
    live_known g w (map plain_token word) (subst L (sym c.as_slice-word.ensures) c.in_ok-live.ensures) (c.known_word_law.ensures g (forest c.args.place.now.kids.now))

pub returns-clause-judged : goal.returns-clause-judged
returns-clause-judged c = λ root list is.
    let g = dtd_of c.args.grammar.now in let word = c.as_slice-word.result.now in let w = word_of g (forest c.args.place.now.kids.now) in
    let L : List Token → Type 0 = λ v. IsLiveWord g w (map plain_token v) in
    let live = subst L (sym c.as_slice-word.ensures) c.in_ok-live.ensures in
    let F : Forest Mark → Type 0 = λ v. FitsVerdict g (length (word_of g v)) in
    let K : Forest Mark → Type 0 = λ v. IsLiveWord g (word_of g v) (map plain_token word) in
    let R : List Row → Type 0 = λ v. JudgesRows g (plain_of c.in-Some.owner) (map plain_token word) v c.in_ok-judged.judged in
    let fit = live_fits g _ w word c.live_follows_law.ensures c.dtd.ensures live in
    rows_judged g root c.args.denial.now list c.requires c.live_follows_law.ensures
    c.one_live_word_law.ensures (plain_of c.in-Some.owner) (c.in-Some.ensures root list is)
    (map plain_token word) (subst K (sym is.kids) live)
    (subst F (sym is.kids) (fit.0 (c.is_narrow.ensures.0 c.if-not-is_narrow.false))) c.in_ok-judged.judged (subst R c.as_slice.ensures c.in_ok-judged.ensures)
