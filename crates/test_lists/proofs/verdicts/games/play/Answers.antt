use Rattle.std.proofs.Common.{List, length, map, rules, subst, sym, ℕ, ◌+◌, ◌≡◌, ◌≤◌}
use Rattle.std.specs.List.{between, splice}
use Rattle.std.specs.Option.{option_map}
use Rattle.pv_missing.specs.PlainForms.{plain_of}
use Rattle.pv_model.specs.PlainForms.{plain_token}
use Rattle.pv_model.specs.declared.models.Token.{Token}
use Rattle.pv_productive.specs.PlainForms.{dtd_of}
use Rattle.pv_verdicts.specs.Judged.{IsJudged}
use Rattle.test_lists.proofs.EarlierWords.{judged_before}
use Rattle.test_lists.proofs.verdicts.games.play.Goals as goal

pub make_change-requires : goal.make_change-requires
make_change-requires g c =
    let dtd = dtd_of c.args.judge.now in
    let owner = c.args.owner in
    let judged = c.loop-number.judged in
    let word = c.loop-number.word.items in
    let from = c.min-from.result in
    let to = c.min-to.result in
    let came = c.as_slice-in-loop-number-2.result.now in
    let after = c.as_slice-in-loop-number-3.result.now in
    let is : after ≡ splice word from to came =
    let v = c.as_slice-in-loop-number-3.ensures.value in
    let i = c.in_ok-after.ensures in
    let w = c.as_slice-in-loop-number.ensures.value in cc in
    let order : from ≤ to = search rules in
    let within : to ≤ length word = search rules in
    let part : c.deref.result.now ≡ word = search rules in
    let count : c.len-in-loop-number-2.result ≡ length came = search rules in
    let P : List Token → ℕ → Type 0 =
    λ v k. IsJudged dtd (option_map plain_of owner)
    (map plain_token (splice after from (from + k) (between from to v))) judged in
    let all = judged_before dtd owner judged word came after from to order within is
    c.loop-number.invariant.judged in
    let F : ℕ → Type 0 = P word in
    let G : List Token → Type 0 = λ v. P v c.len-in-loop-number-2.result in
    subst G (sym part) (subst F (sym count) all)
