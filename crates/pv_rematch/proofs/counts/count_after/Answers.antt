use Rattle.std.proofs.Common.{◌≡◌, ℕ, ◌+◌, ◌-◌, IfOk, map, subst, sym, arith}
use Rattle.std.proofs.lemmas.Grind.{common_steps}
use Rattle.pv_model.specs.PlainForms.{plain_model, plain_token}
use Rattle.pv_rematch.specs.Counts.{AreWithout, IsAllowedAlone}
use Rattle.pv_rematch.proofs.ChangedNumbers.{number_after}
use Rattle.pv_rematch.proofs.KeptWalks.{ok_one}
use Rattle.pv_rematch.proofs.counts.count_after.Goals as goal

pub returns : goal.returns
returns c =
    let P = IsAllowedAlone c.args.declared (plain_model c.args.model.now) in
    let change = c.args.change.now in
    let word = change.word.now in
    let F : ℕ → Type 0 = AreWithout P (map plain_token word) in
    let gone = c.in_ok-gone_count in
    let came = c.in_ok-came_count in
    let came_is = rw c.what_came.ensures at came.ensures in
    let end = change.from + change.came in
    let sum : IfOk c.ok_or.result (λ n. n ≡ (c.args.count - gone.gone_count) + came.came_count) =
    grind (arith, common_steps) in
    ok_one _ _ c.ok_or.result (λ n e h.
    let after =
    number_after P word change.gone.now change.from end c.args.count _ _
    (omega arith) h gone.ensures came_is in
    subst F (sym e) after.1)
    sum
