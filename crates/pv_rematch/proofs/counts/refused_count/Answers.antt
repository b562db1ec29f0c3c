use Rattle.std.proofs.Common.{◌≡◌, ◌∷◌, [], map, take, get_or, ap, arith, ◌∙◌}
use Rattle.std.proofs.lemmas.List.{length-map, length-take-le, take_all, get_or_default}
use Rattle.pv_model.specs.PlainForms.{plain_model, plain_token}
use Rattle.pv_model.specs.declared.models.Token.TheVariants as token
use Rattle.pv_rematch.specs.Counts.{IsAllowedAlone}
use Rattle.pv_rematch.proofs.ChangedNumbers.{next_with, next_without}
use Rattle.pv_rematch.proofs.TokenNumbers.{at_most}
use Rattle.pv_rematch.proofs.counts.refused_count.Goals as goal
use Rattle.pv_rematch.proofs.counts.refused_count.Goals.{then-not-branch, else-not-branch}

pub overflow_add-count : goal.overflow_add-count
overflow_add-count c =
    let P = IsAllowedAlone c.args.declared (plain_model c.args.model.now) in
    let i = c.loop-token.token-index in
    let w = c.args.word.now in
    let few = at_most P (map plain_token (take i w)) c.loop-token.count c.loop-token.invariant in
    let short = length-take-le i w (omega (arith, c.loop-token-test.true)) in
    omega (arith, few, length-map (take i w) plain_token, short)

pub loop-token-preserved : goal.loop-token-preserved
loop-token-preserved c =
    let P = IsAllowedAlone c.args.declared (plain_model c.args.model.now) in
    let i = c.loop-token.token-index in
    let w = c.args.word.now in
    let n = c.loop-token.count in
    let lt = c.loop-token-test.true in
    let so_far = c.loop-token.invariant in
    let t = get_or w i token.Text in
    let here = get_or_default w i _ token.Text lt in
    let one : map plain_token c.from_ref.result.now ≡ plain_token t ∷ [] =
    ap (map plain_token) (c.from_ref.ensures.value ∙ ap (λ x. x ∷ []) here) in
    let said = rw one at c.in_ok-allows.ensures in
    elim c.if-not-branch.branch [
      | then-not-branch b ↦
          next_without P w i n token.Text lt so_far _ b.count-is (λ a. let y = said.1 a in
          let n = b.if-not-branch.true in absurd cc)
      | else-not-branch b ↦
          next_with P w i n token.Text lt so_far _ b.count-is (said.0 b.if-not-branch.false)
    ]

pub returns : goal.returns
returns c =
    let all : take c.loop-token.token-index c.args.word.now ≡ c.args.word.now =
    take_all _ _ c.loop-token-test.false in
    rw all at c.loop-token.invariant
