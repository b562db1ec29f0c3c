use Rattle.pv_model.specs.PlainForms.{plain_part}
use Rattle.pv_model.specs.declared.models.Token.TheVariants as token
use Rattle.pv_rematch.proofs.KeptWalks.{read_token, lost_token, lost_points}
use Rattle.pv_rematch.proofs.walkers.Walker.read_all.Goals as goal

pub returns-then-not-branch-clause-lost : goal.returns-then-not-branch-clause-lost
returns-then-not-branch-clause-lost c = λ u a v h e.
    let p = plain_part c.args.part.now in
    let n = c.loop-number.number in
    lost_token p u a v c.args.tokens.now n _ c.loop-number-test.true
    (c.in_ok-read.ensures.lost u _ _ (c.loop-number.invariant.read u a h) c.if-not-branch.true)

pub returns-then-not-branch-clause-points : goal.returns-then-not-branch-clause-points
returns-then-not-branch-clause-points c = λ u a v h e.
    let p = plain_part c.args.part.now in
    let n = c.loop-number.number in
    lost_points p u a v c.args.tokens.now n token.Text c.loop-number.self _ c.loop-number-test.true
    (c.in_ok-read.ensures.points c.if-not-branch.true) (c.loop-number.invariant.read u a h)

pub loop-number-preserved : goal.loop-number-preserved
loop-number-preserved c = record {
  count = c.read.ensures.count;
  read =
      λ u a h. read_token (plain_part c.args.part.now) u a c.args.tokens.now c.loop-number.number _
      _ c.loop-number-test.true
      (c.in_ok-read.ensures.next u _ (c.loop-number.invariant.read u a h) c.if-not-branch.false);
}
