use Rattle.std.proofs.Common.{◌+◌, arith}
use Rattle.pv_rematch.proofs.ChangedNumbers.{number_after}
use Rattle.pv_productive.specs.PlainForms.{dtd_of}
use Rattle.pv_verdicts.specs.TokenCounts.{IsTakenToken}
use Rattle.pv_verdicts.proofs.CountAnswers.{told_of}
use Rattle.pv_verdicts.proofs.counts.untaken_after.Goals as goal

pub overflow_sub-result : goal.overflow_sub-result
overflow_sub-result c =
    let P = IsTakenToken (dtd_of c.args.judge.now) c.args.id.0 in
    let change = c.args.change.now in
    let word = change.word.now in
    let end = change.from + change.came in
    let before = told_of _ c.args.before c.in_ok-all.all c.in_ok-all.was c.requires in
    let old = c.untaken_in-old.ensures in
    let new = rw c.what_came.ensures at c.untaken_in-new.ensures in
    (number_after P word change.gone.now change.from end _ _ _ (omega arith) before old new).0

pub overflow_add-result : goal.overflow_add-result
overflow_add-result c =
    let P = IsTakenToken (dtd_of c.args.judge.now) c.args.id.0 in
    let change = c.args.change.now in
    let word = change.word.now in
    let end = change.from + change.came in
    let before = told_of _ c.args.before c.in_ok-all.all c.in_ok-all.was c.requires in
    let old = c.untaken_in-old.ensures in
    let new = rw c.what_came.ensures at c.untaken_in-new.ensures in
    let after =
    number_after P word change.gone.now change.from end _ _ _ (omega arith) before old new in
    omega (arith, after.2)

pub returns : goal.returns
returns c =
    let P = IsTakenToken (dtd_of c.args.judge.now) c.args.id.0 in
    let change = c.args.change.now in
    let word = change.word.now in
    let end = change.from + change.came in
    let before = told_of _ c.args.before c.in_ok-all.all c.in_ok-all.was c.requires in
    let old = c.untaken_in-old.ensures in
    let new = rw c.what_came.ensures at c.untaken_in-new.ensures in
    let after =
    number_after P word change.gone.now change.from end _ _ _ (omega arith) before old new in
    (c.in_ok-content.ensures.free, after.1)
