use Rattle.std.proofs.Common.{◌+◌, arith}
use Rattle.pv_rematch.proofs.ChangedNumbers.{number_after}
use Rattle.pv_productive.specs.PlainForms.{dtd_of}
use Rattle.pv_missing.specs.LiveWords.{IsProductiveToken}
use Rattle.pv_verdicts.proofs.counts.unproductive_after.Goals as goal

pub overflow_sub-result : goal.overflow_sub-result
overflow_sub-result c =
    let P = IsProductiveToken (dtd_of c.args.judge.now) in
    let change = c.args.change.now in
    let word = change.word.now in
    let end = change.from + change.came in
    let before = c.requires in
    let old = c.unproductive_in-old.ensures in
    let new = rw c.what_came.ensures at c.unproductive_in-new.ensures in
    (number_after P word change.gone.now change.from end _ _ _ (omega arith) before old new).0

pub overflow_add-result : goal.overflow_add-result
overflow_add-result c =
    let P = IsProductiveToken (dtd_of c.args.judge.now) in
    let change = c.args.change.now in
    let word = change.word.now in
    let end = change.from + change.came in
    let before = c.requires in
    let old = c.unproductive_in-old.ensures in
    let new = rw c.what_came.ensures at c.unproductive_in-new.ensures in
    let after =
    number_after P word change.gone.now change.from end _ _ _ (omega arith) before old new in
    omega (arith, after.2)

pub returns : goal.returns
returns c =
    let P = IsProductiveToken (dtd_of c.args.judge.now) in
    let change = c.args.change.now in
    let word = change.word.now in
    let end = change.from + change.came in
    let before = c.requires in
    let old = c.unproductive_in-old.ensures in
    let new = rw c.what_came.ensures at c.unproductive_in-new.ensures in
    (number_after P word change.gone.now change.from end _ _ _ (omega arith) before old new).1
