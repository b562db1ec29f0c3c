use Rattle.std.proofs.Common.{ap, sym, ◌∙◌, take}
use Rattle.std.proofs.IntoIterSteps.{All-taken}
use Rattle.pv_rematch.proofs.SplicedPoints.{cut_off, put_in, told_err, told_ok}
use Rattle.pv_rematch.proofs.stretches.replace.Goals as goal

pub returns-then-is_err : goal.returns-then-is_err
returns-then-is_err c =
    let a = c.args in
    let old = a.items.now.items in
    let is = sym c.is_err.ensures.value ∙ c.if-is_err.true in
    let same = told_err c.splice.result _ is c.splice.ensures.err in
    cut_off a.first a.last old a.points.items _ (c.truncate.ensures.items
    ∙ ap (take a.first) same.0)

pub returns-else-is_err : goal.returns-else-is_err
returns-else-is_err c =
    let a = c.args in
    let is = sym c.is_err.ensures.value ∙ c.if-is_err.false in
    let done = told_ok c.splice.result _ is c.splice.ensures.items in
    let all = All-taken done.0 done.1 done.3 ∙ done.2.0 in
    put_in a.first a.last a.items.now.items a.points.items _ done.1 done.4 all
