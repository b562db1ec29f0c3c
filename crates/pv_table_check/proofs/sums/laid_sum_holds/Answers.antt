use Rattle.std.proofs.Common.{arith}
use Rattle.pv_rules.specs.PlainForms.{plain_site}
use Rattle.pv_table_check.proofs.RowValues.{row_at}
use Rattle.pv_table_check.proofs.sums.laid_sum_holds.Goals as goal
use Rattle.pv_table_check.proofs.sums.laid_sum_holds.Goals.{else-pair-via-then-pair+else-one, else-pair-via-else-pair}

pub row_holds-requires-clause-long : goal.row_holds-requires-clause-long
row_holds-requires-clause-long c =
    let one = c.args.one.now in
    let span = c.requires.span in let x = span.0 in let y = span.1 in let l = c.requires.lefts.long in let s = c.requires.seconds.long in
    let a = (row_at c.args.entries.now (plain_site c.args.pair.now.left) c.args.most c.args.lefts.now c.requires.lefts one.from c.index-lefts-one.result c.index-lefts-one.is (omega arith)).long in
    let b = (row_at c.args.entries.now (plain_site c.args.pair.now.second) c.args.most
    c.args.seconds.now c.requires.seconds one.to c.index-seconds-one.result
    c.index-seconds-one.is (omega arith)).long in
    omega arith

pub row_holds-requires-clause-some : goal.row_holds-requires-clause-some
row_holds-requires-clause-some c =
    let one = c.args.one.now in
    let span = c.requires.span in let x = span.0 in let y = span.1 in let s = c.requires.seconds.long in
    let b = (row_at c.args.entries.now (plain_site c.args.pair.now.second) c.args.most
    c.args.seconds.now c.requires.seconds one.to c.index-seconds-one.result
    c.index-seconds-one.is (omega arith)).long in
    omega arith

pub returns : goal.returns
returns c =
    let one = c.args.one.now in
    let span = c.requires.span in let x = span.0 in let y = span.1 in let l = c.requires.lefts.long in let s = c.requires.seconds.long in
    let a = row_at c.args.entries.now (plain_site c.args.pair.now.left) c.args.most c.args.lefts.now c.requires.lefts one.from c.index-lefts-one.result c.index-lefts-one.is (omega arith) in
    let b = row_at c.args.entries.now (plain_site c.args.pair.now.second) c.args.most c.args.seconds.now c.requires.seconds one.to c.index-seconds-one.result c.index-seconds-one.is (omega arith) in
    let both = c.row_holds.ensures c.listed_or_not_law.ensures c.args.entries.now (plain_site c.args.pair.now.left) (plain_site c.args.pair.now.second) c.args.most c.requires.over a b in (
      λ t outer. both.0 t,
      λ h. both.1 (elim c.else-pair.branch [
        | else-pair-via-then-pair+else-one w ↦ let f = w.if-one.false in h (λ t. omega arith)
        | else-pair-via-else-pair w ↦ let f = w.if-pair.false in h (λ t. absurd cc)
      ]),
    )
