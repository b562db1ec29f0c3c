use Rattle.std.proofs.Common.{Some, arith, ◌≡◌}
use Rattle.std.specs.List.{splice}
use Rattle.pv_missing.specs.declared.owners.Of.TheVariants.{Elem}
use Rattle.pv_productive.specs.PlainForms.{dtd_of}
use Rattle.test_lists.proofs.EarlierWords.{judged_before}
use Rattle.test_lists.proofs.verdicts.rows.verdict_by.Goals as goal

pub make_change-requires : goal.make_change-requires
make_change-requires g c =
    let row = c.args.row.now in
    let after = c.as_slice.result.now in
    let is : after ≡ splice row.1.now row.2 row.3 row.4.now =
    let v = c.as_slice.ensures.value in let i = c.in_ok-after.ensures in cc in
    judged_before (dtd_of c.args.judge.now) (Some (Elem (record { 0 = row.0 })))
    c.in_ok-judged.judged row.1.now row.4.now after row.2 row.3 (omega (arith, c.if-from-to.false))
    (omega (arith, c.if-to-word.false)) is c.in_ok-judged.ensures
