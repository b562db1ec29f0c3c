use Rattle.std.proofs.Common.{List, arith, subst, true, ℕ, ◌≡◌}
use Rattle.pv_columns.specs.Marks.{IsAmong}
use Rattle.pv_columns.proofs.FreeColumns.{leads}
use Rattle.pv_columns.proofs.leading.leads_to_free.Goals as goal

pub returns-in-Some : goal.returns-in-Some
returns-in-Some c = λ _.
    let r = c.args.rule.now in
    let A : List ℕ → Type 0 = λ v. IsAmong c.in-Some.field-0 v in
    let found = c.in-Some.ensures in
    let yes : c.is_open.result ≡ true = grind (arith, c.if-not-is_open.false) in
    leads c.args.rules.now c.args.live.now c.args.frees.now c.requires.frees r c.requires.rule
    (c.is_open.ensures.token yes) (c.is_open.ensures.marked yes) c.in-Some.field-0
    (subst A c.as_slice.ensures.value found.0) found.1 found.2
