use Rattle.std.proofs.Common.{List, Some, arith, length, slice_get, subst, suc, sym, true≢false, ℕ}
use Rattle.std.proofs.Common.{◌*◌, ◌∙◌, ◌≡◌, ◌≤◌}
use Rattle.pv_rules.specs.declared.sites.Site.{Site}
use Rattle.pv_productive.specs.PlainForms.{dtd_of}
use Rattle.pv_denial.specs.Rows.{most_values}
use Rattle.pv_denial.specs.declared.denials.Row.{Row}
use Rattle.pv_deny.specs.ToldRows.{AreToldRows, HasRows}
use Rattle.pv_deny.proofs.WordRows.{each_told, has_rows, many_values, past}
use Rattle.pv_deny.proofs.words.rows_by.Goals as goal

pub returns-then-not-are_few : goal.returns-then-not-are_few
returns-then-not-are_few c = λ w live.
    let g = dtd_of c.args.grammar.now in let word = c.args.word.now in
    let sites = c.in_ok-sites.sites.items in
    let P : ℕ → Type 0 = λ v. v * suc (length word) ≤ most_values in
    let n : c.len.result ≡ length sites = omega (arith, c.len.ensures) in
    many_values c.spans_within_law.ensures g _ c.dtd.ensures c.proper_dtd_law.ensures word
    c.requires.productive c.args.reaches.now c.requires.reaches sites c.in_ok-sites.ensures w live
    (past (length sites * suc (length word)) most_values
    (λ few. true≢false (sym (c.are_few.ensures.1 (subst P (sym n) few))
    ∙ c.if-not-are_few.true)))

pub rows_of-requires-clause-told : goal.rows_of-requires-clause-told
rows_of-requires-clause-told c =
    λ k i s e le.
    let S : List Site → Type 0 = λ v. slice_get v k ≡ Some s in
    each_told c.spans_within_law.ensures (dtd_of c.args.grammar.now) _ c.dtd.ensures
    c.proper_dtd_law.ensures c.args.word.now c.requires.productive c.args.reaches.now
    c.requires.reaches c.in_ok-sites.sites.items c.in_ok-sites.ensures k i s
    (subst S c.deref.ensures.value e) le

pub returns : goal.returns
returns c = λ w live.
    let g = dtd_of c.args.grammar.now in let word = c.args.word.now in
    let sites = c.in_ok-sites.sites.items in
    let P : ℕ → Type 0 = λ v. v * suc (length word) ≤ most_values in
    let n : c.len.result ≡ length sites = omega (arith, c.len.ensures) in
    let S : List Site → Type 0 = λ v. AreToldRows c.args.reaches.now (length word) v
    c.in_ok-rows.rows.items in
    let R : List Row → Type 0 = λ v. HasRows g w v in
    subst R (sym c.of.ensures)
    (has_rows c.spans_within_law.ensures g _ c.dtd.ensures c.proper_dtd_law.ensures word
    c.requires.productive c.args.reaches.now c.requires.reaches sites c.in_ok-sites.ensures w live
    c.in_ok-rows.rows.items (subst S c.deref.ensures.value c.in_ok-rows.ensures)
    (subst P n (c.are_few.ensures.0 c.if-not-are_few.false)))
