use Rattle.std.proofs.Common.{List, Some, [], ap, arith, length, slice_get, subst, sym, ℕ, ◌∷◌, ◌≡◌}
use Rattle.std.proofs.lemmas.List.{length-append}
use Rattle.std.proofs.lemmas.Option.{slice_get-get_or}
use Rattle.pv_rules.specs.declared.sites.Site.{Site}
use Rattle.pv_denial.specs.declared.denials.Row.{Row}
use Rattle.pv_deny.specs.ToldRows.{IsToldRow}
use Rattle.pv_deny.proofs.RowFacts.{row_more}
use Rattle.pv_deny.proofs.rows.rows_of.Goals as goal

pub loop-site-preserved : goal.loop-site-preserved
loop-site-preserved c =
    let sites = c.args.sites.now in let l = c.loop-site in let row = c.in_ok-row_of.field-0 in
    let Q : List Row → Type 0 = λ v. (k : ℕ) (t : Site) (q : Row) → slice_get sites k ≡ Some t → slice_get v k ≡ Some q → IsToldRow c.args.reaches.now c.args.tokens t q in
    record {
      as_many = let n = ap length c.in_ok-push.ensures.items in let m = length-append l.rows.items (row ∷ []) in let a = l.invariant.as_many in omega arith;
      each = subst Q (sym c.in_ok-push.ensures.items) (row_more c.args.reaches.now c.args.tokens
          sites l.rows.items _ row l.site-index l.invariant.as_many
          (slice_get-get_or sites l.site-index _ c.loop-site-test.true) c.in_ok-row_of.ensures
          l.invariant.each);
    }
