use Rattle.std.proofs.Common.{Some, ap, arith, length, refl, slice_get, subst, sym, true≢false, ℕ, ◌+◌, ◌∙◌, ◌≡◌}
use Rattle.std.proofs.lemmas.Option.{slice_get-get_or}
use Rattle.pv_rules.specs.PlainForms.{plain_site}
use Rattle.pv_productive.specs.PlainForms.{dtd_of}
use Rattle.pv_denial.specs.Indexes.{IsSlot, slot}
use Rattle.pv_denial.specs.Rows.{IsRow}
use Rattle.pv_denial.specs.declared.denials.Row.{Row}
use Rattle.pv_denial.proofs.RowIndex.{all_each, all_once, fresh, taken_more}
use Rattle.pv_denial.proofs.listing.barrier_of.Goals as goal

pub loop-number-preserved : goal.loop-number-preserved
loop-number-preserved c =
    let g = dtd_of c.args.grammar.now in let rows = c.args.rows.now in let l = c.loop-number in let r = c.index-rows-number.result in
    let here : slice_get rows l.number ≡ Some r = slice_get-get_or rows l.number r c.loop-number-test.true ∙ ap (λ (x : Row). Some x) (sym c.index-rows-number.is) in
    let f = c.is_fresh.ensures.0 c.if-not-is_fresh.false in
    taken_more g c.args.tokens rows l.number l.index l.invariant r here c.put.new.self (l.number + 1) (omega arith) f.0 f.1 c.put.ensures.here c.put.ensures.others
    (λ s has. c.put.ensures.room s (l.invariant.room s has))

pub returns-then-not-is_fresh : goal.returns-then-not-is_fresh
returns-then-not-is_fresh c = λ (each, others).
    let g = dtd_of c.args.grammar.now in let rows = c.args.rows.now in let l = c.loop-number in let r = c.index-rows-number.result in
    let here : slice_get rows l.number ≡ Some r = slice_get-get_or rows l.number r c.loop-number-test.true ∙ ap (λ (x : Row). Some x) (sym c.index-rows-number.is) in
    let f : IsRow g c.args.tokens r × (slot l.index (plain_site r.site) ≡ 0) = (
      each l.number r here,
      fresh g c.args.tokens rows l.number l.index l.invariant r here others
          (slot l.index (plain_site r.site)) refl,
    ) in
    true≢false (sym (c.is_fresh.ensures.1 f) ∙ c.if-not-is_fresh.true)

pub of-requires-clause-once : goal.of-requires-clause-once
of-requires-clause-once c = all_once (dtd_of c.args.grammar.now) c.args.tokens c.args.rows.now c.loop-number.number c.loop-number.index c.loop-number.invariant c.loop-number-test.false

pub of-requires-clause-index : goal.of-requires-clause-index
of-requires-clause-index c = λ s.
    let l = c.loop-number in
    let n : l.number ≡ length c.args.rows.now = (let a = l.auto.number-end in let b = c.loop-number-test.false in omega arith) in
    let P : ℕ → Type 0 = λ v. IsSlot c.args.rows.now v s (slot l.index s) in subst P n (l.invariant.index s)

pub returns : goal.returns
returns c =
    let g = dtd_of c.args.grammar.now in let l = c.loop-number in (
      c.of.ensures,
      all_each g c.args.tokens c.args.rows.now l.number l.index l.invariant
          c.loop-number-test.false,
      all_once g c.args.tokens c.args.rows.now l.number l.index
          l.invariant c.loop-number-test.false,
    )
