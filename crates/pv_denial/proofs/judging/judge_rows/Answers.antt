use Rattle.std.proofs.Common.{List, ap, arith, length, map, subst, suc, sym, true≢false, ℕ, ◌∙◌, ◌≡◌}
use Rattle.std.proofs.lemmas.List.{length-map}
use Rattle.pv_model.specs.PlainForms.{plain_token}
use Rattle.pv_rules.specs.Barriers.{IsBarrierAtRows}
use Rattle.pv_rules.specs.PlainForms.{plain_site}
use Rattle.pv_productive.specs.PlainForms.{dtd_of}
use Rattle.pv_missing.specs.PlainForms.{plain_of}
use Rattle.pv_denial.specs.RowForms.{one_past, past_at}
use Rattle.pv_denial.specs.Rows.{EachRow, IsRow, row_value}
use Rattle.pv_denial.specs.declared.denials.Row.{Row}
use Rattle.pv_denial.proofs.ListJudgements.{matched_none, matched_some}
use Rattle.pv_denial.proofs.SiteRows.{past_some}
use Rattle.pv_denial.proofs.judging.judge_rows.Goals as goal

pub returns-in_default : goal.returns-in_default
returns-in_default c = λ are.
    let E : ℕ → Type 0 = λ v. EachRow (IsRow (dtd_of c.args.grammar.now) v) c.args.rows.now in
    matched_none c.in_ok-barrier.field-0 _ _ c.in_ok-barrier.ensures c.in_default.is (subst E (length-map c.args.word.now plain_token) are.each, are.once)

pub all_hold-requires-clause-rows : goal.all_hold-requires-clause-rows
all_hold-requires-clause-rows c =
    let m = matched_some c.in_ok-barrier.field-0 c.in-Some.barrier _ _ c.in_ok-barrier.ensures c.in-Some.is in
    let P : List Row → Type 0 = λ v. EachRow (IsRow (dtd_of c.args.grammar.now) (length c.args.word.now)) v in
    subst P (sym m.0) m.1

pub returns-then-not-all_hold : goal.returns-then-not-all_hold
returns-then-not-all_hold c = λ are.
    let m = matched_some c.in_ok-barrier.field-0 c.in-Some.barrier _ _ c.in_ok-barrier.ensures c.in-Some.is in
    let P : List Row → Type 0 = λ v. IsBarrierAtRows (dtd_of c.args.grammar.now) (map plain_token c.args.word.now) (row_value v) in
    true≢false (sym (c.all_hold.ensures.1 (subst P (sym m.0) are.barrier)) ∙ c.if-not-all_hold.true)

pub returns-then-past_at-word : goal.returns-then-past_at-word
returns-then-past_at-word c =
    let g = dtd_of c.args.grammar.now in let word = c.args.word.now in let rows = c.args.rows.now in
    let m = matched_some c.in_ok-barrier.field-0 c.in-Some.barrier _ _ c.in_ok-barrier.ensures c.in-Some.is in
    let P : List Row → Type 0 = λ v. IsBarrierAtRows g (map plain_token word) (row_value v) in
    let E : ℕ → Type 0 = λ v. EachRow (IsRow g v) rows in
    let same : past_at c.in-Some.barrier (plain_site c.owner_site.result) 0 ≡ past_at rows
    (plain_of c.args.owner) 0 = ap (λ v. past_at v (plain_site c.owner_site.result) 0) m.0
    ∙ ap (λ s. past_at rows s 0) c.owner_site.ensures in
    let n = length-map word plain_token in
    let whole : past_at rows (plain_of c.args.owner) 0 ≡ suc (length (map plain_token word)) = sym same ∙ sym c.past_at.ensures ∙ c.if-past_at-word.true ∙ omega arith in (
      record {
        each = subst E (sym n) m.1;
        once = m.2;
        barrier = subst P m.0 (c.all_hold.ensures.0 c.if-not-all_hold.false);
      },
      past_some (row_value rows (plain_of c.args.owner) 0) (length (map plain_token word)) whole,
    )

pub returns : goal.returns
returns c =
    let g = dtd_of c.args.grammar.now in let word = c.args.word.now in let rows = c.args.rows.now in
    let m = matched_some c.in_ok-barrier.field-0 c.in-Some.barrier _ _ c.in_ok-barrier.ensures c.in-Some.is in
    let P : List Row → Type 0 = λ v. IsBarrierAtRows g (map plain_token word) (row_value v) in
    let E : ℕ → Type 0 = λ v. EachRow (IsRow g v) rows in
    let same : past_at c.in-Some.barrier (plain_site c.owner_site.result) 0 ≡ past_at rows
    (plain_of c.args.owner) 0 = ap (λ v. past_at v (plain_site c.owner_site.result) 0) m.0
    ∙ ap (λ s. past_at rows s 0) c.owner_site.ensures in
    let n = length-map word plain_token in (
      record { each = subst E (sym n) m.1; once = m.2; barrier = subst P m.0 (c.all_hold.ensures.0 c.if-not-all_hold.false) },
      (λ e. c.if-past_at-word.false (c.past_at.ensures ∙ same ∙ ap one_past e ∙ omega arith)),
    )
