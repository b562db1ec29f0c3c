use Rattle.std.proofs.Common.{ap, arith, ◌∙◌}
use Rattle.pv_dtd.specs.Plain.{IsDeclared, declared}
use Rattle.pv_productive.specs.PlainForms.{dtd_of}
use Rattle.pv_reach.specs.Merging.{column_head}
use Rattle.pv_reach.proofs.FormedDtds.{formed_dtd}
use Rattle.pv_reach.proofs.FreeContents.{content_set, free_content}
use Rattle.pv_reach.proofs.free_content.FreeContent.of.Goals as goal

pub invariant_of-result : goal.invariant_of-result
invariant_of-result c =
    let g = dtd_of c.args.grammar.now in let x = c.args.id.0 in
    let e = c.count.ensures ∙ ap declared c.dtd.ensures in
    let lt : IsDeclared g x = let z = c.if-id-count.false in omega arith in
    let head = c.column_head-column.ensures ∙ ap (λ v. column_head v x) c.deref.ensures.value in
    content_set g c.args.plan.now x c.in-Some.row.now c.requires (formed_dtd c.args.grammar.now) lt c.column_head-column.result head c.in-Some.ensures

pub returns-clause-free : goal.returns-clause-free
returns-clause-free c =
    let g = dtd_of c.args.grammar.now in let x = c.args.id.0 in
    let e = c.count.ensures ∙ ap declared c.dtd.ensures in
    let lt : IsDeclared g x = let z = c.if-id-count.false in omega arith in
    let head = c.column_head-column.ensures ∙ ap (λ v. column_head v x) c.deref.ensures.value in
    free_content g c.args.plan.now x c.in-Some.row.now c.requires (formed_dtd c.args.grammar.now) lt c.column_head-column.result head c.in-Some.ensures
