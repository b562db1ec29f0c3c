use Rattle.std.proofs.Common.{ap, inl, ◌∙◌, ◌≡◌}
use Rattle.pv_reach.specs.Merging.{column_head, column_heads}
use Rattle.pv_reach.proofs.StandInColumns.{adds_one, has_merged, merged_rule, ok_then}
use Rattle.pv_reach.proofs.columns.merging.add_merged.Goals as goal

pub returns-clause-added : goal.returns-clause-added
returns-clause-added c =
    let rules = c.args.rules.now in let m = c.args.merging.now in let r = c.index-rules-number.result in
    let e : c.column_head.result ≡ column_head m.heads.items r.left = c.column_head.ensures ∙ ap (λ v. column_head v r.left) c.deref-3.ensures.value in
    let f : c.deref-4.result.now ≡ column_heads m.heads.items r.columns.items =
    c.deref-4.ensures.value ∙ c.in_ok-columns.ensures ∙ ap (λ v. column_heads v c.deref-2.result.now) c.deref.ensures.value ∙ ap (λ v. column_heads m.heads.items v) c.deref-2.ensures.value in
    ok_then c.add.result _ _
    (λ adds. adds_one rules m c.args.new.now.items c.add.new.rules.items c.column_head.result r.token c.deref-4.result.now
    (inl (merged_rule rules m c.args.number c.requires r c.index-rules-number.is c.column_head.result c.deref-4.result.now e f)) adds) c.add.ensures

pub returns-clause-has : goal.returns-clause-has
returns-clause-has c =
    let rules = c.args.rules.now in let m = c.args.merging.now in let r = c.index-rules-number.result in
    let e : c.column_head.result ≡ column_head m.heads.items r.left = c.column_head.ensures ∙ ap (λ v. column_head v r.left) c.deref-3.ensures.value in
    let f : c.deref-4.result.now ≡ column_heads m.heads.items r.columns.items =
    c.deref-4.ensures.value ∙ c.in_ok-columns.ensures ∙ ap (λ v. column_heads v c.deref-2.result.now) c.deref.ensures.value ∙ ap (λ v. column_heads m.heads.items v) c.deref-2.ensures.value in
    ok_then c.add.result _ _
    (λ adds. has_merged rules m c.args.number c.requires r c.index-rules-number.is c.add.new.rules.items c.column_head.result c.deref-4.result.now e f adds.has) c.add.ensures
