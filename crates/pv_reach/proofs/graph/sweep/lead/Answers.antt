use Rattle.std.proofs.Common.{Contains, arith, get_or, length, refl, set, subst, sym, ℕ, ◌<◌, ◌∙◌}
use Rattle.std.proofs.Math.ListN.{length-set}
use Rattle.std.proofs.lemmas.List.{get_or_default}
use Rattle.pv_reach.specs.LeadingColumns.{AreLed}
use Rattle.pv_columns.specs.declared.layers.Edge.{Edge}
use Rattle.pv_reach.proofs.EdgeSweeps.{lead_more}
use Rattle.pv_reach.proofs.graph.sweep.lead.Goals as goal

pub returns-then-edge-len-2 : goal.returns-then-edge-len-2
returns-then-edge-len-2 c =
    let edges = c.args.edges.now in let table = c.args.table.now.items in
    let none : Edge = record { from = 0; to = 0 } in
    let e : Edge = get_or edges c.args.number none in
    let con : Contains edges e = (c.args.number, c.requires.number, get_or_default edges c.args.number e none c.requires.number) in
    let lf : e.from < length table = omega (arith, c.if-edge-len.true, c.len.ensures, c.args.table.now.ok) in
    let lt : e.to < length table = omega (arith, c.if-edge-len-2.true, c.len-then-edge-len.ensures, c.args.table.now.ok) in
    let P : ℕ → Type 0 = λ v. AreLed edges (set table e.from v) in
    record { led = subst P (sym (c.index.ensures ∙ get_or_default table e.to c.index.result.now 0 lt)) (lead_more edges table e con lf lt c.requires.led); long = simp length-set refl }
