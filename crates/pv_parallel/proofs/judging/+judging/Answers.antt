use Rattle.std.proofs.Common.{List, [], ap, arith, drop, refl, ℕ, ◌+◌, ◌++◌, ◌∷◌, ◌≡◌, ◌∙◌}
use Rattle.std.proofs.lemmas.Result.{IfErr-weaker, err_from_is_err_and, on_ok_weaker}
use Rattle.std.specs.Option.{option_map}
use Rattle.pv_productive.specs.PlainForms.{dtd_of}
use Rattle.pv_tree.specs.Lists.{Listed, an_element, lists_at, lists_from}
use Rattle.pv_tree.specs.PlainForms.{forest, plain}
use Rattle.pv_tree.specs.declared.nodes.Mark.{Mark}
use Rattle.pv_tree.proofs.JoinedLists.{all_left, all_right}
use Rattle.pv_tree.proofs.Levels.{plain-Elem}
use Rattle.pv_missing.specs.PlainForms.{plain_of}
use Rattle.pv_missing.specs.ListWeights.{site_of}
use Rattle.pv_missing.specs.Widths.{IsListForVerdict}
use Rattle.pv_missing.proofs.ListPaths.{element_site}
use Rattle.pv_reach.specs.declared.errors.ReachError.TheVariants.{TooWide as too_wide}
use Rattle.pv_parallel.proofs.JobLists.{lists_end, lists_next}
use Rattle.pv_parallel.proofs.Judgements.{judges_both, judges_none}
use Rattle.pv_parallel.proofs.judging.+judging.Goals as goal

pub judge_nodes-loop-node-preserved : goal.judge_nodes-loop-node-preserved
judge_nodes-loop-node-preserved g t c =
    let d = dtd_of c.args.judge.now in
    let entered = g.G.Gate.entered c.args.gate.now in
    let n = c.loop-node.node-index in
    let node = c.node-item.result in
    let nodes = c.args.nodes.now in
    let here : List ℕ → ℕ → List (Listed Mark) = λ path i. lists_at (path ++ (i + n) ∷ []) (plain node) in
    let others : List ℕ → ℕ → List (Listed Mark) = λ path i. lists_from path (i + (n + 1)) (forest (drop (n + 1) nodes)) in
    record {
      judges = λ root path i last more.
          let whole = lists_next path i n nodes node (omega arith) c.node-item.is in
          c.loop-node.invariant.judges root path i last
          (rw whole (judges_both d root entered c.args.first (here path i) (others path i)
          c.loop-node.verdicts.items c.judge_node.new.verdicts.items last
          (c.in_ok-judge_node.ensures.judged root (path ++ (i + n) ∷ [])) more));
      fits = λ path i all.
          let whole = lists_next path i n nodes node (omega arith) c.node-item.is in
          all_right (IsListForVerdict d) (here path i) (others path i) (rw whole at (c.loop-node.invariant.fits path i all));
    }

pub judge_nodes-returns-clause-judged : goal.judge_nodes-returns-clause-judged
judge_nodes-returns-clause-judged g t c = λ root path i.
    let none = lists_end path (i + c.loop-node.node-index) c.loop-node.node-index c.args.nodes.now (omega arith) in
    c.loop-node.invariant.judges root path i c.loop-node.verdicts.items
    (rw none (judges_none (dtd_of c.args.judge.now) root (g.G.Gate.entered c.args.gate.now)
    c.args.first c.loop-node.verdicts.items))

pub judge_nodes-returns-in_err-judge_node-clause-wide : goal.judge_nodes-returns-in_err-judge_node-clause-wide
judge_nodes-returns-in_err-judge_node-clause-wide g t c =
    let d = dtd_of c.args.judge.now in
    let n = c.loop-node.node-index in
    let node = c.node-item.result in
    let nodes = c.args.nodes.now in
    let p = err_from_is_err_and c.from_residual.result c.from_residual.ensures.1 in
    rw p.1 (λ e path i all.
    let q = p.2 in
    let wide : c.in_err-judge_node.field-0.0 ≡ too_wide = cc in
    let whole = lists_next path i n nodes node (omega arith) c.node-item.is in
    c.in_err-judge_node.ensures.wide wide (path ++ (i + n) ∷ [])
    (all_left (IsListForVerdict d) (lists_at (path ++ (i + n) ∷ []) (plain node)) (lists_from path (i + (n + 1)) (forest (drop (n + 1) nodes))) (rw whole at (c.loop-node.invariant.fits path i all))))

pub judge_node-returns-in_err-judge_list-clause-wide : goal.judge_node-returns-in_err-judge_list-clause-wide
judge_node-returns-in_err-judge_list-clause-wide g t c =
    let p = err_from_is_err_and c.from_residual.result c.from_residual.ensures.1 in
    rw p.1 (λ e path.
    let q = p.2 in
    let wide : c.in_err-judge_list.field-0.0 ≡ too_wide = cc in
    rw (c.in-Elem.is, plain-Elem) (λ all. c.in_err-judge_list.ensures.wide wide (rw c.deref.ensures.value all.0)))

pub judge_node-returns-clause-wide : goal.judge_node-returns-clause-wide
judge_node-returns-clause-wide g t c =
    rw (c.in-Elem.is, plain-Elem) (IfErr-weaker c.judge_nodes.result _ _
    (λ y f e path all. f e path 0 all.1) (rw c.deref-2.ensures.value at c.judge_nodes.ensures.wide))

pub judge_node-returns-clause-judged : goal.judge_node-returns-clause-judged
judge_node-returns-clause-judged g t c =
    let d = dtd_of c.args.judge.now in
    let entered = g.G.Gate.entered c.args.gate.now in
    let kids = forest c.in-Elem.kids.items in
    let list : List ℕ → Listed Mark = λ path. record { path = path; owner = an_element c.in-Elem.name; kids = kids } in
    let owner : site_of d [] (an_element c.in-Elem.name)
    ≡ option_map plain_of c.element_owner-owner.result = element_site _ d [] _ c.in-Elem.name _
    (c.dtd.ensures ∙ ap dtd_of c.grammar.ensures) c.as_slice.ensures
    c.element_owner-owner.ensures.owner in
    rw (c.in-Elem.is, plain-Elem) (on_ok_weaker c.judge_nodes.result
    (λ others root path. judges_both d root entered c.args.first (list path ∷ []) (lists_from path 0 kids) c.args.verdicts.now.items c.judge_list.new.verdicts.items c.judge_nodes.new.verdicts.items
    (c.in_ok-judge_list.ensures.judged root (list path) (rw c.deref.ensures.value refl) owner tt) (rw c.deref-2.ensures.value at (others root path 0))) c.judge_nodes.ensures.judged)
