use Rattle.std.proofs.Common.{ap, append_assoc, arith, codes, decimal, drop, length, refl, take, List, ℕ, ◌+◌, ◌++◌, ◌∙◌, ◌≡◌}
use Rattle.std.proofs.lemmas.Result.{err_from_is_err_and, on_err_weaker, on_ok_weaker}
use Rattle.pv_tree.specs.Plain.{depth_of, depth_of_all, nodes_in, nodes_in_all}
use Rattle.pv_tree.specs.PlainForms.{forest, plain}
use Rattle.pv_tree.proofs.Forests.{forest-drop, forest-end}
use Rattle.pv_tree.proofs.Levels.{plain-Elem}
use Rattle.pv_conversation.specs.VerdictLines.{verdict_line, verdict_lines_from}
use Rattle.pv_conversation.proofs.HeldReplies.{cut_first, cut_then, put_cut, put_more, put_none, put_then, put_whole}
use Rattle.pv_conversation.proofs.VerdictLines.{lines_step, path_kept, place_size}
use Rattle.pv_conversation.proofs.verdict_lines.+put.Goals as goal

pub put_kids-loop-i-init : goal.put_kids-loop-i-init
put_kids-loop-i-init g t c = record {
  same_line = refl;
  few_nodes = omega arith;
  shallow = omega arith;
  goes = put_none _ _ _;
  is_ready = c.requires.ready;
  stays = refl;
}

pub put_kids-put_lists-requires : goal.put_kids-put_lists-requires
put_kids-put_lists-requires g t c =
    let step = forest-drop c.args.kids.now c.loop-i.i c.index-kids-i.result (omega arith) c.index-kids-i.is in
    let size = place_size c.loop-i.line _ c.loop-i.i (c.append_number.ensures.digits ∙ ap (λ (h : List ℕ). h ++ decimal c.loop-i.i) c.append.ensures) c.append_number.ensures.few in
    λ lives within. (
      omega (arith, ap nodes_in_all step, c.loop-i.invariant.few_nodes, c.decreases),
      (within, (omega (arith, ap depth_of_all step, c.loop-i.invariant.shallow, c.requires.room, ap length c.loop-i.invariant.same_line, size), c.loop-i.invariant.is_ready)),
    )

pub put_kids-loop-i-preserved : goal.put_kids-loop-i-preserved
put_kids-loop-i-preserved g t c =
    let kid = c.index-kids-i.result in
    let path = c.args.line.now in
    let step = forest-drop c.args.kids.now c.loop-i.i kid (omega arith) c.index-kids-i.is in
    let whole = lines_step path c.loop-i.i (forest (drop c.loop-i.i c.args.kids.now)) (forest (drop (c.loop-i.i + 1) c.args.kids.now)) (plain kid) step in
    let here : c.append_number.new.self ≡ path ++ (codes "." ++ decimal c.loop-i.i) =
    c.append_number.ensures.digits ∙ ap (λ (h : List ℕ). h ++ decimal c.loop-i.i)
    (c.append.ensures ∙ ap (λ (h : List ℕ). h ++ codes ".") c.loop-i.invariant.same_line)
    ∙ append_assoc path (codes ".") (decimal c.loop-i.i) in
    record {
      same_line = c.cut.ensures ∙ ap (λ (h : List ℕ). take c.size-path.result h)
          (c.in_ok-put_lists.ensures.same ∙ here) ∙ path_kept path (codes "." ++ decimal c.loop-i.i)
          c.size-path.result c.size-path.ensures;
      few_nodes = omega (arith, ap nodes_in_all step, c.loop-i.invariant.few_nodes);
      shallow = omega (arith, ap depth_of_all step, c.loop-i.invariant.shallow);
      goes = put_more _ _ _ _ _ _ _ _ _ _ c.loop-i.invariant.goes whole (rw here at c.in_ok-put_lists.ensures.ok);
      is_ready = c.in_ok-put_lists.ensures.ready;
      stays = c.in_ok-put_lists.ensures.cause ∙ c.loop-i.invariant.stays;
    }

pub put_kids-returns-in_err-put_lists-clause-err : goal.put_kids-returns-in_err-put_lists-clause-err
put_kids-returns-in_err-put_lists-clause-err g t c =
    let kid = c.index-kids-i.result in
    let path = c.args.line.now in
    let step = forest-drop c.args.kids.now c.loop-i.i kid (omega arith) c.index-kids-i.is in
    let whole = lines_step path c.loop-i.i (forest (drop c.loop-i.i c.args.kids.now)) (forest (drop (c.loop-i.i + 1) c.args.kids.now)) (plain kid) step in
    let here : c.append_number.new.self ≡ path ++ (codes "." ++ decimal c.loop-i.i) =
    c.append_number.ensures.digits ∙ ap (λ (h : List ℕ). h ++ decimal c.loop-i.i)
    (c.append.ensures ∙ ap (λ (h : List ℕ). h ++ codes ".") c.loop-i.invariant.same_line)
    ∙ append_assoc path (codes ".") (decimal c.loop-i.i) in
    let p = err_from_is_err_and c.from_residual.result c.from_residual.ensures.1 in
    rw p.1 (put_cut _ _ _ _ _ _ _ _ _ c.loop-i.invariant.goes whole (rw here at c.in_err-put_lists.ensures.err))

pub put_kids-returns-clause-ok : goal.put_kids-returns-clause-ok
put_kids-returns-clause-ok g t c =
    put_whole _ _ _ _ _ _ c.loop-i.invariant.goes (ap (verdict_lines_from c.args.line.now c.loop-i.i) (forest-end c.args.kids.now c.loop-i.i (omega arith)))

pub put_lists-returns-in_err-put_list-clause-err : goal.put_lists-returns-in_err-put_list-clause-err
put_lists-returns-in_err-put_list-clause-err g t c =
    let p = err_from_is_err_and c.from_residual.result c.from_residual.ensures.1 in
    rw (p.1, c.in-Elem.is, plain-Elem) (cut_first _ _ c.args.buffer.now
    (verdict_line c.args.line.now c.in-Elem.mark) (verdict_lines_from c.args.line.now 0
    (forest c.in-Elem.kids.items)) c.in_err-put_list.ensures.err)

pub put_lists-put_kids-requires : goal.put_lists-put_kids-requires
put_lists-put_kids-requires g t c =
    let is = ap plain c.in-Elem.is ∙ plain-Elem c.in-Elem.name c.in-Elem.attrs c.in-Elem.end c.in-Elem.kids c.in-Elem.mark in
    let kids : forest c.deref.result.now ≡ forest c.in-Elem.kids.items = ap forest c.deref.ensures.value in
    λ lives within. (
      omega (arith, ap nodes_in is, ap nodes_in_all kids, c.decreases),
      (within, (omega (arith, ap depth_of is, ap depth_of_all kids, c.requires.room, ap length c.put_list.ensures.same), c.in_ok-put_list.ensures.ready)),
    )

pub put_lists-returns-clause-ok : goal.put_lists-returns-clause-ok
put_lists-returns-clause-ok g t c =
    rw (c.in-Elem.is, plain-Elem) (on_ok_weaker c.put_kids.result
    (λ more. put_then _ _ _ c.args.buffer.now c.put_list.new.buffer _ (verdict_line c.args.line.now
    c.in-Elem.mark) (verdict_lines_from c.args.line.now 0 (forest c.in-Elem.kids.items))
    c.in_ok-put_list.ensures.ok (rw (c.put_list.ensures.same, c.deref.ensures.value) at more))
    c.put_kids.ensures.ok)

pub put_lists-returns-clause-err : goal.put_lists-returns-clause-err
put_lists-returns-clause-err g t c =
    rw (c.in-Elem.is, plain-Elem) (on_err_weaker c.put_kids.result
    (λ more. cut_then _ _ _ c.args.buffer.now c.put_list.new.buffer (verdict_line c.args.line.now
    c.in-Elem.mark) (verdict_lines_from c.args.line.now 0 (forest c.in-Elem.kids.items))
    c.in_ok-put_list.ensures.ok (rw (c.put_list.ensures.same, c.deref.ensures.value) at more))
    c.put_kids.ensures.err)
