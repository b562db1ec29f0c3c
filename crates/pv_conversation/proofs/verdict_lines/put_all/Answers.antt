use Rattle.std.proofs.Common.{List, ap, arith, codes, decimal, suc, ℕ, ◌+◌, ◌++◌, ◌∙◌, ◌≡◌}
use Rattle.std.proofs.lemmas.Result.{err_from_is_err_and, on_err_weaker, on_ok_weaker}
use Rattle.pv_cache.specs.LaidMarks.{lists_in}
use Rattle.pv_tree.specs.PlainForms.{plain}
use Rattle.pv_conversation.specs.VerdictLines.{verdict_line, verdict_lines, verdicts_head}
use Rattle.pv_conversation.proofs.HeldReplies.{cut_first, cut_then, put_then}
use Rattle.pv_conversation.proofs.VerdictLines.{lists_few}
use Rattle.pv_conversation.proofs.verdict_lines.put_all.Goals as goal

pub overflow_add-lists_in : goal.overflow_add-lists_in
overflow_add-lists_in g c = omega (arith, c.lists_in.ensures, lists_few (plain c.args.doc.now.root), c.args.doc.now.small)

pub returns-in_err-put_head-clause-err : goal.returns-in_err-put_head-clause-err
returns-in_err-put_head-clause-err g c =
    let p = err_from_is_err_and c.from_residual.result c.from_residual.ensures.1 in
    let root = plain c.args.doc.now.root in
    let count : 1 + c.lists_in.result ≡ suc (lists_in root) = omega (arith, c.lists_in.ensures) in
    let front = rw count at c.in_err-put_head.ensures.err in
    rw p.1 (cut_first _ _ c.args.buffer.now (verdicts_head (suc (lists_in root))) (verdict_line (codes ".") c.args.doc.now.mark ++ verdict_lines (decimal 0) root) front)

pub returns-in_err-put_top-clause-err : goal.returns-in_err-put_top-clause-err
returns-in_err-put_top-clause-err g c =
    let p = err_from_is_err_and c.from_residual-in_err-put_top.result c.from_residual-in_err-put_top.ensures.1 in
    let root = plain c.args.doc.now.root in
    let count : 1 + c.lists_in.result ≡ suc (lists_in root) = omega (arith, c.lists_in.ensures) in
    let top = verdict_line (codes ".") c.args.doc.now.mark in
    let rows = verdict_lines (decimal 0) root in
    let head = rw count at c.in_ok-put_head.ensures.ok in
    rw p.1 (cut_then _ _ _ c.args.buffer.now c.put_head.new.buffer (verdicts_head (suc (lists_in root))) (top ++ rows) head (cut_first _ _ c.put_head.new.buffer top rows c.in_err-put_top.ensures.err))

pub returns-clause-ok : goal.returns-clause-ok
returns-clause-ok g c =
    let root = plain c.args.doc.now.root in
    let count : 1 + c.lists_in.result ≡ suc (lists_in root) = omega (arith, c.lists_in.ensures) in
    let top = verdict_line (codes ".") c.args.doc.now.mark in
    let rows = verdict_lines (decimal 0) root in
    let head = rw count at c.in_ok-put_head.ensures.ok in
    let line : c.append_number.new.self ≡ decimal 0 = c.append_number.ensures.digits ∙ ap (λ (h : List ℕ). h ++ decimal 0) c.put_top.ensures.empty in
    on_ok_weaker c.put_lists.result (λ more. put_then _ _ _ c.args.buffer.now c.put_head.new.buffer _ (verdicts_head (suc (lists_in root))) (top ++ rows) head
    (put_then _ _ _ c.put_head.new.buffer c.put_top.new.buffer _ top rows c.in_ok-put_top.ensures.ok (rw line at more))) c.put_lists.ensures.ok

pub returns-clause-err : goal.returns-clause-err
returns-clause-err g c =
    let root = plain c.args.doc.now.root in
    let count : 1 + c.lists_in.result ≡ suc (lists_in root) = omega (arith, c.lists_in.ensures) in
    let top = verdict_line (codes ".") c.args.doc.now.mark in
    let rows = verdict_lines (decimal 0) root in
    let head = rw count at c.in_ok-put_head.ensures.ok in
    let line : c.append_number.new.self ≡ decimal 0 = c.append_number.ensures.digits ∙ ap (λ (h : List ℕ). h ++ decimal 0) c.put_top.ensures.empty in
    on_err_weaker c.put_lists.result (λ more. cut_then _ _ _ c.args.buffer.now c.put_head.new.buffer (verdicts_head (suc (lists_in root))) (top ++ rows) head
    (cut_then _ _ _ c.put_head.new.buffer c.put_top.new.buffer top rows c.in_ok-put_top.ensures.ok (rw line at more))) c.put_lists.ensures.err
