use Rattle.std.proofs.Common.{◌-◌, ◌∙◌, sym, refl, arith}
use Rattle.pv_edit.proofs.RunSearches.{last-run}
use Rattle.pv_edit.proofs.close_marks.last_run.Goals as goal

pub returns-then-not-is_text : goal.returns-then-not-is_text
returns-then-not-is_text c =
    last-run c.args.nodes.now _ (c.loop-place.place - 1) c.index-nodes-place.result
    (omega (arith, c.loop-place-test.true, c.loop-place.auto.place)) c.index-nodes-place.is
    (sym c.is_text.ensures ∙ c.if-not-is_text.true) refl
