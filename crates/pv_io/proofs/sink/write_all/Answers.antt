use Rattle.std.proofs.Common.{arith, ◌∙◌}
use Rattle.std.proofs.lemmas.List.{length-drop}
use Rattle.pv_io.proofs.Moves.{appends_rest, rest_whole}
use Rattle.pv_io.proofs.sink.write_all.Goals as goal

pub loop-at-preserved : goal.loop-at-preserved
loop-at-preserved g c =
    let bound = simp (rest_whole, length-drop) at c.in_ok-at.ensures.bound.within in
    record {
      within = omega arith;
      written = appends_rest _ _ _ c.args.bytes.now c.loop-at.at c.in_ok-at.field-0 c.loop-at.invariant.written c.in_ok-at.ensures.bytes;
      stays = c.in_ok-at.ensures.cause ∙ c.loop-at.invariant.stays;
      is_ready = c.in_ok-at.ensures.ready;
    }
