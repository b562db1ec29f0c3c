use Rattle.std.proofs.Common.{◌≡◌, ◌+◌, [], ◌∷◌, ◌++◌, get_or, take, drop, refl, ◌∙◌}
use Rattle.std.proofs.lemmas.List.{take_more}
use Rattle.pv_io.proofs.Streams.{appends_behind, appends_none, front_behind}
use Rattle.pv_many.proofs.Pieces.{cut_after, cut_here, goes_byte, goes_name, goes_none, stops_byte, stops_name}
use Rattle.pv_many.proofs.input.answer_piece.Goals as goal
use Rattle.pv_many.proofs.input.answer_piece.Goals.{then-byte-eq0+in-Ok, else-byte-eq0+in-Ok-push}

pub loop-byte-init : goal.loop-byte-init
loop-byte-init g c = record {
  so_far = goes_none _ _ _ _ c.args.held.now.items _ c.requires.unended (appends_none _);
  stays = refl;
  same_question = refl;
  same_dtd = refl;
  is_ready = c.requires.ready;
}

pub loop-byte-preserved : goal.loop-byte-preserved
loop-byte-preserved g c =
    let inv = c.loop-byte.invariant in
    let piece = c.args.piece.now in
    let i = c.loop-byte.byte-index in
    let more : take (i + 1) piece ≡ take i piece ++ get_or piece i 0 ∷ [] = take_more piece i 0 c.loop-byte-test.true in
    elim c.if-byte-eq0.branch [
      | then-byte-eq0+in-Ok w ↦
          let one = rw (inv.same_question, inv.same_dtd, w.as_slice.ensures.value) at w.in-Ok.ensures.ok in
          rw (w.archive-is, w.inquiry-is, w.held-is, w.out-is, more, w.clear.ensures.items) (record {
            so_far = goes_name _ _ _ _ _ _ _ _ _ _ _ _ _ (λ s t. appends_behind _ _ _ s t) inv.so_far w.if-byte-eq0.true one;
            stays = w.in-Ok.ensures.cause ∙ inv.stays;
            same_question = w.answer_name.ensures.question ∙ inv.same_question;
            same_dtd = w.answer_name.ensures.dtd ∙ inv.same_dtd;
            is_ready = w.in-Ok.ensures.ready;
          })
      | else-byte-eq0+in-Ok-push w ↦
          rw (w.archive-is, w.inquiry-is, w.held-is, w.out-is, more, w.in-Ok-push.ensures.items) (record {
            so_far = goes_byte _ _ _ _ _ _ _ _ _ _ inv.so_far w.if-byte-eq0.false;
            stays = inv.stays;
            same_question = inv.same_question;
            same_dtd = inv.same_dtd;
            is_ready = inv.is_ready;
          })
    ]

pub returns-in_default-clause-err : goal.returns-in_default-clause-err
returns-in_default-clause-err g c =
    let inv = c.loop-byte.invariant in
    let piece = c.args.piece.now in
    let i = c.loop-byte.byte-index in
    let one = rw (inv.same_question, inv.same_dtd, c.as_slice.ensures.value) at c.in_default.ensures.err in
    stops_name _ _ _ _ _ _ _ _ _ _ _ _ _ (λ s t. front_behind _ _ _ s t) inv.so_far
    c.if-byte-eq0.true one piece (drop (i + 1) piece) (cut_after piece i 0 c.loop-byte-test.true)

pub returns-in_default-push-clause-err : goal.returns-in_default-push-clause-err
returns-in_default-push-clause-err g c =
    let inv = c.loop-byte.invariant in
    let piece = c.args.piece.now in
    let i = c.loop-byte.byte-index in
    stops_byte _ _ _ _ _ _ _ _ _ inv.so_far piece (drop i piece) (cut_here piece i)
