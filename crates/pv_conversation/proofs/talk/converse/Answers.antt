use Rattle.std.proofs.Common.{◌≡◌, ◌<◌, ◌≤◌, ◌++◌, [], false, true, length, take, codes, decimal, refl, ◌∙◌, arith}
use Rattle.std.proofs.lemmas.Grind.{common_steps}
use Rattle.std.proofs.lemmas.List.{length-append, length-take}
use Rattle.pv_opening.specs.Course.{input_fault, output_fault}
use Rattle.pv_opening.specs.ShownCourses.{cut_off, wrote}
use Rattle.pv_conversation.specs.Script.{MAX_SCRIPT_BYTES}
use Rattle.pv_conversation.specs.Session.{all_told, limited}
use Rattle.pv_conversation.proofs.Conversations.{has_course, no_room}
use Rattle.pv_opening.proofs.AskedInputs.{asked_more, asked_none, asked_once, asked_within}
use Rattle.pv_opening.proofs.AskedInputs.{writes_from}
use Rattle.pv_io.proofs.Streams.{not_at_end, append_none, consumes_kept, consumes_more}
use Rattle.pv_io.proofs.Streams.{consumes_none, piece_kept}
use Rattle.pv_conversation.proofs.ConversationLines.{begins, fails}
use Rattle.pv_conversation.proofs.talk.converse.Goals as goal
use Rattle.pv_conversation.proofs.talk.converse.Goals.{in-Ok-finish, in-Err}

pub returns-in_default : goal.returns-in_default
returns-in_default g c = no_room _ _ _ _

pub returns-in_default-zeros : goal.returns-in_default-zeros
returns-in_default-zeros g c = no_room _ _ _ _

pub returns-in_default-new : goal.returns-in_default-new
returns-in_default-new g c = no_room _ _ _ _

pub pieces-init : goal.pieces-init
pieces-init g c = record {
  script = [];
  so_far = rw c.in-Ok.ensures (begins _ _);
  taken = consumes_none _;
  asked = asked_none _;
  within = omega arith;
  input_stays = refl;
  stays = refl;
  roomy = c.in-Ok-zeros.ensures;
  none = c.in-Ok-new.ensures;
  is_ready = c.requires;
}

pub returns-in_default-fill : goal.returns-in_default-fill
returns-in_default-fill g c =
    let talk = c.pieces.invariant in
    let so = fails _ _ _ _ _ _ talk.so_far (omega (arith, talk.within)) in
    has_course _ talk.script so.silent false (input_fault so.out) _ _ _ _ _ _ _ so.ends
    (consumes_kept _ _ _ _ talk.taken c.in_default-fill.ensures.bytes) (asked_once _ _ _ _ _ talk.asked c.fill.ensures.calls) (not_at_end _) (λ n. refl)
    (rw talk.input_stays at c.in_default-fill.ensures.cause) (wrote refl refl so.written talk.stays)
    so.counts

pub returns-then-count-eq0 : goal.returns-then-count-eq0
returns-then-count-eq0 g c =
    let talk = c.pieces.invariant in
    let bytes = c.in-Ok-fill.ensures.bytes in
    let none : take c.in-Ok-fill.count c.fill.new.buf ≡ [] = grind (arith, common_steps, c.if-count-eq0.true) in
    let room : 0 < length c.fill.new.buf = omega (arith, talk.roomy, c.deref_mut.ensures.len, c.fill.auto.buf) in
    let taken = rw (append_none _ _ none) at (consumes_more _ _ _ _ _ talk.taken bytes.0) in
    let within : length talk.script ≤ MAX_SCRIPT_BYTES = omega (arith, talk.within) in
    let counts = c.in-Ok-fill.ensures.cause ∙ talk.input_stays in
    elim c.match-finish.branch [
      | in-Ok-finish w ↦
          let so = w.in-Ok-finish.ensures.finished _ talk.script _ within talk.so_far in
          rw w.result-is (has_course _ talk.script so.silent true (all_told so.out) _ _ _ _ _ _ _
          so.ends taken (asked_once _ _ _ _ _ talk.asked c.fill.ensures.calls)
          (λ e. bytes.1 c.if-count-eq0.true room) (λ n. refl)
          counts (wrote refl refl so.written (w.in-Ok-finish.ensures.cause ∙ talk.stays)) so.counts)
      | in-Err w ↦
          let so = w.in-Err.ensures.finished _ talk.script _ within talk.so_far in
          rw w.result-is (has_course _ talk.script so.silent true (all_told so.out) _ _ _ _ _ _ _
          so.ends taken (asked_once _ _ _ _ _ talk.asked c.fill.ensures.calls)
          (λ e. bytes.1 c.if-count-eq0.true room) (λ n. refl)
          counts (cut_off so.out refl refl so.written (rw talk.stays at w.in-Err.ensures.cause)) so.counts)
    ]

pub pieces-preserved : goal.pieces-preserved
pieces-preserved g c =
    let talk = c.pieces.invariant in
    let whole : length c.fill.new.buf ≡ c.pieces.piece.len = omega (arith, c.deref_mut.ensures.len, c.fill.auto.buf) in
    let kept = piece_kept c.fill.new.buf c.pieces.piece.items c.pieces.piece.len whole in
    let some : 0 < length (take c.in-Ok-fill.count c.fill.new.buf) = omega (arith, length-take c.in-Ok-fill.count c.fill.new.buf, c.in-Ok-fill.ensures.bound.1, c.if-count-eq0.false) in
    let next = rw c.in-Ok-More.field-0-is at (c.in-Ok-More.ensures.next _ talk.script _ talk.within talk.so_far) in
    let fits = rw (c.in-Ok-More.field-0-is, c.deref.ensures.value, kept) at c.in-Ok-More.ensures.fits in
    record {
      script = talk.script ++ take c.in-Ok-fill.count c.fill.new.buf;
      so_far = rw (c.deref.ensures.value, kept) at next;
      taken = consumes_more _ _ _ _ _ talk.taken c.in-Ok-fill.ensures.bytes.0;
      asked = asked_more talk.script _ _ _ _ _ talk.asked c.in-Ok-fill.ensures.calls c.if-count-eq0.false some;
      within = omega (
        arith,
        talk.within,
        fits,
        c.in-Ok-More.ensures.left,
        c.in-Ok-fill.ensures.bound.1,
        length-take c.in-Ok-fill.count c.fill.new.buf,
        length-append talk.script (take c.in-Ok-fill.count c.fill.new.buf),
      );
      input_stays = c.in-Ok-fill.ensures.cause ∙ talk.input_stays;
      stays = c.in-Ok-More.ensures.cause ∙ talk.stays;
      roomy = talk.roomy;
      none = c.in-Ok-More.ensures.none;
      is_ready = c.in-Ok-More.ensures.ready;
    }

pub returns-in-Ok-Quit : goal.returns-in-Ok-Quit
returns-in-Ok-Quit g c =
    let talk = c.pieces.invariant in
    let whole : length c.fill.new.buf ≡ c.pieces.piece.len = omega (arith, c.deref_mut.ensures.len, c.fill.auto.buf) in
    let kept = piece_kept c.fill.new.buf c.pieces.piece.items c.pieces.piece.len whole in
    let some : 0 < length (take c.in-Ok-fill.count c.fill.new.buf) = omega (arith, length-take c.in-Ok-fill.count c.fill.new.buf, c.in-Ok-fill.ensures.bound.1, c.if-count-eq0.false) in
    let ended = rw c.in-Ok-Quit.field-0-is at (c.in-Ok-Quit.ensures.next _ talk.script _ talk.within talk.so_far) in
    let so = rw (c.deref.ensures.value, kept) at ended in
    has_course _ (talk.script ++ take c.in-Ok-fill.count c.fill.new.buf) so.silent false (all_told so.out) _ _ _ _ _ _ _ so.ends
    (consumes_more _ _ _ _ _ talk.taken c.in-Ok-fill.ensures.bytes.0) (asked_within _ _ _
    (asked_more talk.script _ _ _ _ _ talk.asked c.in-Ok-fill.ensures.calls c.if-count-eq0.false
    some)) (not_at_end _) (λ n. refl) (c.in-Ok-fill.ensures.cause ∙ talk.input_stays)
    (wrote refl refl so.written (c.in-Ok-Quit.ensures.cause ∙ talk.stays))
    so.counts

pub returns-in-Ok-LineLimit : goal.returns-in-Ok-LineLimit
returns-in-Ok-LineLimit g c =
    let talk = c.pieces.invariant in
    let whole : length c.fill.new.buf ≡ c.pieces.piece.len = omega (arith, c.deref_mut.ensures.len, c.fill.auto.buf) in
    let kept = piece_kept c.fill.new.buf c.pieces.piece.items c.pieces.piece.len whole in
    let some : 0 < length (take c.in-Ok-fill.count c.fill.new.buf) = omega (arith, length-take c.in-Ok-fill.count c.fill.new.buf, c.in-Ok-fill.ensures.bound.1, c.if-count-eq0.false) in
    let ended = rw c.in-Ok-LineLimit.field-0-is at (c.in-Ok-LineLimit.ensures.next _ talk.script _ talk.within talk.so_far) in
    let so = rw (c.deref.ensures.value, kept) at ended in
    has_course _ (talk.script ++ take c.in-Ok-fill.count c.fill.new.buf) so.silent false (limited so.out (codes "limit line " ++ decimal c.answer_piece.new.reading.number))
    _ _ _ _ _ _ _ so.ends (consumes_more _ _ _ _ _ talk.taken c.in-Ok-fill.ensures.bytes.0)
    (asked_within _ _ _ (asked_more talk.script _ _ _ _ _ talk.asked c.in-Ok-fill.ensures.calls
    c.if-count-eq0.false some)) (not_at_end _) (λ n. refl) (c.in-Ok-fill.ensures.cause ∙ talk.input_stays)
    (writes_from _ _ _ _ _ _ _ (c.in-Ok-LineLimit.ensures.cause ∙ talk.stays) (c.announce_line.ensures _ so.out so.written))
    so.counts

pub returns-in-Ok-ScriptLimit : goal.returns-in-Ok-ScriptLimit
returns-in-Ok-ScriptLimit g c =
    let talk = c.pieces.invariant in
    let whole : length c.fill.new.buf ≡ c.pieces.piece.len = omega (arith, c.deref_mut.ensures.len, c.fill.auto.buf) in
    let kept = piece_kept c.fill.new.buf c.pieces.piece.items c.pieces.piece.len whole in
    let some : 0 < length (take c.in-Ok-fill.count c.fill.new.buf) = omega (arith, length-take c.in-Ok-fill.count c.fill.new.buf, c.in-Ok-fill.ensures.bound.1, c.if-count-eq0.false) in
    let ended = rw c.in-Ok-ScriptLimit.field-0-is at (c.in-Ok-ScriptLimit.ensures.next _ talk.script _ talk.within talk.so_far) in
    let so = rw (c.deref.ensures.value, kept) at ended in
    has_course _ (talk.script ++ take c.in-Ok-fill.count c.fill.new.buf) so.silent false (limited so.out (codes "limit script"))
    _ _ _ _ _ _ _ so.ends (consumes_more _ _ _ _ _ talk.taken c.in-Ok-fill.ensures.bytes.0)
    (asked_within _ _ _ (asked_more talk.script _ _ _ _ _ talk.asked c.in-Ok-fill.ensures.calls
    c.if-count-eq0.false some)) (not_at_end _) (λ n. refl) (c.in-Ok-fill.ensures.cause ∙ talk.input_stays)
    (writes_from _ _ _ _ _ _ _ (c.in-Ok-ScriptLimit.ensures.cause ∙ talk.stays) (c.announce.ensures _ so.out so.written))
    so.counts

pub returns-in-Err-answer_piece : goal.returns-in-Err-answer_piece
returns-in-Err-answer_piece g c =
    let talk = c.pieces.invariant in
    let whole : length c.fill.new.buf ≡ c.pieces.piece.len = omega (arith, c.deref_mut.ensures.len, c.fill.auto.buf) in
    let kept = piece_kept c.fill.new.buf c.pieces.piece.items c.pieces.piece.len whole in
    let some : 0 < length (take c.in-Ok-fill.count c.fill.new.buf) = omega (arith, length-take c.in-Ok-fill.count c.fill.new.buf, c.in-Ok-fill.ensures.bound.1, c.if-count-eq0.false) in
    let so = rw (c.deref.ensures.value, kept) at (c.in-Err-answer_piece.ensures.next _ talk.script _ talk.within talk.so_far) in
    has_course _ (talk.script ++ take c.in-Ok-fill.count c.fill.new.buf) so.silent false (output_fault so.out) _ _ _ _ _ _ _ so.ends
    (consumes_more _ _ _ _ _ talk.taken c.in-Ok-fill.ensures.bytes.0) (asked_within _ _ _
    (asked_more talk.script _ _ _ _ _ talk.asked c.in-Ok-fill.ensures.calls c.if-count-eq0.false
    some)) (not_at_end _) (λ n. refl) (c.in-Ok-fill.ensures.cause ∙ talk.input_stays)
    (cut_off so.out refl refl so.written (rw talk.stays at c.in-Err-answer_piece.ensures.cause))
    so.counts

pub fill-requires : goal.fill-requires
fill-requires g c = omega (arith, c.pieces.invariant.roomy, c.deref_mut.ensures.len)
