use Rattle.std.proofs.Common.{◌≡◌, ◌≤◌, ◌<◌, ◌++◌, [], length, take, refl, ◌∙◌, arith}
use Rattle.std.proofs.lemmas.Grind.{common_steps}
use Rattle.std.proofs.lemmas.List.{length-append, length-take}
use Rattle.pv_opening.specs.ShownCourses.{cut_off, wrote}
use Rattle.pv_many.specs.Many.{max_names_bytes}
use Rattle.pv_many.proofs.NamedAnswers.{answers_none}
use Rattle.pv_opening.proofs.AskedInputs.{asked_more, asked_none, asked_once}
use Rattle.pv_io.proofs.Streams.{append_none, appends_none, consumes_kept, consumes_more}
use Rattle.pv_many.proofs.Inputs.{has_course, no_room}
use Rattle.pv_opening.proofs.AskedInputs.{writes_from}
use Rattle.pv_io.proofs.Streams.{consumes_none, not_at_end, piece_kept}
use Rattle.pv_many.proofs.NamesRead.{names_none}
use Rattle.pv_many.proofs.Pieces.{cut_at, done_with, ended_all, ended_at_input, ended_at_last}
use Rattle.pv_many.proofs.Pieces.{ended_at_piece, ended_by_limit, ended_within}
use Rattle.pv_many.proofs.Pieces.{ended_without_memory}
use Rattle.pv_many.proofs.Pieces.{failed_after, less_left, limited_after, reads_more, short_after}
use Rattle.pv_many.proofs.Pieces.{some_taken}
use Rattle.pv_many.proofs.input.answer_input.Goals as goal
use Rattle.pv_many.proofs.input.answer_input.Goals.{in-Ok-answer_last, in-Err}

pub returns-in_default : goal.returns-in_default
returns-in_default g c = no_room _ _ _ _ _ _

pub pieces-init : goal.pieces-init
pieces-init g c = record {
  reads = rw c.new-held.ensures.items (record {
    script = [];
    answers = [];
    are_names = names_none;
    so_far = answers_none _ _ _ _ _ (appends_none _);
    taken = consumes_none _;
    asked = asked_none _;
    few = refl;
  });
  input_stays = refl;
  stays = refl;
  roomy = c.in-Ok.ensures;
  same_question = refl;
  same_dtd = refl;
  is_ready = c.requires;
}

pub returns-in_default-fill : goal.returns-in_default-fill
returns-in_default-fill g c =
    let inv = c.pieces.invariant in
    let reads = inv.reads in
    let ended = ended_at_input _ _ _ _ _ _ _ _ reads.script reads.answers reads.are_names reads.so_far in
    has_course _ _ _ reads.script ended.answers _ (failed_after ended.answers) _ _ _ _ _ _ _ ended.ends ended.so_far.answered ended.so_far.shelf
    (consumes_kept _ _ _ _ reads.taken c.in_default-fill.ensures.bytes) (asked_once _ _ _ _ _ reads.asked c.fill.ensures.calls) (not_at_end _) (λ n. refl)
    (rw inv.input_stays at c.in_default-fill.ensures.cause) (wrote refl refl ended.so_far.shown inv.stays)

pub returns-then-count-eq0 : goal.returns-then-count-eq0
returns-then-count-eq0 g c =
    let inv = c.pieces.invariant in
    let reads = inv.reads in
    let bytes = c.in-Ok-fill.ensures.bytes in
    let none : take c.in-Ok-fill.count c.fill.new.buf ≡ [] = grind (arith, common_steps, c.if-count-eq0.true) in
    let room : 0 < length c.fill.new.buf = omega (arith, inv.roomy, c.deref_mut.ensures.len, c.fill.auto.buf) in
    let taken = rw (append_none _ _ none) at (consumes_more _ _ _ _ _ reads.taken bytes.0) in
    let counts = c.in-Ok-fill.ensures.cause ∙ inv.input_stays in
    let within : length reads.script ≤ max_names_bytes = omega (arith, reads.few) in
    elim c.match-answer_last.branch [
      | in-Ok-answer_last w ↦
          let last = rw (inv.same_question, inv.same_dtd, c.deref.ensures.value) at w.in-Ok-answer_last.ensures.ok in
          let ended = ended_all _ _ _ _ _ _ _ _ reads.script reads.answers reads.are_names
          reads.so_far _ _ within last in
          rw w.result-is (has_course _ _ _ reads.script ended.answers _ (done_with ended.answers) _
          _ _ _ _ _ _ ended.ends ended.so_far.answered ended.so_far.shelf
          taken (asked_once _ _ _ _ _ reads.asked c.fill.ensures.calls) (λ e. bytes.1 c.if-count-eq0.true room) (λ n. refl)
          counts (wrote refl refl ended.so_far.shown (w.in-Ok-answer_last.ensures.cause ∙ inv.stays)))
      | in-Err w ↦
          let last = rw (inv.same_question, inv.same_dtd, c.deref.ensures.value) at w.in-Err.ensures.err in
          let ended = ended_at_last _ _ _ _ _ _ _ _ reads.script reads.answers reads.are_names reads.so_far _ _ last in
          rw w.result-is (has_course _ _ _ reads.script ended.answers _ (cut_at ended.answers) _ _ _ _ _ _ _ ended.ends ended.so_far.answered ended.so_far.shelf
          taken (asked_once _ _ _ _ _ reads.asked c.fill.ensures.calls) (not_at_end _) (λ n. refl)
          counts (cut_off _ refl refl ended.so_far.shown (rw inv.stays at w.in-Err.ensures.cause)))
    ]

pub returns-then-count-left : goal.returns-then-count-left
returns-then-count-left g c =
    let inv = c.pieces.invariant in
    let reads = inv.reads in
    let piece = take c.in-Ok-fill.count c.fill.new.buf in
    let some = some_taken c.in-Ok-fill.count c.fill.new.buf c.in-Ok-fill.ensures.bound.1
    c.if-count-eq0.false in
    let many : max_names_bytes < length (reads.script ++ piece) =
    omega (
      arith,
      reads.few,
      length-append reads.script piece,
      length-take c.in-Ok-fill.count c.fill.new.buf,
      c.in-Ok-fill.ensures.bound.1,
      c.if-count-left.true,
    ) in
    let ended = ended_by_limit _ _ _ _ _ _ _ _ reads.script reads.answers reads.are_names
    reads.so_far piece many in
    ended_at_piece _ _ _ _ _ _ _ _ _ _ _ _ _ _ _ c.in-Ok-fill.count piece limited_after _ _ reads
    ended c.in-Ok-fill.ensures.bytes.0 c.in-Ok-fill.ensures.calls c.if-count-eq0.false some
    (λ n. refl)
    (c.in-Ok-fill.ensures.cause ∙ inv.input_stays) (writes_from _ _ _ _ _ _ _ inv.stays (c.announce_limit.ensures _ _ ended.so_far.shown))

pub pieces-preserved : goal.pieces-preserved
pieces-preserved g c =
    let inv = c.pieces.invariant in
    let reads = inv.reads in
    let kept = piece_kept c.fill.new.buf c.pieces.piece.items c.pieces.piece.len
    (omega (arith, c.deref_mut.ensures.len, c.fill.auto.buf)) in
    let some = some_taken c.in-Ok-fill.count c.fill.new.buf c.in-Ok-fill.ensures.bound.1
    c.if-count-eq0.false in
    let within : c.in-Ok-fill.count ≤ c.pieces.left = omega (arith, c.if-count-left.false) in
    let long : length (take c.in-Ok-fill.count c.fill.new.buf) ≡ c.in-Ok-fill.count =
    omega (arith, length-take c.in-Ok-fill.count c.fill.new.buf, c.in-Ok-fill.ensures.bound.1) in
    let goes = rw (inv.same_question, inv.same_dtd, c.deref-in-pieces.ensures.value, kept) at c.in-Ok-answer_piece.ensures.ok in
    record {
      reads =
          reads_more _ _ _ _ _ _ _ _ reads.script reads.answers reads.are_names reads.so_far
          (take c.in-Ok-fill.count c.fill.new.buf) _ _ _ _ _ _ _ _ goes
          (consumes_more _ _ _ _ _ reads.taken c.in-Ok-fill.ensures.bytes.0)
          (asked_more reads.script _ _ _ _ _ reads.asked c.in-Ok-fill.ensures.calls
          c.if-count-eq0.false some)
          (less_left c.pieces.left c.in-Ok-fill.count reads.script
          (take c.in-Ok-fill.count c.fill.new.buf) reads.few within long);
      input_stays = c.in-Ok-fill.ensures.cause ∙ inv.input_stays;
      stays = c.in-Ok-answer_piece.ensures.stays ∙ inv.stays;
      roomy = inv.roomy;
      same_question = c.answer_piece.ensures.question ∙ inv.same_question;
      same_dtd = c.answer_piece.ensures.dtd ∙ inv.same_dtd;
      is_ready = c.in-Ok-answer_piece.ensures.ready;
    }

pub returns-in-Err-OutOfMemory : goal.returns-in-Err-OutOfMemory
returns-in-Err-OutOfMemory g c =
    let inv = c.pieces.invariant in
    let halt = c.in-Err-OutOfMemory in
    let piece = take c.in-Ok-fill.count c.fill.new.buf in
    let kept = piece_kept c.fill.new.buf c.pieces.piece.items c.pieces.piece.len
    (omega (arith, c.deref_mut.ensures.len, c.fill.auto.buf)) in
    let halts = rw halt.field-0-is at halt.ensures.err in
    let stops = rw (inv.same_question, inv.same_dtd, c.deref-in-pieces.ensures.value, kept) at halts in
    let stays = rw halt.field-0-is at halt.ensures.cause in
    let ended = ended_without_memory _ _ _ _ _ _ _ _ inv.reads.script inv.reads.answers
    inv.reads.are_names inv.reads.so_far piece _ _ stops in
    ended_at_piece _ _ _ _ _ _ _ _ _ _ _ _ _ _ _ c.in-Ok-fill.count piece short_after _ _ inv.reads
    ended c.in-Ok-fill.ensures.bytes.0 c.in-Ok-fill.ensures.calls c.if-count-eq0.false
    (some_taken c.in-Ok-fill.count c.fill.new.buf c.in-Ok-fill.ensures.bound.1 c.if-count-eq0.false)
    (λ n. refl)
    (c.in-Ok-fill.ensures.cause ∙ inv.input_stays) (wrote refl refl ended.so_far.shown (stays ∙ inv.stays))

pub returns-in-Err-OutputFault : goal.returns-in-Err-OutputFault
returns-in-Err-OutputFault g c =
    let inv = c.pieces.invariant in
    let reads = inv.reads in
    let halt = c.in-Err-OutputFault in
    let fill = c.in-Ok-fill.ensures in
    let piece = take c.in-Ok-fill.count c.fill.new.buf in
    let kept = piece_kept c.fill.new.buf c.pieces.piece.items c.pieces.piece.len
    (omega (arith, c.deref_mut.ensures.len, c.fill.auto.buf)) in
    let stops = rw (inv.same_question, inv.same_dtd, c.deref-in-pieces.ensures.value, kept) at
    (rw halt.field-0-is at halt.ensures.err) in
    let rose = rw halt.field-0-is at halt.ensures.cause in
    let some = some_taken c.in-Ok-fill.count c.fill.new.buf fill.bound.1 c.if-count-eq0.false in
    let ended = ended_within _ _ _ _ _ _ _ _ reads.script reads.answers reads.are_names reads.so_far piece _ _ stops in
    ended_at_piece _ _ _ _ _ _ _ _ _ _ _ _ _ _ _ c.in-Ok-fill.count piece cut_at _ _ reads ended
    fill.bytes.0 fill.calls c.if-count-eq0.false some (λ n. refl)
    (fill.cause ∙ inv.input_stays) (cut_off _ refl refl ended.so_far.shown (rw inv.stays at rose))
