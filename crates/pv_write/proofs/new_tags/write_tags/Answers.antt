use Rattle.std.proofs.Common.{arith, drop, length, refl, sym, ◌+◌, ◌∷◌, ◌≡◌}
use Rattle.pv_dtd.specs.PlainForms.{plain_dtd}
use Rattle.pv_write.specs.PieceForms.{plain_pieces}
use Rattle.pv_write.specs.Pieces.{finish, start}
use Rattle.pv_write.specs.WritingForms.{writing_of}
use Rattle.pv_write.specs.declared.pieces.Piece.TheVariants as piece
use Rattle.pv_write.proofs.TaggedNodes.{next_piece, up_finish, up_join, up_none, up_start}
use Rattle.pv_write.proofs.new_tags.write_tags.Goals as goal
use Rattle.pv_write.proofs.new_tags.write_tags.Goals.{in-Start+in_ok-start_new-in-Start}
use Rattle.pv_write.proofs.new_tags.write_tags.Goals.{in-End+in_ok-end_new-in-End}

pub loop-place-init : goal.loop-place-init
loop-place-init c =
    λ k. up_none (plain_dtd c.args.dtd.now) (plain_pieces (drop c.args.from c.args.pieces.now)) k
    (writing_of c.args.out.now)

pub loop-place-preserved : goal.loop-place-preserved
loop-place-preserved c = λ k.
    let g = plain_dtd c.args.dtd.now in
    let first = plain_pieces (drop c.args.from c.args.pieces.now) in
    let more = plain_pieces (drop (c.loop-place.place + 1) c.args.pieces.now) in
    let before = c.loop-place.invariant k in
    elim c.match-pieces-place.branch [
      | in-Start+in_ok-start_new-in-Start w ↦
          let is : plain_pieces (drop c.loop-place.place c.args.pieces.now) ≡ start w.in-Start.id.0
          ∷ more =
          next_piece c.args.pieces.now c.loop-place.place (piece.Start w.in-Start.id) piece.Kept
          (omega arith) (sym w.in-Start.is) in
          let one = up_start g w.in-Start.id.0 w.spelling.result.now more k
          (writing_of c.loop-place.out) (writing_of w.start_new.new.self)
          w.spelling.ensures w.in_ok-start_new-in-Start.ensures.written
          (rw w.in_ok-start_new-in-Start.ensures.lists refl) in
          rw w.out-is (up_join g first (start w.in-Start.id.0 ∷ more) more k k k
          (writing_of c.args.out.now) (writing_of c.loop-place.out)
          (writing_of w.start_new.new.self) (rw is at before) one)
      | in-End+in_ok-end_new-in-End w ↦
          let is : plain_pieces (drop c.loop-place.place c.args.pieces.now) ≡ finish w.in-End.id.0
          ∷ more =
          next_piece c.args.pieces.now c.loop-place.place (piece.End w.in-End.id) piece.Kept
          (omega arith) (sym w.in-End.is) in
          let one = up_finish g w.in-End.id.0 w.spelling-in-End.result.now more k
          (writing_of c.loop-place.out) (writing_of w.end_new.new.self)
          w.spelling-in-End.ensures w.in_ok-end_new-in-End.ensures.written
          (rw w.in_ok-end_new-in-End.ensures.lists refl) in
          rw w.out-is (up_join g first (finish w.in-End.id.0 ∷ more) more k k k
          (writing_of c.args.out.now) (writing_of c.loop-place.out)
          (writing_of w.end_new.new.self) (rw is at before) one)
    ]

pub returns-clause-written : goal.returns-clause-written
returns-clause-written c =
    λ k. let same : length c.args.pieces.now ≡ c.loop-place.place = omega arith in
    rw same (c.loop-place.invariant k)
