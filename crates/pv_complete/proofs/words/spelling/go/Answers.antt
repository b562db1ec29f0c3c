use Rattle.std.proofs.Common.{arith, ◌+◌}
use Rattle.pv_write.specs.PieceForms.{plain_pieces}
use Rattle.pv_complete.specs.Works.{goal_work}
use Rattle.pv_write.specs.declared.pieces.Piece.TheVariants as piece
use Rattle.pv_complete.proofs.Powers.{nearer_end, nearer_new, nearer_one, nearer_text, nearer_two}
use Rattle.pv_complete.proofs.Stacks.{goes_kept, goes_new, goes_nothing, goes_one, goes_text, goes_two, pushed}
use Rattle.pv_complete.proofs.words.spelling.go.Goals as goal

pub returns-in_ok-push-in-Kept-clause-goes : goal.returns-in_ok-push-in-Kept-clause-goes
returns-in_ok-push-in-Kept-clause-goes c = λ g w t m. goes_kept g w t c.args.stack.now.items
    c.args.site c.args.from c.args.to (plain_pieces c.args.pieces.now.items)
    (plain_pieces c.push.new.self.items) (pushed c.args.pieces.now.items c.push.new.self.items
    piece.Kept c.in_ok-push-in-Kept.ensures.items) (rw c.in-Kept.is at m)

pub returns-in_ok-push-in-Kept-clause-nearer : goal.returns-in_ok-push-in-Kept-clause-nearer
returns-in_ok-push-in-Kept-clause-nearer c = λ g w t m. nearer_end g w t c.args.stack.now.items (goal_work c.args.site c.args.from c.args.to)

pub returns-in-Nothing-clause-goes : goal.returns-in-Nothing-clause-goes
returns-in-Nothing-clause-goes c = λ g w t m. goes_nothing g w t c.args.stack.now.items c.args.site c.args.from c.args.to (plain_pieces c.args.pieces.now.items) (rw c.in-Nothing.is at m)

pub returns-in-Nothing-clause-nearer : goal.returns-in-Nothing-clause-nearer
returns-in-Nothing-clause-nearer c = λ g w t m. nearer_end g w t c.args.stack.now.items (goal_work c.args.site c.args.from c.args.to)

pub returns-in_ok-push-in-One-clause-goes : goal.returns-in_ok-push-in-One-clause-goes
returns-in_ok-push-in-One-clause-goes c = λ g w t m. rw c.in_ok-push-in-One.ensures.items
    (goes_one g w t c.args.stack.now.items c.args.site c.args.from c.args.to
    (plain_pieces c.args.pieces.now.items) c.in-One.one (rw c.in-One.is at m))

pub returns-in_ok-push-in-One-clause-nearer : goal.returns-in_ok-push-in-One-clause-nearer
returns-in_ok-push-in-One-clause-nearer c = λ g w t m. rw c.in_ok-push-in-One.ensures.items
    (nearer_one g w t c.args.stack.now.items c.args.site c.args.from c.args.to c.in-One.one
    (rw c.in-One.is at m))

pub returns-in_ok-push-in-Text-2-clause-goes : goal.returns-in_ok-push-in-Text-2-clause-goes
returns-in_ok-push-in-Text-2-clause-goes c = λ g w t m. rw c.in_ok-push-in-Text-2.ensures.items
    (goes_text g w t c.args.stack.now.items c.args.site c.args.from c.args.to
    (plain_pieces c.args.pieces.now.items) (plain_pieces c.push-in-Text.new.self.items)
    (c.args.from + 1) (pushed c.args.pieces.now.items c.push-in-Text.new.self.items piece.Kept
    c.in_ok-push-in-Text.ensures.items) (omega arith) (rw c.in-Text.is at m))

pub returns-in_ok-push-in-Text-2-clause-nearer : goal.returns-in_ok-push-in-Text-2-clause-nearer
returns-in_ok-push-in-Text-2-clause-nearer c = λ g w t m. rw c.in_ok-push-in-Text-2.ensures.items
    (nearer_text g w t c.args.stack.now.items c.args.site c.args.from c.args.to (c.args.from + 1)
    (omega arith) (rw c.in-Text.is at m))

pub returns-in_ok-push-in-New-3-clause-goes : goal.returns-in_ok-push-in-New-3-clause-goes
returns-in_ok-push-in-New-3-clause-goes c =
    λ g w t m. rw (c.in_ok-push-in-New-3.ensures.items, c.in_ok-push-in-New-2.ensures.items)
    (goes_new g w t c.args.stack.now.items c.args.site c.args.from c.args.to
    (plain_pieces c.args.pieces.now.items) c.in-New.id (plain_pieces c.push-in-New.new.self.items)
    (pushed c.args.pieces.now.items c.push-in-New.new.self.items (piece.Start c.in-New.id)
    c.in_ok-push-in-New.ensures.items) (rw c.in-New.is at m))

pub returns-in_ok-push-in-New-3-clause-nearer : goal.returns-in_ok-push-in-New-3-clause-nearer
returns-in_ok-push-in-New-3-clause-nearer c =
    λ g w t m. rw (c.in_ok-push-in-New-3.ensures.items, c.in_ok-push-in-New-2.ensures.items)
    (nearer_new g w t c.args.stack.now.items c.args.site c.args.from c.args.to c.in-New.id
    (rw c.in-New.is at m))

pub returns-in_ok-push-in-Two-2-clause-goes : goal.returns-in_ok-push-in-Two-2-clause-goes
returns-in_ok-push-in-Two-2-clause-goes c =
    λ g w t m. rw (c.in_ok-push-in-Two-2.ensures.items, c.in_ok-push-in-Two.ensures.items)
    (goes_two g w t c.args.stack.now.items c.args.site c.args.from c.args.to
    (plain_pieces c.args.pieces.now.items) c.in-Two.one c.in-Two.two c.in-Two.place (rw c.in-Two.is at m))

pub returns-in_ok-push-in-Two-2-clause-nearer : goal.returns-in_ok-push-in-Two-2-clause-nearer
returns-in_ok-push-in-Two-2-clause-nearer c =
    λ g w t m. rw (c.in_ok-push-in-Two-2.ensures.items, c.in_ok-push-in-Two.ensures.items)
    (nearer_two g w t c.args.stack.now.items c.args.site c.args.from c.args.to c.in-Two.one
    c.in-Two.two c.in-Two.place (rw c.in-Two.is at m))
