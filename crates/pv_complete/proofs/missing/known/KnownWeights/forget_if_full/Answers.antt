use Rattle.pv_complete.proofs.missing.known.KnownWeights.forget_if_full.Goals as goal

pub returns : goal.returns
returns c = λ g all. c.forget.ensures g

pub returns-then-has_room-2 : goal.returns-then-has_room-2
returns-then-has_room-2 c = λ g all. c.forget_older.ensures g all
