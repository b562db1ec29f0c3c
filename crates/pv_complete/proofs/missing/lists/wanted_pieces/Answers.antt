use Rattle.pv_complete.proofs.missing.lists.wanted_pieces.Goals as goal

pub returns : goal.returns
returns c = rw c.of.ensures c.in_ok-pieces.ensures
