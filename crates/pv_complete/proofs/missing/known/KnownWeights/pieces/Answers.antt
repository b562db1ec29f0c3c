use Rattle.std.proofs.lemmas.Option.{IfSome_then}
use Rattle.pv_complete.proofs.KeptWeights.{told_pieces}
use Rattle.pv_complete.proofs.missing.known.KnownWeights.pieces.Goals as goal

pub returns-in-Some : goal.returns-in-Some
returns-in-Some c = IfSome_then c.as_pieces.result c.as_pieces.ensures (λ pieces same g all. told_pieces g _ _ _ _ _ pieces.now same (c.in-Some.ensures g all))
