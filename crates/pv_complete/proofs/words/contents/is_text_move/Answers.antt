use Rattle.std.proofs.Common.{arith}
use Rattle.std.proofs.lemmas.List.{length-map}
use Rattle.pv_complete.proofs.Spots.{spot_span}
use Rattle.pv_complete.proofs.words.contents.is_text_move.Goals as goal

pub is_text_at-requires : goal.is_text_at-requires
is_text_at-requires c = let l = (spot_span c.args.spot.now).1 in let m = simp length-map at l in let r = c.requires in omega arith
