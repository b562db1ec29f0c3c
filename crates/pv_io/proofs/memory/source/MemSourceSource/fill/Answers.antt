use Rattle.std.proofs.Common.{arith}
use Rattle.pv_io.proofs.Moves.{front_moved}
use Rattle.std.proofs.lemmas.Grind.{common_steps}
use Rattle.pv_io.proofs.memory.source.MemSourceSource.fill.Goals as goal

pub returns-clause-bytes : goal.returns-clause-bytes
returns-clause-bytes c = let a = c.copy_from_slice.ensures.after in let b = c.min-count.ensures in let d = c.min.ensures in (grind (arith, common_steps, front_moved), grind (arith, common_steps))
