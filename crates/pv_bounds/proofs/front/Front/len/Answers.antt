use Rattle.std.proofs.Common.{arith}
use Rattle.pv_bounds.proofs.SharedEnds.{front_length}
use Rattle.pv_bounds.proofs.front.Front.len.Goals as goal

pub returns : goal.returns
returns c =
    let l = front_length c.args.self.now c.args.self.now.within in let e = c.shared_ends.ensures in
    omega arith
