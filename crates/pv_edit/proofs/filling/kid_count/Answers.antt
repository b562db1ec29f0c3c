use Rattle.std.proofs.Common.{arith}
use Rattle.pv_edit.proofs.FilledKids.{kids-length}
use Rattle.pv_edit.proofs.filling.kid_count.Goals as goal

pub returns-in-Elem : goal.returns-in-Elem
returns-in-Elem c =
    let e = kids-length c.in-Elem.name c.in-Elem.attrs c.in-Elem.end c.in-Elem.kids c.in-Elem.mark in
    rw c.in-Elem.is (omega (arith, e, c.len.ensures, c.in-Elem.kids.ok.0))
