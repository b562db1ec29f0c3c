use Rattle.pv_bounds.proofs.ClosedFronts.{below_sites}
use Rattle.pv_bounds.proofs.closing.are_closed.Goals as goal

pub returns : goal.returns
returns c = λ t.
    let layout = c.args.layout.now in
    let forms = c.forms-forms.ensures in
    let empties = rw forms at (c.empties_hold.ensures c.if-not-empties_hold.false) in
    let columns = rw forms at (c.in_ok-hold.ensures t) in
    below_sites c.columns_derive_law.ensures layout c.args.word.now c.args.fronts.now empties columns
