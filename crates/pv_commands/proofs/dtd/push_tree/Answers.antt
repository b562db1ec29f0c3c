use Rattle.std.proofs.Common.{arith, decimal, refl}
use Rattle.pv_commands.specs.Dtd.{counted}
use Rattle.pv_productive.specs.PlainForms.{dtd_of}
use Rattle.pv_commands.proofs.DtdLines.{tree_put}
use Rattle.pv_commands.proofs.dtd.push_tree.Goals as goal

pub returns-then-size-over : goal.returns-then-size-over
returns-then-size-over c =
    tree_put c.push_number.result (dtd_of c.args.grammar.now) c.args.name _ _
    (decimal c.in-Some.size)
    (counted c.in-Some.size c.in-Some.ensures
    (let e = c.from-over.ensures in let f = c.if-size-over.true in omega arith) refl)
    c.push_number.ensures
