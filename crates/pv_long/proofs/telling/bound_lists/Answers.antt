use Rattle.std.proofs.Common.{arith}
use Rattle.pv_dtd.proofs.ProperDtds.{proper}
use Rattle.pv_productive.specs.PlainForms.{dtd_of}
use Rattle.pv_tree.specs.PlainDocs.{plain_doc}
use Rattle.pv_long.proofs.ExactAnswers.{are_missing}
use Rattle.pv_long.proofs.telling.bound_lists.Goals as goal

pub returns-clause-least : goal.returns-clause-least
returns-clause-least g c =
    are_missing (dtd_of c.args.grammar.now) c.args.root.now (plain_doc c.args.doc.now)
    c.bounds_add_up_law.ensures c.possible_missing_law.ensures c.in_ok-found.found.least
    c.in_ok-least.least
    c.args.verdicts.now.verdicts (proper c.args.grammar.now.layout.dtd) c.proper_doc_law.ensures
    (rw (c.in_ok-known.ensures, c.in_ok-layout.ensures) at c.in_ok-found.ensures)
    c.requires.verdicts.are_verdicts c.in_ok-least.ensures

pub returns-clause-lists : goal.returns-clause-lists
returns-clause-lists g c = omega (arith, c.in_ok-least.ensures)
