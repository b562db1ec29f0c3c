use Rattle.std.proofs.Common.{arith}
use Rattle.pv_productive.specs.PlainForms.{dtd_of}
use Rattle.pv_tree.specs.Lists.{lists_of}
use Rattle.pv_tree.specs.PlainDocs.{plain_doc}
use Rattle.pv_fresh.proofs.ListWalks.{as_many}
use Rattle.pv_fresh.proofs.fixed.check_doc.Goals as goal

pub returns-clause-steps : goal.returns-clause-steps
returns-clause-steps g c =
    let n = as_many (dtd_of c.args.grammar.now) c.args.root.now (lists_of (plain_doc c.args.doc.now)) c.in_ok-verdicts.verdicts.verdicts c.in_ok-verdicts.ensures.verdicts.are_verdicts in
    let m = c.len.ensures in
    let k = c.count_lists.ensures in
    omega arith

pub returns-clause-few_steps : goal.returns-clause-few_steps
returns-clause-few_steps g c = let n = returns-clause-steps g c in omega arith
