use Rattle.std.proofs.Common.{arith, ap, length, ◌∙◌, ◌≡◌}
use Rattle.pv_productive.specs.PlainForms.{dtd_of}
use Rattle.pv_tree.specs.Lists.{lists_of}
use Rattle.pv_tree.specs.PlainDocs.{plain_doc}
use Rattle.pv_fresh.proofs.ListWalks.{none_is_possible}
use Rattle.pv_parallel.proofs.check.check_doc_par_by.Goals as goal

pub returns-clause-verdicts : goal.returns-clause-verdicts
returns-clause-verdicts g c = c.in_ok-found.ensures.first (dtd_of c.args.judge.now) c.args.root.now c.in_ok-verdicts.ensures.verdicts

pub returns-clause-possible : goal.returns-clause-possible
returns-clause-possible g c =
    none_is_possible c.live_lists_law.ensures (dtd_of c.args.judge.now) c.args.root.now
    (plain_doc c.args.doc.now) _ (rw (c.dtd.ensures, c.grammar.ensures) at
    c.proper_dtd_law.ensures) c.proper_doc_law.ensures (returns-clause-verdicts g c).is_first

pub returns-clause-steps : goal.returns-clause-steps
returns-clause-steps g c =
    let n : length c.in_ok-found.found.verdicts ≡ length (lists_of (plain_doc c.args.doc.now)) = ap length c.in_ok-found.ensures.verdicts ∙ c.in_ok-verdicts.ensures.as_many in
    let m = c.len.ensures in
    let k = c.count_lists.ensures in
    omega arith

pub returns-clause-few_steps : goal.returns-clause-few_steps
returns-clause-few_steps g c = let k = returns-clause-steps g c in omega arith
