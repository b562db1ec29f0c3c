use Rattle.pv_tree.specs.Lists.{lists_of}
use Rattle.pv_tree.specs.PlainDocs.{plain_doc}
use Rattle.pv_fresh.specs.Firsts.{IsFirstPath}
use Rattle.pv_fresh.proofs.ListWalks.{have_verdicts}
use Rattle.pv_fresh.proofs.firsts.with_first.Goals as goal

pub returns-clause-first : goal.returns-clause-first
returns-clause-first c = λ g root are.
    let lists = lists_of (plain_doc c.args.doc.now) in
    let first : IsFirstPath lists c.args.verdicts.items c.in_ok-first.first = rw c.deref.ensures.value at c.in_ok-first.ensures in
    rw c.of.ensures (have_verdicts c.first_impossible_at_law.ensures g root lists c.args.verdicts.items c.in_ok-first.first are first)
