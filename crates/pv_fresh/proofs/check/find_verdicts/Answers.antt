use Rattle.pv_productive.specs.PlainForms.{dtd_of}
use Rattle.pv_tree.specs.PlainDocs.{plain_doc}
use Rattle.pv_fresh.proofs.ListWalks.{none_is_possible}
use Rattle.pv_fresh.proofs.check.find_verdicts.Goals as goal

pub returns-clause-possible : goal.returns-clause-possible
returns-clause-possible c =
    none_is_possible c.live_lists_law.ensures (dtd_of c.args.grammar.now) c.args.root.now
    (plain_doc c.args.doc.now) _ (rw c.dtd.ensures at c.proper_dtd_law.ensures)
    c.proper_doc_law.ensures c.in_ok-verdicts.ensures.is_first
