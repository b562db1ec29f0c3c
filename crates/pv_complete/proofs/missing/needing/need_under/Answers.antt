use Rattle.pv_productive.specs.PlainForms.{dtd_of}
use Rattle.pv_tree.specs.PlainDocs.{plain_doc}
use Rattle.pv_complete.proofs.WeightSums.{heavy_of, needs_of}
use Rattle.pv_complete.proofs.missing.needing.need_under.Goals as goal

pub returns-then-total-lt-HEAVIEST-clause-needs : goal.returns-then-total-lt-HEAVIEST-clause-needs
returns-then-total-lt-HEAVIEST-clause-needs c = λ live.
    needs_of (dtd_of c.args.layout.now.grammar.now) c.args.root.now (plain_doc c.args.doc.now)
    c.in_ok-total.total c.from.result (c.in_ok-total.ensures.total live) c.from.ensures
    c.if-total-lt-HEAVIEST.true

pub returns-else-total-lt-HEAVIEST-clause-refused : goal.returns-else-total-lt-HEAVIEST-clause-refused
returns-else-total-lt-HEAVIEST-clause-refused c = λ live.
    heavy_of (dtd_of c.args.layout.now.grammar.now) c.args.root.now (plain_doc c.args.doc.now) c.in_ok-total.total (c.in_ok-total.ensures.total live) c.if-total-lt-HEAVIEST.false

pub total_weight-requires : goal.total_weight-requires
total_weight-requires c = c.make_room.ensures (dtd_of c.args.layout.now.grammar.now) c.requires
