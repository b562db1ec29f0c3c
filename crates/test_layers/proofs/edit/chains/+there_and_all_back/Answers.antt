use Rattle.pv_tree.specs.Marks.{unmarked_doc}
use Rattle.pv_tree.specs.PlainDocs.{plain_doc}
use Rattle.pv_edit.proofs.PreparedChanges.{leads-on}
use Rattle.test_layers.proofs.edit.chains.+there_and_all_back.Goals as goal

pub revert-requires : goal.revert-requires
revert-requires t c =
    let before = unmarked_doc (plain_doc c.args.doc.now) in
    (before, leads-on c.in-Ok.inverse (plain_doc c.apply.new.doc) (plain_doc c.there_and_all_back.new.doc) before c.in_ok-there_and_all_back.ensures c.in-Ok.ensures.leads_back)

pub returns-in-Ok-revert : goal.returns-in-Ok-revert
returns-in-Ok-revert t c =
    let before = unmarked_doc (plain_doc c.args.doc.now) in
    c.in-Ok-revert.ensures.led before (leads-on c.in-Ok.inverse (plain_doc c.apply.new.doc)
    (plain_doc c.there_and_all_back.new.doc) before c.in_ok-there_and_all_back.ensures
    c.in-Ok.ensures.leads_back)
