use Rattle.pv_dtd.specs.PlainForms.{plain_dtd}
use Rattle.pv_tree.specs.PlainDocs.{plain_doc}
use Rattle.pv_write.specs.PieceForms.{plain_lists}
use Rattle.pv_long.proofs.TaggedDocs.{written_with_tags}
use Rattle.pv_long.proofs.telling.complete_by.Goals as goal

pub returns : goal.returns
returns c =
    let g = plain_dtd c.args.dtd.now in
    let doc = plain_doc c.args.doc.now in
    let written = written_with_tags g doc (plain_lists c.args.pieces.now)
    c.in_ok-text.text.marks.items c.in_ok-text.text.body.items c.in_ok-text.ensures
    c.in_ok-check_tags.ensures c.args.doc.now.formed in
    c.in_ok-completion.ensures doc c.requires written
