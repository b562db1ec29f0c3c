use Rattle.std.proofs.lemmas.Result.{err_from_is_err_and}
use Rattle.pv_tree.specs.PlainForms.{plain}
use Rattle.pv_read.specs.Meaning.{document_limits}
use Rattle.pv_read.proofs.PartsOfDocuments.{refused_front, refused_root, refused_end, read_whole}
use Rattle.pv_read.proofs.reading.parts_of.Goals as goal

pub returns-in_err-opening-clause-refused : goal.returns-in_err-opening-clause-refused
returns-in_err-opening-clause-refused c =
    let from = err_from_is_err_and c.from_residual.result c.from_residual.ensures.1 in
    rw (from.1, from.2) (refused_front document_limits c.args.root.now c.args.bytes.now
    c.after_byte_order_mark.ensures.behind.0 c.after_byte_order_mark.result.now c.requires
    c.after_byte_order_mark.ensures.behind.1 _ c.in_err-opening.ensures.refused)

pub returns-in_err-element-clause-refused : goal.returns-in_err-element-clause-refused
returns-in_err-element-clause-refused c =
    let from = err_from_is_err_and c.from_residual-in_err-element.result c.from_residual-in_err-element.ensures.1 in
    rw (from.1, from.2) (refused_root document_limits c.args.root.now c.args.bytes.now
    c.after_byte_order_mark.ensures.behind.0 c.after_byte_order_mark.result.now c.requires
    c.after_byte_order_mark.ensures.behind.1
    c.in_ok-opening.opening c.in_ok-opening.ensures.opens _ c.in_err-element.ensures.refused)

pub returns-in_err-read_epilog-clause-refused : goal.returns-in_err-read_epilog-clause-refused
returns-in_err-read_epilog-clause-refused c =
    let from = err_from_is_err_and c.from_residual-in_err-read_epilog.result c.from_residual-in_err-read_epilog.ensures.1 in
    rw (from.1, from.2) (refused_end document_limits c.args.root.now c.args.bytes.now
    c.after_byte_order_mark.ensures.behind.0 c.after_byte_order_mark.result.now c.requires
    c.after_byte_order_mark.ensures.behind.1
    c.in_ok-opening.opening c.in_ok-opening.ensures.opens c.in_ok-element.count
    (plain c.in_ok-element.element) c.in_ok-element.after.now c.in_ok-element.ensures.read _
    c.in_err-read_epilog.ensures.refused)

pub returns-clause-read : goal.returns-clause-read
returns-clause-read c =
    read_whole document_limits c.args.root.now c.args.bytes.now c.after_byte_order_mark.ensures.behind.0 c.after_byte_order_mark.result.now c.requires c.after_byte_order_mark.ensures.behind.1
    c.in_ok-opening.opening c.in_ok-opening.ensures.opens c.in_ok-element.count (plain c.in_ok-element.element) c.in_ok-element.after.now c.in_ok-element.ensures.read c.in_ok-read_epilog.ensures.ends
    c.split_at.result.0.now c.split_at.ensures.front
