use Rattle.std.proofs.Common.{arith}
use Rattle.std.proofs.lemmas.Result.{err_from_is_err_and}
use Rattle.pv_read.specs.Meaning.{long}
use Rattle.pv_read.specs.declared.errors.DocError.TheVariants.{Limit}
use Rattle.pv_read.proofs.OneItem.{one_item}
use Rattle.pv_read.proofs.PartsOfDocuments.{answers_error, refused_front, refused_end}
use Rattle.pv_lists.specs.Answers.{limits_of}
use Rattle.pv_lists.proofs.Refusals.{read_answered, root_refused}
use Rattle.pv_lists.proofs.WholeDocuments.{the_doc, is_meant, of_any}
use Rattle.pv_lists.proofs.reading.read_lists.Goals as goal

pub returns-then-bytes-most_bytes-clause-refused : goal.returns-then-bytes-most_bytes-clause-refused
returns-then-bytes-most_bytes-clause-refused g c = long (omega arith)

pub returns-then-bytes-most_bytes-clause-exactly : goal.returns-then-bytes-most_bytes-clause-exactly
returns-then-bytes-most_bytes-clause-exactly g c = answers_error one_item (limits_of c.args.most_depth c.args.most_bytes) c.args.root.now c.args.bytes.now Limit (long (omega arith))

pub returns-in_err-opening-clause-refused : goal.returns-in_err-opening-clause-refused
returns-in_err-opening-clause-refused g c =
    let from = err_from_is_err_and c.from_residual.result c.from_residual.ensures.1 in
    rw (from.1, from.2) (refused_front (limits_of c.args.most_depth c.args.most_bytes)
    c.args.root.now c.args.bytes.now c.after_byte_order_mark.ensures.behind.0
    c.after_byte_order_mark.result.now (omega arith) c.after_byte_order_mark.ensures.behind.1 _
    c.in_err-opening.ensures.refused)

pub returns-in_err-opening-clause-exactly : goal.returns-in_err-opening-clause-exactly
returns-in_err-opening-clause-exactly g c =
    let from = err_from_is_err_and c.from_residual.result c.from_residual.ensures.1 in
    rw from.1 (read_answered (limits_of c.args.most_depth c.args.most_bytes) c.args.root.now
    c.args.bytes.now from.0
    (rw from.2 (refused_front (limits_of c.args.most_depth c.args.most_bytes) c.args.root.now
    c.args.bytes.now c.after_byte_order_mark.ensures.behind.0 c.after_byte_order_mark.result.now
    (omega arith) c.after_byte_order_mark.ensures.behind.1 _ c.in_err-opening.ensures.refused)))

pub returns-in_err-lists-clause-refused : goal.returns-in_err-lists-clause-refused
returns-in_err-lists-clause-refused g c =
    let from = err_from_is_err_and c.from_residual-in_err-lists.result c.from_residual-in_err-lists.ensures.1 in
    rw (from.1, from.2) (root_refused (limits_of c.args.most_depth c.args.most_bytes)
    c.args.root.now c.args.bytes.now c.after_byte_order_mark.ensures.behind.0
    c.after_byte_order_mark.result.now (omega arith) c.after_byte_order_mark.ensures.behind.1
    c.in_ok-opening.opening c.in_ok-opening.ensures.opens _ c.in_err-lists.ensures.refused)

pub returns-in_err-lists-clause-exactly : goal.returns-in_err-lists-clause-exactly
returns-in_err-lists-clause-exactly g c =
    let from = err_from_is_err_and c.from_residual-in_err-lists.result c.from_residual-in_err-lists.ensures.1 in
    rw from.1 (read_answered (limits_of c.args.most_depth c.args.most_bytes) c.args.root.now
    c.args.bytes.now from.0
    (rw from.2 (root_refused (limits_of c.args.most_depth c.args.most_bytes) c.args.root.now
    c.args.bytes.now c.after_byte_order_mark.ensures.behind.0 c.after_byte_order_mark.result.now
    (omega arith) c.after_byte_order_mark.ensures.behind.1
    c.in_ok-opening.opening c.in_ok-opening.ensures.opens _ c.in_err-lists.ensures.refused)))

pub returns-in_err-read_epilog-clause-refused : goal.returns-in_err-read_epilog-clause-refused
returns-in_err-read_epilog-clause-refused g c =
    let from = err_from_is_err_and c.from_residual-in_err-read_epilog.result c.from_residual-in_err-read_epilog.ensures.1 in
    rw (from.1, from.2) (refused_end (limits_of c.args.most_depth c.args.most_bytes) c.args.root.now
    c.args.bytes.now c.after_byte_order_mark.ensures.behind.0 c.after_byte_order_mark.result.now
    (omega arith) c.after_byte_order_mark.ensures.behind.1
    c.in_ok-opening.opening c.in_ok-opening.ensures.opens c.in_ok-lists.count
    c.in_ok-lists.ensures.read.tree c.in_ok-lists.after.now c.in_ok-lists.ensures.read.leads _
    c.in_err-read_epilog.ensures.refused)

pub returns-in_err-read_epilog-clause-exactly : goal.returns-in_err-read_epilog-clause-exactly
returns-in_err-read_epilog-clause-exactly g c =
    let from = err_from_is_err_and c.from_residual-in_err-read_epilog.result c.from_residual-in_err-read_epilog.ensures.1 in
    rw from.1 (read_answered (limits_of c.args.most_depth c.args.most_bytes) c.args.root.now
    c.args.bytes.now from.0
    (rw from.2 (refused_end (limits_of c.args.most_depth c.args.most_bytes) c.args.root.now
    c.args.bytes.now c.after_byte_order_mark.ensures.behind.0 c.after_byte_order_mark.result.now
    (omega arith) c.after_byte_order_mark.ensures.behind.1
    c.in_ok-opening.opening c.in_ok-opening.ensures.opens c.in_ok-lists.count
    c.in_ok-lists.ensures.read.tree c.in_ok-lists.after.now c.in_ok-lists.ensures.read.leads _
    c.in_err-read_epilog.ensures.refused)))

pub returns-clause-read : goal.returns-clause-read
returns-clause-read g c = (
  the_doc (limits_of c.args.most_depth c.args.most_bytes) (g.J.ListJudge.judgement c.args.judge.now)
      c.args.root.now c.args.bytes.now c.after_byte_order_mark.ensures.behind.0
      c.after_byte_order_mark.result.now (omega arith) c.after_byte_order_mark.ensures.behind.1
      c.in_ok-opening.opening c.in_ok-opening.ensures.opens c.in_ok-lists.lists c.in_ok-lists.after.now c.in_ok-lists.count c.in_ok-lists.ensures.read c.in_ok-read_epilog.ensures.ends,
  is_meant (limits_of c.args.most_depth c.args.most_bytes)
      (g.J.ListJudge.judgement c.args.judge.now) c.args.root.now c.args.bytes.now
      c.after_byte_order_mark.ensures.behind.0 c.after_byte_order_mark.result.now (omega arith)
      c.after_byte_order_mark.ensures.behind.1
      c.in_ok-opening.opening c.in_ok-opening.ensures.opens c.in_ok-lists.lists c.in_ok-lists.after.now c.in_ok-lists.count c.in_ok-lists.ensures.read c.in_ok-read_epilog.ensures.ends,
)

pub returns-clause-lists : goal.returns-clause-lists
returns-clause-lists g c = of_any (limits_of c.args.most_depth c.args.most_bytes)
    (g.J.ListJudge.judgement c.args.judge.now) c.args.root.now c.args.bytes.now
    c.after_byte_order_mark.ensures.behind.0 c.after_byte_order_mark.result.now (omega arith)
    c.after_byte_order_mark.ensures.behind.1
    c.in_ok-opening.opening c.in_ok-opening.ensures.opens c.in_ok-lists.lists
    c.in_ok-lists.after.now c.in_ok-lists.count c.in_ok-lists.ensures.read
    c.in_ok-read_epilog.ensures.ends
    (omega (arith, c.in_ok-opening.ensures.opens.few, c.after_byte_order_mark.ensures.within, c.requires))
