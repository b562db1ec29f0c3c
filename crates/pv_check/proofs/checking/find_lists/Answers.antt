use Rattle.std.proofs.lemmas.Result.{err_from_is_err_and}
use Rattle.pv_tree.specs.Marks.{blank_mark}
use Rattle.pv_read.specs.Meaning.{DocumentMeans, document_limits}
use Rattle.pv_check.proofs.Refusals.{list_answered, list_refused, read_refused, refused_answered}
use Rattle.pv_check.proofs.checking.find_lists.Goals as goal

pub judge_root-requires : goal.judge_root-requires
judge_root-requires c =
    let read = c.in_ok-lists.ensures.read in
    (read.0.root, c.in_ok-lists.ensures.lists read.0 read.1)

pub returns-in_err-lists-clause-refused : goal.returns-in_err-lists-clause-refused
returns-in_err-lists-clause-refused c =
    let from = err_from_is_err_and c.from_residual.result c.from_residual.ensures.1 in
    rw from.1 (read_refused (DocumentMeans blank_mark c.args.root.now c.args.bytes.now) _ from.0 from.2 c.in_err-lists.ensures.refused)

pub returns-in_err-lists-clause-exactly : goal.returns-in_err-lists-clause-exactly
returns-in_err-lists-clause-exactly c =
    let from = err_from_is_err_and c.from_residual.result c.from_residual.ensures.1 in
    rw from.1 (refused_answered document_limits c.args.root.now c.args.bytes.now _ from.0 from.2 c.in_err-lists.ensures.refused)

pub returns-in_err-found-clause-refused : goal.returns-in_err-found-clause-refused
returns-in_err-found-clause-refused c =
    let from = err_from_is_err_and c.from_residual-in_err-found.result c.from_residual-in_err-found.ensures.1 in
    rw from.1 (list_refused (DocumentMeans blank_mark c.args.root.now c.args.bytes.now) _ from.0 from.2)

pub returns-in_err-found-clause-exactly : goal.returns-in_err-found-clause-exactly
returns-in_err-found-clause-exactly c =
    let from = err_from_is_err_and c.from_residual-in_err-found.result c.from_residual-in_err-found.ensures.1 in
    rw from.1 (list_answered document_limits c.args.root.now c.args.bytes.now _ from.0 from.2)

pub returns-clause-finds : goal.returns-clause-finds
returns-clause-finds c = λ doc means. c.in_ok-found.ensures doc.root (c.in_ok-lists.ensures.lists doc means)
