use Rattle.std.proofs.Common.{arith}
use Rattle.std.proofs.lemmas.Result.{err_from_is_err_and}
use Rattle.pv_tree.specs.PlainForms.{plain}
use Rattle.pv_tree.specs.Marks.{blank_mark}
use Rattle.pv_read.specs.Meaning.{document_limits, long}
use Rattle.pv_read.specs.Epilogs.{document}
use Rattle.pv_read.proofs.Agreement.{spelled_where_meant}
use Rattle.pv_read.proofs.DocumentFacts.{few_nodes, keeps}
use Rattle.pv_read.proofs.OneItem.{one_item}
use Rattle.pv_read.proofs.PartsOfDocuments.{same_parts, answers_document, answers_error}
use Rattle.pv_read.proofs.reading.read_doc.Goals as goal

pub returns-then-bytes-gt-MAX_DOC_BYTES-clause-refused : goal.returns-then-bytes-gt-MAX_DOC_BYTES-clause-refused
returns-then-bytes-gt-MAX_DOC_BYTES-clause-refused c = long (omega arith)

pub returns-in_err-parts-clause-exactly : goal.returns-in_err-parts-clause-exactly
returns-in_err-parts-clause-exactly c =
    let from = err_from_is_err_and c.from_residual.result c.from_residual.ensures.1 in
    rw (from.1, from.2) (answers_error one_item document_limits c.args.root.now c.args.bytes.now _ c.in_err-parts.ensures.refused)

pub invariant_of-result : goal.invariant_of-result
invariant_of-result c =
    let doc = document c.in_ok-before.before (plain c.in_ok-parts.parts.root) c.in_ok-after.after in
    let means = same_parts _ _ c.in_ok-before.before c.in_ok-after.after c.in_ok-parts.ensures.read c.in_ok-before.ensures c.in_ok-after.ensures in
    let kept = keeps c.args.root.now c.args.bytes.now doc (spelled_where_meant blank_mark c.args.root.now c.args.bytes.now doc means).0 in
    record {
      rooted = kept.rooted;
      formed = kept.formed;
      shallow = kept.shallow;
      small = kept.small;
      named = kept.named;
      units = kept.units;
      legal = ∣ kept.legal ∣₁;
      no_close_mark = kept.no_close_mark;
      prolog = ∣ (c.args.root.now, kept.prolog) ∣₁;
      epilog = ∣ kept.epilog ∣₁;
    }

pub returns-clause-read : goal.returns-clause-read
returns-clause-read c =
    let doc = document c.in_ok-before.before (plain c.in_ok-parts.parts.root) c.in_ok-after.after in
    let means = same_parts _ _ c.in_ok-before.before c.in_ok-after.after c.in_ok-parts.ensures.read c.in_ok-before.ensures c.in_ok-after.ensures in
    (spelled_where_meant blank_mark c.args.root.now c.args.bytes.now doc means).0

pub returns-clause-few : goal.returns-clause-few
returns-clause-few c =
    let doc = document c.in_ok-before.before (plain c.in_ok-parts.parts.root) c.in_ok-after.after in
    let means = same_parts _ _ c.in_ok-before.before c.in_ok-after.after c.in_ok-parts.ensures.read c.in_ok-before.ensures c.in_ok-after.ensures in
    few_nodes c.args.root.now c.args.bytes.now doc (spelled_where_meant blank_mark c.args.root.now c.args.bytes.now doc means).0

pub returns-clause-marks : goal.returns-clause-marks
returns-clause-marks c =
    let doc = document c.in_ok-before.before (plain c.in_ok-parts.parts.root) c.in_ok-after.after in
    let means = same_parts _ _ c.in_ok-before.before c.in_ok-after.after c.in_ok-parts.ensures.read c.in_ok-before.ensures c.in_ok-after.ensures in
    (spelled_where_meant blank_mark c.args.root.now c.args.bytes.now doc means).1

pub returns-clause-exactly : goal.returns-clause-exactly
returns-clause-exactly c =
    let means = same_parts _ _ c.in_ok-before.before c.in_ok-after.after c.in_ok-parts.ensures.read c.in_ok-before.ensures c.in_ok-after.ensures in
    answers_document one_item document_limits c.args.root.now c.args.bytes.now _ means
