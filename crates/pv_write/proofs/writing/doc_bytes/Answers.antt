use Rattle.std.proofs.Common.{◌≡◌, ◌∙◌, arith}
use Rattle.std.proofs.lemmas.Grind.{common_steps}
use Rattle.pv_tree.specs.PlainDocs.{plain_doc}
use Rattle.pv_write.specs.Text.{doc_text}
use Rattle.pv_write.proofs.WrittenTexts.{doc_text-spelled}
use Rattle.pv_write.proofs.Views.{view_kept}
use Rattle.pv_write.proofs.writing.doc_bytes.Goals as goal

pub returns-clause-read : goal.returns-clause-read
returns-clause-read c = λ root text spelled.
    let written : c.extend_from_slice-2.new.self.items ≡ doc_text (plain_doc c.args.doc.now) = grind (arith, common_steps) in
    written ∙ doc_text-spelled root text (plain_doc c.args.doc.now) spelled

pub returns-clause-view : goal.returns-clause-view
returns-clause-view c = λ root prolog.
    let written : c.extend_from_slice-2.new.self.items ≡ doc_text (plain_doc c.args.doc.now) = grind (arith, common_steps) in
    let doc = c.args.doc.now in
    rw written (view_kept root (plain_doc doc) doc.rooted doc.named doc.formed doc.units doc.legal doc.no_close_mark prolog doc.epilog)
