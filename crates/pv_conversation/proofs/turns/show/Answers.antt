use Rattle.std.proofs.Common.{◌≡◌, ap, ◌∙◌, refl, sym, ℕ}
use Rattle.pv_cache.specs.Stamps.{stamp_of, stamps_of}
use Rattle.pv_cache.proofs.RemarkedDocuments.{unmarked_as}
use Rattle.pv_script.specs.declared.commands.Command.TheVariants.{Show as shows}
use Rattle.pv_script.specs.declared.replies.Reply.TheVariants.{Show}
use Rattle.pv_tree.specs.PlainDocs.{plain_doc}
use Rattle.pv_write.specs.Text.{doc_text}
use Rattle.pv_conversation.proofs.ReplyTexts.{replies_by}
use Rattle.pv_conversation.proofs.Texts.{doc_text-without_marks}
use Rattle.pv_conversation.proofs.turns.show.Goals as goal

pub returns : goal.returns
returns c =
    let now = c.args.session.now in
    let doc = plain_doc c.doc.result.now in
    let same : c.of.result ≡ doc_text now.doc =
    c.of.ensures ∙ c.in_ok-bytes.ensures.text ∙ sym (doc_text-without_marks doc) ∙ ap (doc_text {M = Unit}) (sym (unmarked_as stamp_of doc))
    ∙ doc_text-without_marks (stamps_of doc) ∙ ap (doc_text {M = ℕ}) c.doc.ensures.doc in
    replies_by now now shows (Show c.of.result) c.shown.result (ap Show same, refl) c.shown.ensures
