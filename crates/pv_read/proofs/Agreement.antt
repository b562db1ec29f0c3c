-- The grammar of a document by its items and the one by its tree agree.
use Rattle.std.proofs.Common.{◌≡◌, ℕ, List, refl, sym, subst}
use Rattle.pv_tree.specs.Plain.{PlainDoc}
use Rattle.pv_tree.specs.Marks.{HasMarks}
use Rattle.pv_read.specs.DocumentLaws.{with_marks}
use Rattle.pv_read.specs.Limits.{TextLimits}
use Rattle.pv_read.specs.Grammar.{IsDocumentTextWithin}
use Rattle.pv_read.specs.Meaning.{is_document, DocumentMeansWithin}
use Rattle.pv_read.proofs.AgreeSpelled.{document_spelled}
use Rattle.pv_read.proofs.AgreeDocuments.{document_means}
use Rattle.pv_read.proofs.AgreeItems.{items_are_one}
use Rattle.pv_read.proofs.DecidedReferences.{known_is_decided}

pub spelled_where_meant : {M : Type 0} {limits : TextLimits} (m : M) (root bytes : List ℕ)
    (doc : PlainDoc M) → DocumentMeansWithin limits m root bytes (is_document doc) →
    IsDocumentTextWithin limits root bytes doc × HasMarks m doc
spelled_where_meant m root bytes doc means = let text = document_spelled known_is_decided means doc refl in (text.is_text, text.marks)

-- a document whose marks are this one is itself with these marks
own_marks : {M : Type 0} (m : M) (doc : PlainDoc M) → HasMarks m doc → with_marks m doc ≡ doc
own_marks m doc marks = λ i. record { before = doc.before; root = marks.on_elements i; after = doc.after; mark = sym marks.on_document i }

pub meant_where_spelled : {M : Type 0} (limits : TextLimits) (m : M) (root bytes : List ℕ)
    (doc : PlainDoc M) → IsDocumentTextWithin limits root bytes doc → HasMarks m doc →
    DocumentMeansWithin limits m root bytes (is_document doc)
meant_where_spelled limits m root bytes doc text marks =
    subst (λ d. DocumentMeansWithin limits m root bytes (is_document d)) (own_marks m doc marks) (document_means limits m root bytes doc items_are_one text)
