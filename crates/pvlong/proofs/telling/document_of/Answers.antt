use Rattle.pvlong.proofs.ToldLines.{between_document, exact_document}
use Rattle.pvlong.proofs.telling.document_of.Goals as goal

pub returns-in-Exactly : goal.returns-in-Exactly
returns-in-Exactly c = λ root bytes g doc told.
    exact_document root bytes g doc c.in-Exactly.field-0 _ _ (rw c.in-Exactly.is at told) c.document.ensures.least c.document.ensures.response

pub returns : goal.returns
returns c = λ root bytes g doc told.
    between_document root bytes g doc c.in-Between.field-0 c.in-Between.field-1 _ _ (rw c.in-Between.is at told) c.document-in-Between.ensures.least c.document-in-Between.ensures.response
