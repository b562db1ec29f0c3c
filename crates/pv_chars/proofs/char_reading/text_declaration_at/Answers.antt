use Rattle.std.proofs.Common.{codes}
use Rattle.pv_chars.specs.Declarations.{IsTextDecl}
use Rattle.pv_chars.proofs.DeclarationLemmas.{one_text_decl}
use Rattle.pv_chars.specs.CharReading.{text_declaration_at}
use Rattle.pv_chars.proofs.OneFront.{answer_is_read}
use Rattle.pv_chars.proofs.CharFacts.{item_shorter}
use Rattle.pv_chars.proofs.TextDeclarations.{tells_declaration, text_decl_opens}
use Rattle.pv_chars.proofs.char_reading.text_declaration_at.Goals as goal

pub returns-clause-read : goal.returns-clause-read
returns-clause-read c = answer_is_read IsTextDecl text_declaration_at tells_declaration one_text_decl (λ r. r.now) c.args.bytes.now _ c.after_text_decl.ensures

pub returns-clause-within : goal.returns-clause-within
returns-clause-within c = item_shorter IsTextDecl 60 (codes "?xml") text_decl_opens (λ r. r.now) c.args.bytes.now _ c.after_text_decl.ensures
