use Rattle.std.proofs.Common.{refl}
use Rattle.pv_productive.specs.PlainForms.{dtd_of}
use Rattle.pv_tree.specs.PlainDocs.{plain_doc}
use Rattle.pv_conversation.specs.MissingReplies.{is_needed}
use Rattle.pv_conversation.proofs.Completions.{not_needed}
use Rattle.pv_conversation.proofs.MissingElements.{cause_told, needs_told}
use Rattle.pv_conversation.proofs.missing.need_reply_by.Goals as goal

pub refusal_reply-requires : goal.refusal_reply-requires
refusal_reply-requires c =
    cause_told c.args.session.now (dtd_of c.grammar-2.result.now) c.root.result.now
    (plain_doc c.doc.result.now) c.args.verdicts.now c.grammar-2.ensures c.root.ensures
    c.doc.ensures.doc c.session_law.ensures (rw (c.dtd.ensures, c.grammar.ensures) at
    c.proper_dtd_law.ensures) c.requires.verdicts c.requires.possible
    c.in-Err.error c.in-Err.ensures.refused

pub returns-in-Ok-clause-tells : goal.returns-in-Ok-clause-tells
returns-in-Ok-clause-tells c =
    let number = c.in-Ok.number in
    let told = needs_told c.args.session.now (dtd_of c.grammar-2.result.now) c.root.result.now
    (plain_doc c.doc.result.now) c.args.verdicts.now c.grammar-2.ensures c.root.ensures
    c.doc.ensures.doc c.session_law.ensures (rw (c.dtd.ensures, c.grammar.ensures) at
    c.proper_dtd_law.ensures) c.requires.verdicts c.requires.possible
    number c.in-Ok.ensures.needs in
    is_needed number told refl

pub returns-in-Err-clause-tells : goal.returns-in-Err-clause-tells
returns-in-Err-clause-tells c = not_needed c.args.session.now c.refusal_reply.result c.refusal_reply.ensures.withholds

pub need_remembering-requires : goal.need_remembering-requires
need_remembering-requires c = rw c.grammar-2.ensures c.requires.remembers

pub returns-in-Ok-clause-remembers : goal.returns-in-Ok-clause-remembers
returns-in-Ok-clause-remembers c = rw c.grammar-2.ensures at c.in-Ok.ensures.remembers

pub returns-in-Err-clause-remembers : goal.returns-in-Err-clause-remembers
returns-in-Err-clause-remembers c = rw c.grammar-2.ensures at c.in-Err.ensures.remembers
