use Rattle.std.proofs.Common.{refl, subst, sym, ℕ}
use Rattle.pv_productive.specs.PlainForms.{dtd_of}
use Rattle.pv_tree.specs.Plain.{PlainDoc}
use Rattle.pv_tree.specs.PlainDocs.{plain_doc}
use Rattle.pv_tree.specs.Prolog.{IsProlog}
use Rattle.pv_conversation.specs.MissingReplies.{is_completed}
use Rattle.pv_conversation.proofs.Completions.{completion_told, grown_told, not_completed}
use Rattle.pv_conversation.proofs.MissingElements.{cause_told, live_verdicts}
use Rattle.pv_conversation.proofs.missing.completion_reply_by.Goals as goal

pub complete_remembering-requires-clause-names : goal.complete_remembering-requires-clause-names
complete_remembering-requires-clause-names c =
    rw c.root.ensures (subst (λ (d : PlainDoc ℕ). IsProlog c.args.session.now.root d.before)
    (sym c.doc.ensures.doc) c.requires.prolog)

pub complete_remembering-requires-clause-verdicts :
    goal.complete_remembering-requires-clause-verdicts
complete_remembering-requires-clause-verdicts c =
    live_verdicts c.args.session.now (dtd_of c.grammar-2.result.now) c.root.result.now
    (plain_doc c.doc.result.now) c.args.verdicts.now c.grammar-2.ensures c.root.ensures
    c.doc.ensures.doc c.session_law.ensures (rw (c.dtd.ensures, c.grammar.ensures) at
    c.proper_dtd_law.ensures) c.requires.verdicts c.requires.possible

pub returns-in-Ok-clause-tells : goal.returns-in-Ok-clause-tells
returns-in-Ok-clause-tells c =
    let found = c.in-Ok.field-0 in
    let least = completion_told c.args.session.now (dtd_of c.grammar-2.result.now) c.root.result.now
    (plain_doc c.doc.result.now) c.args.verdicts.now c.grammar-2.ensures c.root.ensures
    c.doc.ensures.doc c.session_law.ensures (rw (c.dtd.ensures, c.grammar.ensures) at
    c.proper_dtd_law.ensures) c.requires.verdicts c.requires.possible
    found.count found.marks found.body c.in-Ok.ensures.completed in
    let shown = grown_told c.args.session.now (dtd_of c.grammar-2.result.now) c.root.result.now
    (plain_doc c.doc.result.now) c.args.verdicts.now c.grammar-2.ensures c.root.ensures
    c.doc.ensures.doc c.session_law.ensures (rw (c.dtd.ensures, c.grammar.ensures) at
    c.proper_dtd_law.ensures) c.requires.verdicts c.requires.possible
    found.body c.in-Ok.ensures.written in
    is_completed found.count found.marks found.body least shown refl

pub refusal_reply-requires : goal.refusal_reply-requires
refusal_reply-requires c =
    cause_told c.args.session.now (dtd_of c.grammar-2.result.now) c.root.result.now
    (plain_doc c.doc.result.now) c.args.verdicts.now c.grammar-2.ensures c.root.ensures
    c.doc.ensures.doc c.session_law.ensures (rw (c.dtd.ensures, c.grammar.ensures) at
    c.proper_dtd_law.ensures) c.requires.verdicts c.requires.possible
    c.in-Err.error c.in-Err.ensures.refused

pub returns-clause-tells : goal.returns-clause-tells
returns-clause-tells c = not_completed c.args.session.now c.refusal_reply.result c.refusal_reply.ensures.withholds

pub complete_remembering-requires-clause-remembers :
    goal.complete_remembering-requires-clause-remembers
complete_remembering-requires-clause-remembers c = rw c.grammar-2.ensures c.requires.remembers

pub returns-in-Ok-clause-remembers : goal.returns-in-Ok-clause-remembers
returns-in-Ok-clause-remembers c = rw c.grammar-2.ensures at c.in-Ok.ensures.remembers

pub returns-clause-remembers : goal.returns-clause-remembers
returns-clause-remembers c = rw c.grammar-2.ensures at c.in-Err.ensures.remembers
