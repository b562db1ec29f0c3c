use Rattle.std.proofs.Common.{arith, ◌<◌, ◌≡◌}
use Rattle.std.proofs.lemmas.Result.{err_from_is_err_and}
use Rattle.pv_dtd.proofs.ProperDtds.{proper}
use Rattle.pv_productive.specs.PlainForms.{dtd_of}
use Rattle.pv_tree.specs.PlainDocs.{plain_doc}
use Rattle.pv_missing.specs.Verdicts.{possible_in}
use Rattle.pv_long.proofs.ExactAnswers.{is_exact, is_valid, is_within, not_valid, own_exact}
use Rattle.pv_long.proofs.ExactAnswers.{says_heavy}
use Rattle.pv_long.proofs.telling.missing_by.Goals as goal

pub returns-then-left-eq0-clause-told : goal.returns-then-left-eq0-clause-told
returns-then-left-eq0-clause-told g c =
    let d = dtd_of c.args.grammar.now in
    let root = c.args.root.now in
    let doc = plain_doc c.args.doc.now in
    let none : possible_in c.args.verdicts.now.verdicts ≡ 0 = omega arith in
    own_exact c.wider_limits_law.ensures c.agreement_law.ensures c.spelled_is_written_law.ensures
    c.extensions_complete_law.ensures d root doc c.args.bytes.now c.in_ok-own_text.field-0
    c.requires.text
    (is_valid d root doc c.none_possible_law.ensures c.args.verdicts.now
    (proper c.args.grammar.now.layout.dtd) c.proper_doc_law.ensures c.requires.possible none)
    c.in_ok-own_text.ensures

pub returns-then-least-completion-clause-told : goal.returns-then-least-completion-clause-told
returns-then-least-completion-clause-told g c =
    let some : 0 < possible_in c.args.verdicts.now.verdicts = omega arith in
    is_within (dtd_of c.args.grammar.now) c.args.root.now (plain_doc c.args.doc.now) c.args.verdicts.now.verdicts c.in_ok-least.least c.in_ok-least.completion
    c.requires.possible.verdicts.are_verdicts some c.in_ok-least.ensures.least c.in_ok-least.ensures.lists c.in_ok-least.ensures.completion c.if-least-completion.true

pub returns-else-least-completion-clause-told : goal.returns-else-least-completion-clause-told
returns-else-least-completion-clause-told g c =
    let d = dtd_of c.args.grammar.now in
    let root = c.args.root.now in
    let doc = plain_doc c.args.doc.now in
    let some : 0 < possible_in c.args.verdicts.now.verdicts = omega arith in
    is_exact d root doc c.args.bytes.now c.in_ok-least.least c.in_ok-least.completion
    c.in_ok-least.ensures.least c.in_ok-least.ensures.completion c.if-least-completion.false
    (not_valid d root doc c.none_possible_law.ensures c.args.verdicts.now.verdicts
    (proper c.args.grammar.now.layout.dtd) c.proper_doc_law.ensures
    c.requires.possible.verdicts.are_verdicts some)

pub returns-in_err-own_text-clause-refused : goal.returns-in_err-own_text-clause-refused
returns-in_err-own_text-clause-refused g c =
    let p = err_from_is_err_and c.from_residual.result c.from_residual.ensures.1 in
    rw p.1 (says_heavy (dtd_of c.args.grammar.now) c.args.root.now (plain_doc c.args.doc.now) p.0
    p.2)
