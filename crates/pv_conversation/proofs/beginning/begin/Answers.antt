use Rattle.std.proofs.Common.{◌∙◌, ◌≡◌}
use Rattle.std.proofs.lemmas.Result.{err_from_is_err_and}
use Rattle.pv_dtd.specs.PlainForms.{plain_dtd}
use Rattle.pv_session.specs.Sessions.{session_on}
use Rattle.pv_tree.specs.Marks.{unmarked_doc}
use Rattle.pv_tree.specs.PlainDocs.{plain_doc}
use Rattle.pv_opening.specs.Possibility.{width_stage}
use Rattle.pv_opening.proofs.Stages.{stopped_first}
use Rattle.pv_conversation.specs.Session.{beginning_stage}
use Rattle.pv_conversation.proofs.Beginnings.{session_begins}
use Rattle.pv_conversation.proofs.beginning.begin.Goals as goal

pub returns-in_err-grammar-clause-returns : goal.returns-in_err-grammar-clause-returns
returns-in_err-grammar-clause-returns g c =
    let root = c.args.root.now in
    let d = plain_dtd c.args.opened.dtd in
    let doc = plain_doc c.args.opened.doc in
    let stop = c.in_err-grammar.field-0.0 in
    let p = err_from_is_err_and c.from_residual.result c.from_residual.ensures.1 in
    rw (p.1, p.2) (stopped_first (width_stage d doc) (λ _. beginning_stage root d doc) 0 stop c.in_err-grammar.ensures.denied)

pub returns-in_err-grammar-clause-checks : goal.returns-in_err-grammar-clause-checks
returns-in_err-grammar-clause-checks g c =
    let p = err_from_is_err_and c.from_residual.result c.from_residual.ensures.1 in
    rw (p.1, p.2) c.in_err-grammar.ensures.checks

pub of-requires : goal.of-requires
of-requires g c = rw (c.begin_by-session.ensures, c.in_ok-grammar.ensures.root) c.requires.prolog

pub returns-clause-returns : goal.returns-clause-returns
returns-clause-returns g c =
    let root = c.args.root.now in
    let doc = plain_doc c.args.opened.doc in
    let ready = c.in_ok-grammar.ensures in
    let begun : c.begin_by-session.result ≡ session_on c.in_ok-grammar.grammar root (unmarked_doc doc) = rw ready.root at c.begin_by-session.ensures in
    session_begins root c.in_ok-grammar.grammar (plain_dtd c.args.opened.dtd) doc c.of.result ready.grammar ready.has.narrow (c.of.ensures ∙ begun)
