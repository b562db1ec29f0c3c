use Rattle.std.proofs.Common.{arith}
use Rattle.std.proofs.lemmas.Result.{err_from_is_err_and}
use Rattle.pv_productive.specs.PlainForms.{dtd_of}
use Rattle.pv_tree.specs.PlainDocs.{plain_doc}
use Rattle.pv_long.proofs.ExactAnswers.{says_heavy}
use Rattle.pv_long.proofs.telling.bounds_of.Goals as goal

pub returns-in_err-least-clause-refused : goal.returns-in_err-least-clause-refused
returns-in_err-least-clause-refused g c =
    let p = err_from_is_err_and c.from_residual.result c.from_residual.ensures.1 in
    rw p.1 (says_heavy (dtd_of c.args.grammar.now) c.args.root.now (plain_doc c.args.doc.now) p.0
    p.2)

pub returns-then-least-ge-HEAVIEST-clause-refused :
    goal.returns-then-least-ge-HEAVIEST-clause-refused
returns-then-least-ge-HEAVIEST-clause-refused g c = λ n some.
    let k = c.in_ok-least.ensures.least n some in
    let h = c.if-least-ge-HEAVIEST.true in
    omega arith

pub returns-in_err-completion-clause-refused : goal.returns-in_err-completion-clause-refused
returns-in_err-completion-clause-refused g c =
    let p = err_from_is_err_and c.from_residual-in_err-completion.result
    c.from_residual-in_err-completion.ensures.1 in
    rw p.1 (says_heavy (dtd_of c.args.grammar.now) c.args.root.now (plain_doc c.args.doc.now) p.0
    p.2)
