use Rattle.std.proofs.Common.{subst}
use Rattle.pv_dtd.specs.Plain.{PlainDtd}
use Rattle.pv_tree.specs.PlainDocs.{plain_doc}
use Rattle.pv_commands.specs.Deny.{TellsJudgement}
use Rattle.pv_opening.specs.Returns.{TellsBy}
use Rattle.pv_commands.proofs.deny.tell.Goals as goal

pub returns : goal.returns
returns c =
    subst (λ (d : PlainDtd).
    TellsBy (TellsJudgement c.args.root.now d (plain_doc c.args.doc.now) c.args.denial.now)
    c.tell_by.result) c.in_ok-grammar.ensures c.tell_by.ensures
