use Rattle.std.proofs.Common.{subst}
use Rattle.std.proofs.lemmas.Result.{err_from_is_err_and}
use Rattle.pv_tree.specs.PlainDocs.{plain_doc}
use Rattle.pv_cache.specs.AcceptedEdits.{IsAccepted}
use Rattle.pv_cache.specs.MarkedTasks.{edited_doc}
use Rattle.pv_cache.specs.Moves.{HasGround}
use Rattle.pv_cache.specs.Stamps.{StampedDoc, stamps_of}
use Rattle.pv_cache.proofs.marked.Marked.judge.Goals as goal

pub returns-in_err-_judged-clause-refused : goal.returns-in_err-_judged-clause-refused
returns-in_err-_judged-clause-refused g c =
    let p = err_from_is_err_and c.from_residual.result c.from_residual.ensures.1 in
    rw (p.1, p.2)
    (subst (λ (s : StampedDoc).
    HasGround 0 s.dtd s.root s.doc c.args.edit.now c.in_err-_judged.field-0.0) c.self.view_is
    c.in_err-_judged.ensures.refused)

pub returns-clause-accepted : goal.returns-clause-accepted
returns-clause-accepted g c =
    let edit = c.args.edit.now in
    let edited = stamps_of (edited_doc (plain_doc c.self.inside.document.doc) edit) in (
      edited,
      subst (λ (s : StampedDoc). IsAccepted 0 s.dtd s.root s.doc edit edited) c.self.view_is
          c.in_ok-_judged.ensures.accepted,
    )
