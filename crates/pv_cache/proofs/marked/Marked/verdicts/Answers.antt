use Rattle.std.proofs.Common.{List, Option, ap, subst, ◌∙◌, ℕ}
use Rattle.pv_tree.specs.PlainDocs.{plain_doc}
use Rattle.pv_tree.specs.declared.nodes.Verdict.{Verdict}
use Rattle.pv_cache.specs.Rows.{TellVerdicts}
use Rattle.pv_cache.specs.Stamps.{StampedDoc}
use Rattle.pv_cache.specs.WellMarked.{verdicts_told}
use Rattle.pv_cache.proofs.FirstBadList.{tell_verdicts}
use Rattle.pv_cache.proofs.marked.Marked.verdicts.Goals as goal

pub returns : goal.returns
returns c =
    let m = c.self.inside in
    let doc = plain_doc m.document.doc in
    let told =
    ap (λ (vs : List Verdict). record { verdicts = vs; first = c.in_ok-first.first })
    c.in_ok-verdicts.ensures in
    let first =
    ap (λ (f : Option (List ℕ)). record { verdicts = verdicts_told doc; first = f })
    c.in_ok-first.ensures in
    subst (λ (s : StampedDoc). TellVerdicts s c.of.result) c.self.view_is
    (tell_verdicts m.document.grammar m.document.root doc c.self.inside.document.marked
    c.of.result (c.of.ensures ∙ told ∙ first))
