use Rattle.std.proofs.Common.{Some, ap, ◌∙◌, refl, arith}
use Rattle.pv_tree.specs.declared.nodes.Verdict.TheVariants as verdict
use Rattle.pv_check.proofs.InsertedLists.{put_impossible, put_live}
use Rattle.pv_check.proofs.findings.Findings.add_judged.Goals as goal

pub returns-in_ok-new-in-Impossible : goal.returns-in_ok-new-in-Impossible
returns-in_ok-new-in-Impossible c = λ s g root before after list f all judges placed.
    let h = rw c.in-Impossible.is at judges in
    put_impossible s g root before after list c.args.self.now _ f all h.0 refl refl refl h.1
    (ap Some (c.in_ok-new-in-Impossible.ensures ∙ (rw c.in-Impossible.is at placed))) refl

pub returns-in-Possible : goal.returns-in-Possible
returns-in-Possible c = λ s g root before after list f all judges placed.
    let h = rw c.in-Possible.is at judges in
    put_live s g root before after list c.args.self.now _ f all h.0 refl refl refl
    verdict.Possible h.1 h.1.0 refl (omega arith)

pub returns-in-Valid : goal.returns-in-Valid
returns-in-Valid c = λ s g root before after list f all judges placed.
    let h = rw c.in-Valid.is at judges in
    put_live s g root before after list c.args.self.now _ f all h.0 refl refl refl
    verdict.Valid h.1 h.1.0 refl (omega arith)
