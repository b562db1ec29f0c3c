use Rattle.std.proofs.Common.{Some, ap, ◌∙◌, refl}
use Rattle.pv_check.proofs.InsertedLists.{put_wide}
use Rattle.pv_check.proofs.findings.Findings.add.Goals as goal

pub returns-in_ok-new-in-None-2 : goal.returns-in_ok-new-in-None-2
returns-in_ok-new-in-None-2 c = λ s g root before after list f all judges placed.
    let is = rw c.in-None.is at placed in
    put_wide s g root before after list c.args.self.now _ f all (rw c.in-None.is at judges)
    (ap Some (c.in_ok-new-in-None.ensures ∙ is)) (ap Some (c.in_ok-new-in-None-2.ensures ∙ is))
    refl refl refl

pub returns-in-Some : goal.returns-in-Some
returns-in-Some c = λ s g root before after list f all judges placed.
    c.add_judged.ensures s g root before after list f all (rw c.in-Some.is at judges)
    (rw c.in-Some.is at placed)
