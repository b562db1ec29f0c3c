use Rattle.std.proofs.Common.{◌≡◌, map, sym, ap, ◌∙◌, subst}
use Rattle.pv_model.specs.Plain.{PlainPart, children}
use Rattle.pv_model.specs.PlainForms.{plain_model, plain_part, plain_token}
use Rattle.pv_rematch.specs.Changes.{word_before}
use Rattle.pv_rematch.specs.Stretches.{AreOf}
use Rattle.pv_rematch.proofs.word_matches.WordMatch.turn.Goals as goal

pub returns-in_ok-count-in-Count-default : goal.returns-in_ok-count-in-Count-default
returns-in_ok-count-in-Count-default c = λ h.
    let k = rw c.in-Count-default.is-0 at h.is in
    record { is = (k.0, c.in_ok-count-in-Count-default.ensures k.1) }

pub returns-in_ok-stretch-in-Points-Children : goal.returns-in_ok-stretch-in-Points-Children
returns-in_ok-stretch-in-Points-Children c = λ h.
    let arm = c.in-Points-Children in
    let q = plain_part arm.part.value in
    let before = map plain_token (word_before c.args.change.now) in
    let k = rw arm.is-0 at h.is in
    let is : plain_model c.args.model.now ≡ children q =
    ap plain_model (sym c.model.ensures ∙ arm.is-1) in
    let same : k.0 ≡ q = cc (k.1, is) in
    let Q : PlainPart → Type 0 = λ p. AreOf p before arm.points in
    let made = rw c.deref.ensures at c.in_ok-stretch-in-Points-Children.ensures in
    record { is = (q, arm.points, is, arm.is-0, made (subst Q same k.2)) }
