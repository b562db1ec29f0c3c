use Rattle.std.proofs.Common.{◌≡◌, ◌+◌, ◌++◌, ◌∷◌, refl, sym, ap, ◌∙◌, append_assoc, arith}
use Rattle.std.proofs.lemmas.Grind.{common_steps}
use Rattle.pv_model.specs.PlainForms.{plain_part, plain_token}
use Rattle.pv_rematch.specs.States.{is_word}
use Rattle.pv_rematch.proofs.ReadStates.{never_no_name}
use Rattle.pv_rematch.proofs.KeptWalks.{read_more}
use Rattle.pv_rematch.proofs.walkers.Walker.read.Goals as goal

pub returns-in_ok-leave_point-clause-next : goal.returns-in_ok-leave_point-clause-next
returns-in_ok-leave_point-clause-next c = λ u a h on.
    let p = plain_part c.args.part.now in
    let since : c.in_ok-self.field-0 ≡ c.args.self.now.since + 1 = grind (arith, common_steps) in
    rw c.in-Name.is
    (c.in_ok-leave_point.ensures.read p u _
    (read_more p u a _ c.args.self.now _ since refl h
    (c.if-not-read.ensures.next (u ++ a) h.state refl)))

pub returns-else-self-stride-clause-next : goal.returns-else-self-stride-clause-next
returns-else-self-stride-clause-next c = λ u a h on.
    let p = plain_part c.args.part.now in
    let since : c.in_ok-self.field-0 ≡ c.args.self.now.since + 1 = grind (arith, common_steps) in
    rw c.in-Name.is
    (read_more p u a _ c.args.self.now _ since refl h
    (c.if-not-read.ensures.next (u ++ a) h.state refl))

pub returns-in_default-clause-lost : goal.returns-in_default-clause-lost
returns-in_default-clause-lost c = λ u a v h e.
    let p = plain_part c.args.part.now in
    ap (is_word p) (sym (append_assoc u a (plain_token c.args.token ∷ v)))
    ∙ never_no_name p (u ++ a) c.args.self.now.state c.args.token
    c.in_default.not-Name h.state v

pub returns-then-not-read-clause-lost : goal.returns-then-not-read-clause-lost
returns-then-not-read-clause-lost c = λ u a v h e.
    let p = plain_part c.args.part.now in
    rw c.in-Name.is (ap (is_word p) (sym (append_assoc u a _))
    ∙ c.if-not-read.ensures.lost (u ++ a) v h.state refl)
