use Rattle.std.specs.Prelude.{IsTrue, false, true, ◌↔◌}
use Rattle.std.proofs.Common.{ap, inl, inr, refl, slice_get, sym, ◌∙◌}
use Rattle.pv_rules.proofs.Rests.{followed, last, no_flat, outside}
use Rattle.pv_rules.proofs.sites.is_member.Goals as goal

no : {A : Type 0} → ¬ A → IsTrue false ↔ A
no n = ((λ t. absurd (cc)), (λ a. absurd (n a)))

yes : {A : Type 0} → A → IsTrue true ↔ A
yes a = ((λ t. a), (λ b. refl))

pub returns-in_default : goal.returns-in_default
returns-in_default c = λ g f.
    no (no_flat g c.args.number
    (ap (λ v. slice_get v c.args.number) (sym f.parts) ∙ sym c.in_default.ensures))

pub returns-in-Outside : goal.returns-in-Outside
returns-in-Outside c = λ g f.
    no (outside g c.args.number c.in-Some.part
    (ap (λ v. slice_get v c.args.number) (sym f.parts) ∙ sym c.in-Some.ensures) c.in-Outside.is)

pub returns-in-Followed : goal.returns-in-Followed
returns-in-Followed c = λ g f.
    let h = ap (λ v. slice_get v c.args.number) (sym f.parts) ∙ sym c.in-Some.ensures in
    elim c.in-Followed.is [
      | inl e ↦ yes (followed g c.args.number c.in-Some.part h e)
      | inr e ↦ yes (last g c.args.number c.in-Some.part h e)
    ]
