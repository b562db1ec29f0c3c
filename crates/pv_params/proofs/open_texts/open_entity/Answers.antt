use Rattle.std.proofs.Common.{◌≡◌, refl, sym, ◌∙◌, ap}
use Rattle.pv_params.specs.Meaning.{refused, no_entity, being_read, past_limit, not_inside, entered}
use Rattle.pv_params.specs.PlainForms.{plain_mode}
use Rattle.pv_params.specs.OpenTexts.{PlainOpenText, plain_so_far}
use Rattle.pv_params.proofs.Steps.{opens_reference}
use Rattle.pv_params.proofs.open_texts.open_entity.Goals as goal

pub returns-in_default-clause-stopped : goal.returns-in_default-clause-stopped
returns-in_default-clause-stopped c = λ rest more s. refused s (no_entity (sym c.in_default.ensures))

pub returns-then-contains-clause-stopped : goal.returns-then-contains-clause-stopped
returns-then-contains-clause-stopped c = λ rest more s. refused s (being_read (sym c.in-Some.ensures) (sym c.if-contains.ensures))

pub returns-then-passes_limit-clause-stopped : goal.returns-then-passes_limit-clause-stopped
returns-then-passes_limit-clause-stopped c = λ rest more s. refused s (past_limit (sym c.in-Some.ensures) (sym c.if-contains.ensures) (sym c.if-passes_limit.ensures))

pub returns-then-not-may_enter-clause-stopped : goal.returns-then-not-may_enter-clause-stopped
returns-then-not-may_enter-clause-stopped c =
    let may_not = c.if-not-may_enter.ensures.may_not refl in
    λ rest more s. refused s (not_inside (sym c.in-Some.ensures) (sym c.if-contains.ensures) (sym c.if-passes_limit.ensures) may_not.0 may_not.1)

pub returns-clause-opened : goal.returns-clause-opened
returns-clause-opened c =
    let text_is : c.rest.result.now ≡ c.in-Some.text.now = c.rest.ensures ∙ ap (λ (p : PlainOpenText). p.rest) c.in_ok-inner.ensures in
    opens_reference _ _ _ _ _ c.args.name.now c.in-Some.text.now _ _ _ _ c.in_ok-inner.ensures c.mode_of_text.ensures c.in_ok-enter-2.ensures c.in_ok-from_slice.ensures.items c.ending_of.ensures
    (c.in_ok-enter.ensures ∙ ap (λ t. entered (plain_mode c.args.mode) t (plain_so_far c.args.so_far.now)) text_is)
    record { is_text = sym c.in-Some.ensures; not_read = sym c.if-contains.ensures; within = sym c.if-passes_limit.ensures; judged = c.if-not-may_enter.ensures.may refl }
