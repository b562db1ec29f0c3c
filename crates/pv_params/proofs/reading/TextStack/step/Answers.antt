use Rattle.std.proofs.Common.{◌≡◌, ◌<◌, [], ◌∷◌, sym, ap, ◌∙◌, subst}
use Rattle.pv_params.specs.Meaning.{ends, meets}
use Rattle.pv_params.specs.OpenTexts.{plain_open_text, plain_so_far, stacked, LeadToOutcome, work_left}
use Rattle.pv_params.proofs.Stacks.{stacked-push}
use Rattle.pv_params.proofs.Steps.{tells_also, end_leads, end_less, nothing_left}
use Rattle.pv_params.proofs.reading.TextStack.step.Goals as goal

pub returns-in-Ok-clause-leads : goal.returns-in-Ok-clause-leads
returns-in-Ok-clause-leads c =
    let stack : stacked c.args.self.now.texts.items ≡ plain_open_text c.in-Some.top ∷ stacked
    c.pop.new.self.items = ap stacked c.in-Some.ensures.items
    ∙ stacked-push c.pop.new.self.items c.in-Some.top [] in
    λ o l. subst (λ ps. LeadToOutcome ps c.args.self.now.names (plain_so_far c.args.self.now.so_far) o) (sym stack) (c.in-Ok.ensures.leads o l)

pub returns-in-Ok-clause-less : goal.returns-in-Ok-clause-less
returns-in-Ok-clause-less c =
    let stack : stacked c.args.self.now.texts.items ≡ plain_open_text c.in-Some.top ∷ stacked
    c.pop.new.self.items = ap stacked c.in-Some.ensures.items
    ∙ stacked-push c.pop.new.self.items c.in-Some.top [] in
    λ _. subst (λ ps. work_left (stacked c.go_on.new.self.texts.items) (plain_so_far c.go_on.new.self.so_far) < work_left ps (plain_so_far c.args.self.now.so_far)) (sym stack) c.in-Ok.ensures.less

pub returns-in-Err-clause-stops : goal.returns-in-Err-clause-stops
returns-in-Err-clause-stops c =
    let stack : stacked c.args.self.now.texts.items ≡ plain_open_text c.in-Some.top ∷ stacked
    c.pop.new.self.items = ap stacked c.in-Some.ensures.items
    ∙ stacked-push c.pop.new.self.items c.in-Some.top [] in
    tells_also (λ f l. subst (λ ps. LeadToOutcome ps c.args.self.now.names (plain_so_far c.args.self.now.so_far) (meets f)) (sym stack) l) c.in-Err.error c.in-Err.ensures.stops

pub returns-clause-leads : goal.returns-clause-leads
returns-clause-leads c =
    let stack : stacked c.args.self.now.texts.items ≡ plain_open_text c.in-Some.top ∷ stacked
    c.pop.new.self.items = ap stacked c.in-Some.ensures.items
    ∙ stacked-push c.pop.new.self.items c.in-Some.top [] in
    let empty : (plain_open_text c.in-Some.top).rest ≡ [] = sym c.rest.ensures ∙ nothing_left _ c.if-is_empty.ensures in
    λ o l. subst (λ ps. LeadToOutcome ps c.args.self.now.names (plain_so_far c.args.self.now.so_far)
    o) (sym stack) (end_leads (plain_open_text c.in-Some.top) (stacked c.pop.new.self.items)
    c.args.self.now.names _ _ _ _ (ends empty) c.leave.ensures c.in_ok-finish.ensures o l)

pub returns-clause-less : goal.returns-clause-less
returns-clause-less c =
    let stack : stacked c.args.self.now.texts.items ≡ plain_open_text c.in-Some.top ∷ stacked
    c.pop.new.self.items = ap stacked c.in-Some.ensures.items
    ∙ stacked-push c.pop.new.self.items c.in-Some.top [] in
    let empty : (plain_open_text c.in-Some.top).rest ≡ [] = sym c.rest.ensures ∙ nothing_left _ c.if-is_empty.ensures in
    λ _. subst (λ ps. work_left (stacked c.pop.new.self.items) (plain_so_far c.finish.new.self)
    < work_left ps (plain_so_far c.args.self.now.so_far)) (sym stack)
    (end_less (plain_open_text c.in-Some.top) (stacked c.pop.new.self.items)
    c.args.self.now.names _ _ _ (ends empty) c.in_ok-finish.ensures)
