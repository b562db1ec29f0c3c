use Rattle.std.proofs.Common.{◌≡◌, ◌<◌, [], ◌∷◌, Some, sym, ap, ◌∙◌, subst}
use Rattle.pv_params.specs.ItemReading.{item_at}
use Rattle.pv_params.specs.PlainForms.{plain_mode, plain_item}
use Rattle.pv_params.specs.OpenTexts.{plain_open_text, plain_so_far, stacked, LeadToOutcome, work_left, StopsAt}
use Rattle.pv_params.proofs.Stacks.{stacked-push}
use Rattle.pv_params.proofs.Steps.{tells_also, item_left, behind_of, behind_place, end_leads, end_less, fault_leads, stands_where, put_leads, put_less, inner_leads, inner_less}
use Rattle.pv_params.proofs.reading.TextStack.read.Goals as goal

pub returns-in_ok-finish-in-Ok-clause-leads : goal.returns-in_ok-finish-in-Ok-clause-leads
returns-in_ok-finish-in-Ok-clause-leads c =
    let stops = rw c.rest-in_default.ensures at (c.in-Ok.ensures.stopped c.args.self.now.names) in
    end_leads (plain_open_text c.args.top) (stacked c.args.self.now.texts.items) c.args.self.now.names _ _ _ _ stops c.leave.ensures c.in_ok-finish-in-Ok.ensures

pub returns-in_ok-finish-in-Ok-clause-less : goal.returns-in_ok-finish-in-Ok-clause-less
returns-in_ok-finish-in-Ok-clause-less c =
    let stops = rw c.rest-in_default.ensures at (c.in-Ok.ensures.stopped c.args.self.now.names) in
    end_less (plain_open_text c.args.top) (stacked c.args.self.now.texts.items) c.args.self.now.names _ _ _ stops c.in_ok-finish-in-Ok.ensures

pub returns-in-Err-clause-stops : goal.returns-in-Err-clause-stops
returns-in-Err-clause-stops c =
    let faulty = rw c.rest-in_default.ensures at (c.in-Err.ensures.faulty c.args.self.now.names) in
    tells_also (fault_leads (plain_open_text c.args.top) (stacked c.args.self.now.texts.items) c.args.self.now.names (plain_so_far c.args.self.now.so_far)) c.in-Err.error faulty

pub returns-in_ok-push-in-Ok-None-clause-leads : goal.returns-in_ok-push-in-Ok-None-clause-leads
returns-in_ok-push-in-Ok-None-clause-leads c =
    let found : item_at (plain_mode c.args.top.mode) (plain_open_text c.args.top).rest
    ≡ Some (plain_item c.in-Some.item, c.in-Some.more.now) = sym (c.in-Some.ensures
    ∙ ap (item_at (plain_mode c.args.top.mode)) c.rest.ensures) in
    let behind = behind_place (plain_open_text c.args.top) _ (plain_item c.in-Some.item) c.in-Some.more.now _ _ c.behind.ensures c.mode_behind-behind.ensures (item_left _ _ _ _ _ found) in
    let moved : stacked c.push.new.self.items ≡ behind_of (plain_open_text c.args.top)
    (plain_item c.in-Some.item) c.in-Some.more.now ∷ stacked c.args.self.now.texts.items =
    ap stacked c.in_ok-push-in-Ok-None.ensures.items ∙ stacked-push c.args.self.now.texts.items
    c.behind.result [] ∙ ap (λ q. q ∷ stacked c.args.self.now.texts.items) behind in
    let handles = rw c.in-Ok-None.field-0-is at c.in-Ok-None.ensures.opened in
    λ o l. put_leads (plain_open_text c.args.top) (stacked c.args.self.now.texts.items)
    c.args.self.now.names _ _ _ _ _ found handles o
    (subst (λ ps. LeadToOutcome ps c.handle.new.names (plain_so_far c.handle.new.so_far) o) moved l)

pub returns-in_ok-push-in-Ok-None-clause-less : goal.returns-in_ok-push-in-Ok-None-clause-less
returns-in_ok-push-in-Ok-None-clause-less c =
    let found : item_at (plain_mode c.args.top.mode) (plain_open_text c.args.top).rest
    ≡ Some (plain_item c.in-Some.item, c.in-Some.more.now) = sym (c.in-Some.ensures
    ∙ ap (item_at (plain_mode c.args.top.mode)) c.rest.ensures) in
    let behind = behind_place (plain_open_text c.args.top) _ (plain_item c.in-Some.item) c.in-Some.more.now _ _ c.behind.ensures c.mode_behind-behind.ensures (item_left _ _ _ _ _ found) in
    let moved : stacked c.push.new.self.items ≡ behind_of (plain_open_text c.args.top)
    (plain_item c.in-Some.item) c.in-Some.more.now ∷ stacked c.args.self.now.texts.items =
    ap stacked c.in_ok-push-in-Ok-None.ensures.items ∙ stacked-push c.args.self.now.texts.items
    c.behind.result [] ∙ ap (λ q. q ∷ stacked c.args.self.now.texts.items) behind in
    let handles = rw c.in-Ok-None.field-0-is at c.in-Ok-None.ensures.opened in
    let less = put_less (plain_open_text c.args.top) (stacked c.args.self.now.texts.items) c.args.self.now.names _ _ _ _ _ found handles in
    subst (λ ps. work_left ps (plain_so_far c.handle.new.so_far) < work_left (plain_open_text c.args.top ∷ stacked c.args.self.now.texts.items) (plain_so_far c.args.self.now.so_far)) (sym moved) less

pub returns-in_ok-push-in-Ok-Some-2-clause-leads : goal.returns-in_ok-push-in-Ok-Some-2-clause-leads
returns-in_ok-push-in-Ok-Some-2-clause-leads c =
    let found : item_at (plain_mode c.args.top.mode) (plain_open_text c.args.top).rest
    ≡ Some (plain_item c.in-Some.item, c.in-Some.more.now) = sym (c.in-Some.ensures
    ∙ ap (item_at (plain_mode c.args.top.mode)) c.rest.ensures) in
    let behind = behind_place (plain_open_text c.args.top) _ (plain_item c.in-Some.item) c.in-Some.more.now _ _ c.behind-in-Ok-Some.ensures c.mode_behind-behind.ensures (item_left _ _ _ _ _ found) in
    let moved : stacked c.push-in-Ok-Some.new.self.items ≡ behind_of (plain_open_text c.args.top)
    (plain_item c.in-Some.item) c.in-Some.more.now ∷ stacked c.args.self.now.texts.items =
    ap stacked c.in_ok-push-in-Ok-Some.ensures.items ∙ stacked-push c.args.self.now.texts.items
    c.behind-in-Ok-Some.result [] ∙ ap (λ q. q ∷ stacked c.args.self.now.texts.items) behind in
    let handles = rw c.in-Ok-Some.field-0-is at c.in-Ok-Some.ensures.opened in
    let both : stacked c.push-in-Ok-Some-2.new.self.items
    ≡ plain_open_text c.in-Ok-Some.inner ∷ behind_of (plain_open_text c.args.top)
    (plain_item c.in-Some.item) c.in-Some.more.now ∷ stacked c.args.self.now.texts.items =
    ap stacked c.in_ok-push-in-Ok-Some-2.ensures.items
    ∙ stacked-push c.push-in-Ok-Some.new.self.items c.in-Ok-Some.inner []
    ∙ ap (λ ps. plain_open_text c.in-Ok-Some.inner ∷ ps) moved in
    λ o l. inner_leads (plain_open_text c.args.top) (plain_open_text c.in-Ok-Some.inner)
    (stacked c.args.self.now.texts.items) c.args.self.now.names _ _ _ _ _ found handles o
    (subst (λ ps. LeadToOutcome ps c.handle.new.names (plain_so_far c.handle.new.so_far) o) both l)

pub returns-in_ok-push-in-Ok-Some-2-clause-less : goal.returns-in_ok-push-in-Ok-Some-2-clause-less
returns-in_ok-push-in-Ok-Some-2-clause-less c =
    let found : item_at (plain_mode c.args.top.mode) (plain_open_text c.args.top).rest
    ≡ Some (plain_item c.in-Some.item, c.in-Some.more.now) = sym (c.in-Some.ensures
    ∙ ap (item_at (plain_mode c.args.top.mode)) c.rest.ensures) in
    let behind = behind_place (plain_open_text c.args.top) _ (plain_item c.in-Some.item) c.in-Some.more.now _ _ c.behind-in-Ok-Some.ensures c.mode_behind-behind.ensures (item_left _ _ _ _ _ found) in
    let moved : stacked c.push-in-Ok-Some.new.self.items ≡ behind_of (plain_open_text c.args.top)
    (plain_item c.in-Some.item) c.in-Some.more.now ∷ stacked c.args.self.now.texts.items =
    ap stacked c.in_ok-push-in-Ok-Some.ensures.items ∙ stacked-push c.args.self.now.texts.items
    c.behind-in-Ok-Some.result [] ∙ ap (λ q. q ∷ stacked c.args.self.now.texts.items) behind in
    let handles = rw c.in-Ok-Some.field-0-is at c.in-Ok-Some.ensures.opened in
    let both : stacked c.push-in-Ok-Some-2.new.self.items
    ≡ plain_open_text c.in-Ok-Some.inner ∷ behind_of (plain_open_text c.args.top)
    (plain_item c.in-Some.item) c.in-Some.more.now ∷ stacked c.args.self.now.texts.items =
    ap stacked c.in_ok-push-in-Ok-Some-2.ensures.items
    ∙ stacked-push c.push-in-Ok-Some.new.self.items c.in-Ok-Some.inner []
    ∙ ap (λ ps. plain_open_text c.in-Ok-Some.inner ∷ ps) moved in
    let less = inner_less (plain_open_text c.args.top) (plain_open_text c.in-Ok-Some.inner) (stacked c.args.self.now.texts.items) c.args.self.now.names _ _ _ _ _ found handles in
    subst (λ ps. work_left ps (plain_so_far c.handle.new.so_far) < work_left (plain_open_text c.args.top ∷ stacked c.args.self.now.texts.items) (plain_so_far c.args.self.now.so_far)) (sym both) less

pub returns-in-Err-handle-clause-stops : goal.returns-in-Err-handle-clause-stops
returns-in-Err-handle-clause-stops c =
    let found : item_at (plain_mode c.args.top.mode) (plain_open_text c.args.top).rest
    ≡ Some (plain_item c.in-Some.item, c.in-Some.more.now) = sym (c.in-Some.ensures
    ∙ ap (item_at (plain_mode c.args.top.mode)) c.rest.ensures) in
    tells_also {P = StopsAt (plain_mode c.args.top.mode) c.args.self.now.names (plain_so_far c.args.self.now.so_far) (plain_item c.in-Some.item)}
    (λ f s. fault_leads (plain_open_text c.args.top) (stacked c.args.self.now.texts.items)
    c.args.self.now.names (plain_so_far c.args.self.now.so_far) f
    (s (plain_open_text c.args.top).rest c.in-Some.more.now (stands_where _ _ _ _ found)))
    c.in-Err-handle.error c.in-Err-handle.ensures.stopped
