use Rattle.std.proofs.Common.{◌≡◌, ◌<◌, ◌-◌, [], ◌∷◌, length, take, drop, sym, ap, ◌∙◌, subst}
use Rattle.pv_params.specs.Meaning.{put}
use Rattle.pv_params.specs.OpenTexts.{plain_open_text, plain_so_far, stacked, LeadToOutcome, work_left}
use Rattle.pv_params.proofs.Stacks.{stacked-push}
use Rattle.pv_params.proofs.PlainRuns.{run_is_front, left_behind, run_leads, run_less}
use Rattle.pv_params.proofs.reading.TextStack.copy.Goals as goal

pub returns-clause-leads : goal.returns-clause-leads
returns-clause-leads c =
    let more = drop (length c.args.top.text.items - c.args.left) c.args.top.text.items in
    let front : c.split_at.result.0.now ≡ c.requires.run.run = c.split_at.ensures.front
    ∙ ap (λ l. take (length l - c.args.left) l) c.rest-rest.ensures
    ∙ run_is_front (plain_open_text c.args.top).mode c.args.top.text.items c.args.left
    (length c.args.top.text.items - c.args.top.left) c.requires.run c.requires.some in
    let put_is : plain_so_far c.put.new.self ≡ put c.requires.run.run (plain_so_far c.args.self.now.so_far) = c.in_ok-put.ensures ∙ ap (λ l. put l (plain_so_far c.args.self.now.so_far)) front in
    let stack : stacked c.push.new.self.items ≡ plain_open_text c.behind.result ∷ stacked
    c.args.self.now.texts.items = ap stacked c.in_ok-push.ensures.items
    ∙ stacked-push c.args.self.now.texts.items c.behind.result [] in
    λ o l. run_leads (plain_open_text c.args.top) (plain_open_text c.behind.result)
    (stacked c.args.self.now.texts.items) c.args.self.now.names
    (plain_so_far c.args.self.now.so_far) (plain_so_far c.put.new.self) more c.requires.run
    put_is c.behind.ensures o (subst (λ ps. LeadToOutcome ps c.args.self.now.names
    (plain_so_far c.put.new.self) o) stack l)

pub returns-clause-less : goal.returns-clause-less
returns-clause-less c =
    let more = drop (length c.args.top.text.items - c.args.left) c.args.top.text.items in
    let front : c.split_at.result.0.now ≡ c.requires.run.run = c.split_at.ensures.front
    ∙ ap (λ l. take (length l - c.args.left) l) c.rest-rest.ensures
    ∙ run_is_front (plain_open_text c.args.top).mode c.args.top.text.items c.args.left
    (length c.args.top.text.items - c.args.top.left) c.requires.run c.requires.some in
    let put_is : plain_so_far c.put.new.self ≡ put c.requires.run.run (plain_so_far c.args.self.now.so_far) = c.in_ok-put.ensures ∙ ap (λ l. put l (plain_so_far c.args.self.now.so_far)) front in
    let stack : stacked c.push.new.self.items ≡ plain_open_text c.behind.result ∷ stacked
    c.args.self.now.texts.items = ap stacked c.in_ok-push.ensures.items
    ∙ stacked-push c.args.self.now.texts.items c.behind.result [] in
    let shorter = left_behind c.args.top.text.items c.args.left (length c.args.top.text.items - c.args.top.left) c.requires.some in
    let less = run_less (plain_open_text c.args.top) (plain_open_text c.behind.result)
    (stacked c.args.self.now.texts.items) (plain_so_far c.args.self.now.so_far)
    (plain_so_far c.put.new.self) more c.requires.run.run shorter put_is c.behind.ensures in
    subst (λ ps. work_left ps (plain_so_far c.put.new.self) < work_left (plain_open_text c.args.top ∷ stacked c.args.self.now.texts.items) (plain_so_far c.args.self.now.so_far)) (sym stack) less
