use Rattle.std.proofs.Common.{ap, sym, ◌∙◌, vec_len, arith}
use Rattle.pv_lists.specs.declared.open.OpenLists.{OpenLists}
use Rattle.pv_lists.proofs.Stack.{root_ended, kid_ended, none_popped, cut_off}
use Rattle.pv_lists.proofs.ending.close.Goals as goal

pub returns-in_default-clause-ended : goal.returns-in_default-clause-ended
returns-in_default-clause-ended g c = λ root attrs inner outer ending mark r.
    let judged = c.in_ok-judge_inner.ensures in
    let old = c.judge_inner.new.lists in
    let new : OpenLists _ _ = record { inner = old.inner; outer = c.pop.new.self; tokens = c.truncate.new.self; found = old.found; types = old.types } in
    root_ended (g.J.ListJudge.judgement c.args.judge.now) root c.args.lists.now new inner outer attrs ending mark r
    (ap (λ (v : _). v.items) (sym judged.outer) ∙ none_popped old.outer.items (vec_len old.outer)
    c.in_default.ensures.cases.0 (omega arith)) judged.inner (judged.finds root attrs inner
    outer ending mark r)

pub returns-clause-ended : goal.returns-clause-ended
returns-clause-ended g c = λ root attrs inner outer ending mark r.
    let judged = c.in_ok-judge_inner.ensures in
    let added = c.in_ok-add_kid.ensures in
    kid_ended (g.J.ListJudge.judgement c.args.judge.now) root c.args.lists.now c.add_kid.new.self c.in-Some.around c.pop.new.self.items inner outer attrs ending mark r
    (ap (λ (v : _). v.items) (sym judged.outer) ∙ c.in-Some.ensures.items) added.inner (ap (λ (v : _). v.items) added.outer)
    (cut_off c.args.lists.now c.judge_inner.new.lists c.truncate.new.self.items c.add_kid.new.self.tokens.items judged.inner judged.tokens c.truncate.ensures.items added.tokens)
    (rw added.found (judged.finds root attrs inner outer ending mark r))
