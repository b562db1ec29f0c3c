use Rattle.std.proofs.Common.{◌≡◌, [], ◌∷◌, ◌++◌, ap, length, arith, refl, ◌∙◌, subst}
use Rattle.pv_dtd.specs.Plain.{PlainDtd}
use Rattle.pv_lists.specs.Types.{IsTypeOf}
use Rattle.pv_lists.specs.WholeLists.{whole_lists}
use Rattle.pv_lists.specs.declared.open.OpenList.{OpenList}
use Rattle.pv_lists.proofs.TypesFound.{begins_of}
use Rattle.pv_lists.proofs.Stack.{element_begun}
use Rattle.pv_lists.proofs.open.open.Goals as goal

pub returns-clause-read : goal.returns-clause-read
returns-clause-read g c = λ root attrs inner outer r.
    let m = g.J.ListJudge.judgement c.args.judge.now in
    let w = c.of-begun.ensures in
    let old = c.args.lists.now in
    let start : c.of-begun.result.start ≡ length old.tokens.items = w.start ∙ c.len.ensures ∙ omega arith in
    rw c.replace-around.ensures.after (element_begun m root old
    (record {
      inner = c.of-begun.result;
      outer = c.push.new.self;
      tokens = old.tokens;
      found = old.found;
      types = c.or_find-kind.new.self;
    }) inner outer
    c.args.name.now attrs r
    (begins_of m.dtd c.of-begun.result c.or_find-kind.result c.args.name.now
    (subst (λ (d : PlainDtd). IsTypeOf d c.args.name.now c.or_find-kind.result) c.dtd.ensures
    c.or_find-kind.ensures.found) w.name w.is_name w.token w.kids)
    start (rw w.before (c.before-before.ensures root (whole_lists (inner ∷ outer)) r.finds))
    (c.in_ok-push.ensures.items ∙ ap (λ (l : OpenList _). old.outer.items
    ++ l ∷ []) c.replace-around.ensures.value) refl refl)
