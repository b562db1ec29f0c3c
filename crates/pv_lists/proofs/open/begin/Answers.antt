use Rattle.std.proofs.Common.{[], subst}
use Rattle.pv_dtd.specs.Plain.{PlainDtd}
use Rattle.pv_lists.specs.Types.{IsTypeOf}
use Rattle.pv_lists.proofs.TypesFound.{begins_of}
use Rattle.pv_lists.proofs.Stack.{root_begun}
use Rattle.pv_lists.proofs.open.begin.Goals as goal

pub returns-clause-read : goal.returns-clause-read
returns-clause-read g c = λ root attrs.
    let m = g.J.ListJudge.judgement c.args.judge.now in
    let w = c.of-2.ensures in
    root_begun m root (record { inner = c.of-2.result; outer = c.new.result; tokens = c.new-2.result; found = c.none-found.result; types = c.find-kind.new.self }) c.args.name.now attrs
    (begins_of m.dtd c.of-2.result c.find-kind.result c.args.name.now
    (subst (λ (d : PlainDtd). IsTypeOf d c.args.name.now c.find-kind.result) c.dtd-2.ensures
    c.find-kind.ensures.found) w.name w.is_name w.token w.kids)
    w.start c.new.ensures.items c.new-2.ensures.items (rw w.before (c.before-before.ensures root [] (c.none-found.ensures root))) (c.none-found.ensures root)
