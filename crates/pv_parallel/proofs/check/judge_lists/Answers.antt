use Rattle.std.proofs.Common.{[], ap, arith, refl, subst, ◌+◌, ◌∙◌, ◌≡◌}
use Rattle.std.specs.List.{AllByRecursion, AllZip}
use Rattle.pv_dtd.specs.Plain.{PlainDtd}
use Rattle.pv_dtd.specs.PlainForms.{plain_dtd}
use Rattle.pv_productive.specs.PlainForms.{dtd_of}
use Rattle.pv_tree.specs.Lists.{lists_of}
use Rattle.pv_tree.specs.PlainDocs.{plain_doc}
use Rattle.pv_missing.specs.Widths.{IsListForVerdict}
use Rattle.pv_parallel.specs.Jobs.{AreJoined, JudgesJob}
use Rattle.pv_parallel.proofs.Judgements.{jobs_judged, none_too_wide}
use Rattle.pv_parallel.proofs.check.judge_lists.Goals as goal

pub join_judged-requires : goal.join_judged-requires
join_judged-requires g c =
    let d = dtd_of c.args.judge.now in
    let entered = g.G.Gate.entered c.args.gate.now in
    let zip : AllZip (JudgesJob d c.args.root.now entered) c.in_ok-jobs.jobs.items c.in_ok-judged.judged.items = rw c.deref.ensures.value at c.in_ok-judged.ensures in
    let found : AllByRecursion (IsListForVerdict (plain_dtd c.dtd.result.now)) (lists_of (plain_doc c.args.doc.now)) = rw c.in_default.is at c.in_ok-path.ensures in
    let fits = subst (λ (v : PlainDtd). AllByRecursion (IsListForVerdict v) (lists_of (plain_doc c.args.doc.now))) (c.dtd.ensures ∙ ap dtd_of c.grammar.ensures) found in
    rw c.deref-2.ensures.value (none_too_wide d c.args.root.now entered 0 (lists_of (plain_doc c.args.doc.now)) c.in_ok-jobs.jobs.items c.in_ok-judged.judged.items c.in_ok-jobs.ensures.jobs zip fits)

pub returns-clause-verdicts : goal.returns-clause-verdicts
returns-clause-verdicts g c =
    let d = dtd_of c.args.judge.now in
    let entered = g.G.Gate.entered c.args.gate.now in
    let zip : AllZip (JudgesJob d c.args.root.now entered) c.in_ok-jobs.jobs.items c.in_ok-judged.judged.items = rw c.deref.ensures.value at c.in_ok-judged.ensures in
    let joined : AreJoined c.in_ok-judged.judged.items c.in_ok-verdicts.verdicts.items = rw c.deref-2.ensures.value at c.in_ok-verdicts.ensures in
    let all = jobs_judged d c.args.root.now entered 0 (lists_of (plain_doc c.args.doc.now))
    c.in_ok-jobs.jobs.items c.in_ok-judged.judged.items c.in_ok-verdicts.verdicts.items
    c.in_ok-jobs.ensures.jobs zip joined in
    all.verdicts [] refl

pub returns-clause-as_many : goal.returns-clause-as_many
returns-clause-as_many g c =
    let d = dtd_of c.args.judge.now in
    let entered = g.G.Gate.entered c.args.gate.now in
    let zip : AllZip (JudgesJob d c.args.root.now entered) c.in_ok-jobs.jobs.items c.in_ok-judged.judged.items = rw c.deref.ensures.value at c.in_ok-judged.ensures in
    let joined : AreJoined c.in_ok-judged.judged.items c.in_ok-verdicts.verdicts.items = rw c.deref-2.ensures.value at c.in_ok-verdicts.ensures in
    let all = jobs_judged d c.args.root.now entered 0 (lists_of (plain_doc c.args.doc.now))
    c.in_ok-jobs.jobs.items c.in_ok-judged.judged.items c.in_ok-verdicts.verdicts.items
    c.in_ok-jobs.ensures.jobs zip joined in
    let n = all.as_many in
    omega arith

pub returns-clause-entered : goal.returns-clause-entered
returns-clause-entered g c = λ k lt.
    let d = dtd_of c.args.judge.now in
    let entered = g.G.Gate.entered c.args.gate.now in
    let zip : AllZip (JudgesJob d c.args.root.now entered) c.in_ok-jobs.jobs.items c.in_ok-judged.judged.items = rw c.deref.ensures.value at c.in_ok-judged.ensures in
    let joined : AreJoined c.in_ok-judged.judged.items c.in_ok-verdicts.verdicts.items = rw c.deref-2.ensures.value at c.in_ok-verdicts.ensures in
    let all = jobs_judged d c.args.root.now entered 0 (lists_of (plain_doc c.args.doc.now))
    c.in_ok-jobs.jobs.items c.in_ok-judged.judged.items c.in_ok-verdicts.verdicts.items
    c.in_ok-jobs.ensures.jobs zip joined in
    let few = c.in_ok-jobs.ensures.few in
    let n = all.as_many in
    let same : 0 + k ≡ k = omega arith in
    subst entered same (all.told k (omega arith) (omega arith) (omega arith))
