use denote.Exit.{no}
use mir.Syntax.{named}
use denote.Param.Send.{IsSend, arg_send, param_send, sendable}
use Rattle.std.proofs.Crossing.{crosses}
use Rattle.pv_tree.proofs.nodes.Node.TheLaws.TheKnot.{crosses as node_crosses}
use Rattle.pv_parallel.proofs.SharedJudge.{job_sync, judge_sync}
use Rattle.std.proofs.Common.{ap, subst, ◌∙◌}
use Rattle.rayon.proofs.ListFacts.{IfOk-then}
use Rattle.rayon.proofs.ToStd.{slice-AllZip}
use Rattle.std.specs.List.{AllZip}
use Rattle.pv_productive.specs.PlainForms.{dtd_of}
use Rattle.pv_parallel.specs.Jobs.{JudgesJob}
use Rattle.pv_parallel.proofs.judging.judge_jobs.Lts as lts
use Rattle.pv_parallel.proofs.judging.judge_jobs.Goals as goal

pub returns : goal.returns
returns g c =
    let slice = ap (λ it. it.base.slice.now) c.map.ensures.base ∙ ap (λ it. it.slice.now) c.with_min_len.ensures.base ∙ c.par_iter.ensures in
    IfOk-then c.collect.result _ _ c.collect.ensures (λ v h.
    let chain = h.1 in
    let all = subst (λ f. AllZip (λ z y. JudgesJob (dtd_of f.0.now) f.1.now (g.G.Gate.entered f.2.now) z.now y) chain.0 h.0) c.map.ensures.f chain.2 in
    rw h.2 (slice-AllZip chain.0 c.args.jobs.now (chain.1 ∙ slice) (JudgesJob (dtd_of c.args.judge.now) c.args.root.now (g.G.Gate.entered c.args.gate.now)) h.0 all))

-- the closure holds the judge, the root's name and the gate
pub map-requires-send-F : goal.map-requires-send-F
map-requires-send-F g c κs within = search (judge_sync, sendable, crosses) depth 60 fits 30000

pub map-requires-sync-F : goal.map-requires-sync-F
map-requires-sync-F g c κs within = search (judge_sync, sendable, crosses) depth 60 fits 30000

pub collect-requires-send-Self : goal.collect-requires-send-Self
collect-requires-send-Self g c κs within =
    let base = lts.of-10 g.row.G g.row.rt g.G.laws g.rt.laws g.G.Gate-dict g.rt.Threads-dict (record { mir = named 6; lft = κs.1.1.1.1.1.1.0 }) (record { mir = named 7; lft = κs.1.1.1.1.1.1.1.0 }) in
    let mapped = lts.of-14 g.row.G g.row.rt g.G.laws g.rt.laws g.G.Gate-dict g.rt.Threads-dict
    (record { mir = named 8; lft = κs.1.1.1.1.1.1.1.1.0 })
    (record { mir = named 9; lft = κs.1.1.1.1.1.1.1.1.1.0 })
    (record { mir = named 10; lft = κs.1.1.1.1.1.1.1.1.1.1.0 })
    (record { mir = named 11; lft = κs.1.1.1.1.1.1.1.1.1.1.1.0 }) in
    let base-sent : IsSend base = search (job_sync, node_crosses, sendable, crosses) depth 60 fits 30000 in
    let mapped-sent : IsSend mapped = search (judge_sync, sendable, crosses) depth 60 fits 30000 in
    let row = lts.row-0 g.row.G g.row.rt g.G.laws g.rt.laws g.G.Gate-dict g.rt.Threads-dict
    (record { mir = named 6; lft = κs.1.1.1.1.1.1.0 })
    (record { mir = named 7; lft = κs.1.1.1.1.1.1.1.0 })
    (record { mir = named 8; lft = κs.1.1.1.1.1.1.1.1.0 })
    (record { mir = named 9; lft = κs.1.1.1.1.1.1.1.1.1.0 })
    (record { mir = named 10; lft = κs.1.1.1.1.1.1.1.1.1.1.0 })
    (record { mir = named 11; lft = κs.1.1.1.1.1.1.1.1.1.1.1.0 }) in
    let sent : IsSend row = search (sendable, crosses) depth 40 in
    param_send 0 (lts.arg-5-0 g.row.G g.row.rt g.G.laws g.rt.laws g.G.Gate-dict g.rt.Threads-dict κs) (arg_send _ no row sent)
