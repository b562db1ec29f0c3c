-- What threads may share: a judge, which holds a grammar and its plan, and jobs. The prover doesn't
-- find it in one search.
use denote.Param.Send.{IsSync, sendable}
use Rattle.std.proofs.Crossing.{crosses}
use Rattle.std.proofs.MapsCrossing.{crosses as maps_cross}
use Rattle.pv_reach.specs.contracts.plan.Plan as plan
use Rattle.pv_reach.specs.contracts.judge.Judge as judge
use Rattle.pv_tree.proofs.nodes.Node.TheLaws.TheKnot.{crosses as node_crosses}
use Rattle.pv_parallel.specs.contracts.jobs.Job as job
use denote.Ref.{NamedLft}
use Rattle.pv_model.proofs.models.Part.TheLaws.TheKnot.{crosses as part_crosses}
use Rattle.pv_model.proofs.layout.ModelLayout.TheLaws.TheKnot.{crosses as layout_crosses}
use Rattle.pv_model.specs.contracts.laid.LaidModel as laid
use Rattle.pv_model.specs.contracts.laid.Form as form
use Rattle.pv_model.specs.contracts.models.ContentModel as content
use Rattle.pv_productive.specs.contracts.grammar.Grammar as grammar

pub plan_sync : IsSync plan.the_row
plan_sync = search (sendable, crosses) depth 40 fits 20000

pub laid_sync : IsSync laid.the_row
laid_sync = search (part_crosses, layout_crosses, sendable, crosses, maps_cross) depth 60 fits 20000

pub grammar_sync : IsSync grammar.the_row
grammar_sync = search (laid_sync, part_crosses, layout_crosses, sendable, crosses, maps_cross) depth 60 fits 20000

pub judge_sync : (κ : NamedLft) → IsSync (judge.the_row κ)
judge_sync κ = search (plan_sync, grammar_sync, sendable, crosses) depth 60 fits 30000

pub job_sync : (κ : NamedLft) → IsSync (job.the_row κ)
job_sync κ = search (node_crosses, sendable, crosses) depth 60 fits 30000
