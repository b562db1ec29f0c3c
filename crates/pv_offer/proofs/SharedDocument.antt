-- What threads may share: a marked document, which holds a grammar, its plan and the word judged
-- last. The prover doesn't find it in one search.
use denote.Param.Send.{IsSync, sendable}
use Rattle.std.proofs.Crossing.{crosses}
use Rattle.std.proofs.MapsCrossing.{crosses as maps_cross}
use Rattle.pv_model.proofs.models.Part.TheLaws.TheKnot.{crosses as part_crosses}
use Rattle.pv_model.proofs.layout.ModelLayout.TheLaws.TheKnot.{crosses as layout_crosses}
use Rattle.pv_model.specs.contracts.laid.LaidModel as laid
use Rattle.pv_model.specs.contracts.laid.Form as form
use Rattle.pv_tree.proofs.nodes.Node.TheLaws.TheKnot.{crosses as node_crosses}
use Rattle.pv_verdicts.specs.contracts.last.LastWord as last
use Rattle.pv_cache.specs.contracts.planned.PlannedGrammar as planned
use Rattle.pv_cache.specs.contracts.marked.Marked as marked

pub form_sync : IsSync form.the_row
form_sync = search (layout_crosses, sendable, crosses, maps_cross) depth 40

pub laid_sync : IsSync laid.the_row
laid_sync = search (part_crosses, layout_crosses, sendable, crosses, maps_cross) depth 60 fits 20000

pub last_sync : IsSync last.the_row
last_sync = search (sendable, crosses) depth 60 fits 30000

pub planned_sync : IsSync planned.the_row
planned_sync = search (laid_sync, last_sync, part_crosses, layout_crosses, sendable, crosses, maps_cross) depth 80 fits 60000

pub marked_sync : IsSync marked.the_row
marked_sync = search (planned_sync, node_crosses, part_crosses, layout_crosses, sendable, crosses, maps_cross) depth 80 fits 60000
