use Rattle.pv_rules.specs.Sites.{name_site}
use Rattle.pv_span.specs.Weights.{weight_of}
use Rattle.pv_complete.specs.Moves.{IsNoItem}
use Rattle.pv_complete.proofs.words.items.declared_move.Given as goal

abbrev pub invariant-loop-name : goal.invariant-loop-name
invariant-loop-name l = IsNoItem (weight_of l.spot.weights.spans.now) name_site 0 l.name l.id.0 l.spot.from l.spot.to l.spot.weight
