use Rattle.pv_rules.specs.Sites.{part_site}
use Rattle.pv_span.specs.Weights.{weight_of}
use Rattle.pv_complete.specs.Moves.{IsNoItem}
use Rattle.pv_complete.proofs.words.items.listed_move.Given as goal

abbrev pub invariant-loop-number : goal.invariant-loop-number
invariant-loop-number l = IsNoItem (weight_of l.spot.weights.spans.now) part_site l.first l.number l.id.0 l.spot.from l.spot.to l.spot.weight
