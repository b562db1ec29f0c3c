use Rattle.std.proofs.Common.{List, map, ◌++◌}
use Rattle.pv_model.specs.PlainForms.{plain_token}
use Rattle.pv_rules.specs.PlainForms.{plain_site}
use Rattle.pv_rules.specs.Rules.{over}
use Rattle.pv_productive.specs.PlainForms.{dtd_of}
use Rattle.pv_span.specs.Weights.{weight_of}
use Rattle.pv_write.specs.PieceForms.{plain_pieces}
use Rattle.pv_write.specs.Pieces.{PlainPiece}
use Rattle.pv_complete.specs.Spelling.{SpellsSpan}
use Rattle.pv_complete.specs.Works.{CanSpellAll, WantsAll, moves_left}
use Rattle.pv_complete.proofs.words.spelling.pieces_of.Given as goal

-- pieces that the works of the stack want complete the pieces so far
abbrev pub invariant-loop-work : goal.invariant-loop-work
invariant-loop-work l = record {
  ready : CanSpellAll (dtd_of l.spot.weights.grammar.now) (map plain_token l.spot.weights.word.now) (weight_of l.spot.weights.spans.now) l.stack.items;
  spells : (ps : List PlainPiece) → WantsAll (dtd_of l.spot.weights.grammar.now) (map plain_token l.spot.weights.word.now) (weight_of l.spot.weights.spans.now) l.stack.items ps →
      SpellsSpan (dtd_of l.spot.weights.grammar.now) (map plain_token l.spot.weights.word.now) l.spot.weight (over (plain_site l.spot.site) l.spot.from l.spot.to) (plain_pieces l.pieces.items ++ ps);
}

abbrev pub decreases-loop-work : goal.decreases-loop-work
decreases-loop-work l = moves_left (dtd_of l.spot.weights.grammar.now) (map plain_token l.spot.weights.word.now) (weight_of l.spot.weights.spans.now) l.stack.items
