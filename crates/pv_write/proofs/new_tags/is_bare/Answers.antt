use Rattle.pv_write.proofs.TaggedNodes.{no_nodes, some_length}
use Rattle.pv_write.proofs.new_tags.is_bare.Goals as goal

pub returns-then-not-is_empty : goal.returns-then-not-is_empty
returns-then-not-is_empty c = (
  λ f. absurd cc,
  λ p. absurd (some_length c.args.kids.now c.if-not-is_empty.ensures
      (no_nodes c.args.kids.now p.1)),
)
