use Rattle.pv_tree.specs.PlainDocs.{plain_doc}
use Rattle.pv_cache.proofs.well_marked.WellMarked.note_tried.Goals as goal

pub invariant_of-self : goal.invariant_of-self
invariant_of-self c =
    let m = c.args.self.now in
    record {
      marked = m.marked;
      counted = m.counted;
      few = m.few;
      held = c.try_in.ensures m.grammar (plain_doc m.doc) m.held;
    }
