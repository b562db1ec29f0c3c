use Rattle.pv_session.proofs.Moves.{begun_is, begun_keeps}
use Rattle.pv_tree.specs.PlainDocs.{plain_doc}
use Rattle.pv_session.proofs.session.Session.begin_by.Goals as goal

pub invariant_of-result : goal.invariant_of-result
invariant_of-result c =
    begun_keeps c.build_by-marked.result c.new.result.items c.new-3.result.items
    c.new-2.result.items c.new.ensures.items c.new-2.ensures.items c.new-3.ensures.items
    c.holdable_law.ensures.holdable c.holdable_law.ensures.kept

pub returns : goal.returns
returns c =
    begun_is c.args.grammar c.args.root (plain_doc c.args.doc) c.build_by-marked.result
    c.build_by-marked.ensures c.new.result.items c.new-3.result.items c.new-2.result.items
    c.new.ensures.items c.new-2.ensures.items c.new-3.ensures.items
