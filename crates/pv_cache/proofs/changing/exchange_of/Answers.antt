use Rattle.std.proofs.Common.{List, ap, arith, refl, ◌∙◌}
use Rattle.std.proofs.lemmas.List.{length-map}
use Rattle.pv_edit.proofs.FilledKids.{slice_plain}
use Rattle.pv_tree.specs.Plain.{Tree, forest_of}
use Rattle.pv_tree.specs.PlainForms.{plain}
use Rattle.pv_tree.specs.declared.nodes.Mark.{Mark}
use Rattle.pv_cache.specs.WellMarked.{told_left_in, told_nodes_in}
use Rattle.pv_cache.proofs.changing.exchange_of.Goals as goal

pub told_in-gone-requires-clause-left : goal.told_in-gone-requires-clause-left
told_in-gone-requires-clause-left c =
    rw (slice_plain c.args.change.now.from c.args.change.now.to c.args.kids.now) c.requires.left

pub told_in-gone-requires-clause-nodes : goal.told_in-gone-requires-clause-nodes
told_in-gone-requires-clause-nodes c =
    rw (slice_plain c.args.change.now.from c.args.change.now.to c.args.kids.now) c.requires.nodes

pub returns : goal.returns
returns c =
    let same = slice_plain c.args.change.now.from c.args.change.now.to c.args.kids.now in
    record {
      from = refl;
      behind = omega (arith, c.requires.suits.within, length-map c.args.kids.now plain);
      left =
          c.told_in-gone.ensures.left
          ∙ ap (λ (l : List (Tree Mark)). told_left_in (forest_of l)) same;
      nodes =
          c.told_in-gone.ensures.nodes
          ∙ ap (λ (l : List (Tree Mark)). told_nodes_in (forest_of l)) same;
    }
