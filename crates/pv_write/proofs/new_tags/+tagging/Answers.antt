use Rattle.std.proofs.Common.{ap, arith, drop, refl, ◌+◌, ◌∙◌, ◌≡◌}
use Rattle.std.proofs.lemmas.Result.{on_ok_weaker}
use Rattle.pv_dtd.specs.PlainForms.{plain_dtd}
use Rattle.pv_tree.specs.Plain.{cdata_node, misc_node, no_trees, text_node, tree}
use Rattle.pv_tree.specs.PlainForms.{forest, plain, plain_end}
use Rattle.pv_tree.proofs.Forests.{forest-drop, forest-end}
use Rattle.pv_tree.proofs.Levels.{plain-Elem}
use Rattle.pv_write.specs.PieceForms.{plain_pieces}
use Rattle.pv_write.specs.WritingForms.{writing_of}
use Rattle.pv_write.proofs.TaggedNodes.{plain-Cdata, plain-Misc, plain-Text, up_bare, up_end}
use Rattle.pv_write.proofs.TaggedNodes.{up_join, up_leaf, up_none, up_tags}
use Rattle.pv_write.proofs.new_tags.+tagging.Goals as goal

pub write_list-loop-kid-init : goal.write_list-loop-kid-init
write_list-loop-kid-init t c = record {
  within = omega arith;
  written =
      up_none (plain_dtd c.args.dtd.now) (plain_pieces c.args.pieces.now) (forest c.args.kids.now)
      (writing_of c.args.out.now);
}

pub write_list-loop-kid-preserved : goal.write_list-loop-kid-preserved
write_list-loop-kid-preserved t c =
    let g = plain_dtd c.args.dtd.now in
    let kids = c.args.kids.now in
    let kid = c.kid-item.result in
    let i = c.loop-kid.kid-index in
    let all = plain_pieces c.args.pieces.now in
    let here = plain_pieces (drop c.in_ok-next.next c.args.pieces.now) in
    let rest = forest (drop (i + 1) kids) in
    let step : forest (drop i kids) ≡ tree (plain kid) rest = forest-drop kids i kid (omega arith)
    c.kid-item.is in
    let before = rw step at c.loop-kid.invariant.written in
    let tags = c.in_ok-next.ensures.written (tree (plain kid) rest) in
    let node = c.in_ok-write_node.ensures here rest c.in_ok-next.ensures.awaits in
    record {
      within = c.place_after-next.ensures.within;
      written =
          rw c.place_after-next.ensures.after (up_join g all here _ (forest kids)
          (tree (plain kid) rest) rest _ _ _ (up_join g all _ here (forest kids)
          (tree (plain kid) rest) (tree
          (plain kid) rest) _ _ _ before tags) node);
    }

pub write_list-returns : goal.write_list-returns
write_list-returns t c =
    let g = plain_dtd c.args.dtd.now in
    let kids = c.args.kids.now in
    let none : forest (drop c.loop-kid.kid-index kids) ≡
    no_trees = forest-end kids c.loop-kid.kid-index (omega arith) in
    up_end g (plain_pieces c.args.pieces.now) _ _ (forest kids) _ _ _
    (rw none at c.loop-kid.invariant.written) (c.in_ok-write_tags.ensures.written no_trees)
    c.in_ok-write_tags.ensures.awaits

pub write_node-returns-then-is_bare : goal.write_node-returns-then-is_bare
write_node-returns-then-is_bare t c =
    let g = plain_dtd c.args.dtd.now in
    let bare = c.if-is_bare.ensures.0 refl in
    let is = ap plain c.in-Elem.is ∙ plain-Elem c.in-Elem.name c.in-Elem.attrs c.in-Elem.end
    c.in-Elem.kids c.in-Elem.mark in
    on_ok_weaker c.start_old.result
    (λ added ps k awaits. rw is (up_bare g c.in-Elem.name c.in-Elem.attrs (plain_end c.in-Elem.end)
    (forest c.in-Elem.kids.items) c.in-Elem.mark ps
    (plain_pieces c.take_pieces-pieces.result.now) k
    (writing_of c.args.out.now) (writing_of c.take_pieces-pieces.new.self)
    (writing_of c.start_old.new.self) bare.0 (rw c.deref.ensures.value at bare.1)
    awaits c.take_pieces-pieces.ensures.taken bare.2
    (rw c.take_pieces-pieces.ensures.body refl) (rw c.take_pieces-pieces.ensures.marks refl)
    c.take_pieces-pieces.ensures.begun
    (rw (c.as_slice.ensures, c.as_slice-then-is_bare.ensures) at added)
    (rw c.start_old.ensures.lists refl)))
    c.start_old.ensures.written

pub write_node-returns-in_ok-write_list-in-Elem : goal.write_node-returns-in_ok-write_list-in-Elem
write_node-returns-in_ok-write_list-in-Elem t c =
    let g = plain_dtd c.args.dtd.now in
    let is = ap plain c.in-Elem.is ∙ plain-Elem c.in-Elem.name c.in-Elem.attrs c.in-Elem.end
    c.in-Elem.kids c.in-Elem.mark in
    on_ok_weaker c.end_old.result
    (λ closed ps k awaits. rw is (up_tags g c.in-Elem.name c.in-Elem.attrs (plain_end c.in-Elem.end)
    (forest c.in-Elem.kids.items) c.in-Elem.mark ps
    (plain_pieces c.take_pieces-pieces.result.now) k
    (writing_of c.args.out.now) (writing_of c.take_pieces-pieces.new.self)
    (writing_of c.start_old-in-Elem.new.self) (writing_of c.write_list.new.out)
    (writing_of c.end_old.new.self)
    awaits c.take_pieces-pieces.ensures.taken
    (λ s n a. absurd (let r = c.if-is_bare.ensures.1 (s, rw c.deref.ensures.value n, a) in cc))
    (rw c.take_pieces-pieces.ensures.body refl) (rw c.take_pieces-pieces.ensures.marks refl)
    c.take_pieces-pieces.ensures.begun
    (rw (c.as_slice-in-Elem.ensures, c.as_slice-in-Elem-2.ensures) at
    c.in_ok-start_old-in-Elem.ensures.written) (rw c.start_old-in-Elem.ensures.lists refl)
    (rw c.deref-in-Elem.ensures.value at c.in_ok-write_list-in-Elem.ensures)
    (rw (c.as_slice-in-Elem-3.ensures, c.gap_of.ensures) at closed)
    (rw c.end_old.ensures.lists refl)))
    c.end_old.ensures.written

pub write_node-returns-in-Text : goal.write_node-returns-in-Text
write_node-returns-in-Text t c = on_ok_weaker c.bytes-in-Text.result
    (λ added ps k awaits. up_leaf (plain_dtd c.args.dtd.now) c.args.node.now
    (text_node c.in-Text.units) ps k _ (writing_of c.args.out.now)
    (writing_of c.bytes-in-Text.new.self)
    (ap plain c.in-Text.is ∙ plain-Text c.in-Text.units) refl
    c.bytes.ensures.value awaits added (rw c.bytes-in-Text.ensures.lists refl))
    c.bytes-in-Text.ensures.written

pub write_node-returns-in-Cdata : goal.write_node-returns-in-Cdata
write_node-returns-in-Cdata t c = on_ok_weaker c.bytes-in-Cdata.result
    (λ added ps k awaits. up_leaf (plain_dtd c.args.dtd.now) c.args.node.now
    (cdata_node c.in-Cdata.bytes) ps k _ (writing_of c.args.out.now)
    (writing_of c.bytes-in-Cdata.new.self)
    (ap plain c.in-Cdata.is ∙ plain-Cdata c.in-Cdata.bytes) refl
    c.as_slice-in-Cdata.ensures awaits added (rw c.bytes-in-Cdata.ensures.lists refl))
    c.bytes-in-Cdata.ensures.written

pub write_node-returns-in-Misc : goal.write_node-returns-in-Misc
write_node-returns-in-Misc t c = on_ok_weaker c.bytes-in-Misc.result
    (λ added ps k awaits. up_leaf (plain_dtd c.args.dtd.now) c.args.node.now
    (misc_node c.in-Misc.bytes) ps k _ (writing_of c.args.out.now)
    (writing_of c.bytes-in-Misc.new.self)
    (ap plain c.in-Misc.is ∙ plain-Misc c.in-Misc.bytes) refl
    c.as_slice-in-Misc.ensures awaits added (rw c.bytes-in-Misc.ensures.lists refl))
    c.bytes-in-Misc.ensures.written
