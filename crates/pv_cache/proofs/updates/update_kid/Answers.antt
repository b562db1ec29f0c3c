use Rattle.std.proofs.Common.{◌∙◌}
use Rattle.pv_edit.proofs.Levels.{put_back}
use Rattle.pv_tree.specs.PlainForms.{plain}
use Rattle.pv_cache.specs.Updates.{update_element}
use Rattle.pv_cache.proofs.Levels.{at-place, kid-updated, kid-put}
use Rattle.pv_cache.proofs.updates.update_kid.Goals as goal

pub returns : goal.returns
returns c =
    let t = plain c.args.node.now in
    let p =
    at-place _ c.args.inner.place _ c.take_kids-kids.result.items c.index_mut.result.now
    c.take_kids-kids.ensures.taken c.requires.within in
    put_back t _ _ _ c.take_kids-kids.ensures.rest c.put_kids.ensures
    ∙ kid-put (update_element c.args.inner.verdict c.args.stamp) c.args.inner.place t
    c.take_kids-kids.result.items c.index_mut.result.now c.update_element.new.node
    c.take_kids-kids.ensures.taken p.0 c.index_mut.ensures.value c.update_element.ensures
    ∙ kid-updated c.args.inner c.args.stamp t c.requires.elem
