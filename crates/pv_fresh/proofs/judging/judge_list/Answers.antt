use Rattle.std.proofs.Common.{refl}
use Rattle.pv_tree.specs.Walks.{list_given}
use Rattle.pv_fresh.proofs.judging.judge_list.Goals as goal

pub returns-in-Ok : goal.returns-in-Ok
returns-in-Ok c = λ path one.
    let list = list_given path c.args.list.now in
    c.in-Ok.ensures.verdict c.args.root.now list refl (c.owner_in-owner.ensures list refl) one
