use Rattle.std.proofs.Common.{None, [], inr, refl, sym, ◌∷◌}
use Rattle.pv_reach.specs.Merging.{behind, none}
use Rattle.pv_reach.proofs.StandInColumns.{adds_one, adds_twice, two_as}
use Rattle.pv_reach.proofs.columns.merging.add_further.Goals as goal

pub returns : goal.returns
returns c =
    let rules = c.args.rules.now in let m = c.args.merging.now in let f = c.in-Some.ensures in let g = c.in-Some.further in
    adds_twice rules m c.args.new.now.items c.add.new.rules.items c.add-2.new.rules.items
    (adds_one rules m c.args.new.now.items c.add.new.rules.items g None [] (inr (none f.0 f.1 f.2 refl refl)) c.in_ok-add.ensures)
    (adds_one rules m c.add.new.rules.items c.add-2.new.rules.items c.args.head None
    (c.args.head ∷ g ∷ []) (inr (behind f.0 f.1 (sym f.3) refl (two_as c.args.head _ g _
    (sym f.3) f.2))) c.in_ok-add-2.ensures)
