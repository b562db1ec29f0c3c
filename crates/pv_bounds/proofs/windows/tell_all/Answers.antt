use Rattle.std.proofs.Common.{arith, get_or, subst, sym}
use Rattle.pv_bounds.specs.Fronts.{front_list, shared_reach}
use Rattle.pv_bounds.specs.Windows.{TellsReach}
use Rattle.pv_bounds.specs.declared.fronts.Reach.{Reach}
use Rattle.pv_bounds.proofs.LevelCuts.{first_one_more}
use Rattle.pv_bounds.proofs.ChangedLevels.{keeps_both}
use Rattle.pv_bounds.proofs.windows.tell_all.Goals as goal

pub loop-index-preserved : goal.loop-index-preserved
loop-index-preserved c =
    let none : Reach = shared_reach 0 0 in
    let i = c.loop-index.invariant in
    let new = c.tell.new.levels.items in
    let reaches = front_list c.args.front.now in record {
      falling = c.in_ok-tell.ensures.falling;
      told = first_one_more (λ (r : Reach). TellsReach new c.args.place r) reaches
          c.loop-index.index none
          (let t = c.loop-index-test.true in let n = c.len-index-end.ensures in omega arith)
          (λ m d l. c.in_ok-tell.ensures.kept c.args.place (get_or reaches m d) (i.told m d l))
          (subst (λ (r : Reach). TellsReach new c.args.place r) (sym (c.get.ensures none))
          c.in_ok-tell.ensures.told);
      kept = keeps_both c.args.levels.now.items c.loop-index.levels.items new i.kept
          c.in_ok-tell.ensures.kept;
    }

pub returns-clause-told : goal.returns-clause-told
returns-clause-told c = λ m d lt.
    c.loop-index.invariant.told m d (let e = c.loop-index-test.false in omega arith)
