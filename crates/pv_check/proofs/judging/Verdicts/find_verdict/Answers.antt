use Rattle.std.proofs.Common.{◌∷◌, ◌++◌}
use Rattle.pv_productive.specs.PlainForms.{dtd_of}
use Rattle.pv_lists.specs.Judgements.{ended_list, path_in}
use Rattle.pv_check.proofs.EndedLists.{first_so_far, on_ok}
use Rattle.pv_check.proofs.judging.Verdicts.find_verdict.Goals as goal

pub returns : goal.returns
returns c = on_ok c.spend.result (λ root before after kids finds notes whole.
    let s = c.args.self.now.widths in
    let g = dtd_of c.args.self.now.judge.now in
    let list = c.args.list.now in
    let ended = ended_list list c.args.outer.now kids in
    c.spend.ensures s g root (before ++ ended ∷ after)
    (c.in_ok-add.ensures s g root before after ended (record {
      first_wide = finds.first_wide;
      first = finds.first;
      possible = finds.possible;
      few_possible = finds.few_possible;
      count = finds.count;
      kept = c.in_ok-judged.ensures.kept;
    })
    (first_so_far s g root before after ended list.before notes c.requires.first)
    (c.in_ok-judged.ensures.judges kids whole root (path_in c.args.outer.now))
    (rw c.deref.ensures.value c.in_ok-places.ensures)))
