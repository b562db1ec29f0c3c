use Rattle.std.proofs.Common.{◌∷◌}
use Rattle.pv_dtd.specs.PlainForms.{plain_dtd}
use Rattle.pv_lists.specs.Judgements.{ended_list}
use Rattle.pv_many.specs.ValidTexts.{IsValidNarrow}
use Rattle.pv_tree.proofs.JoinedLists.{all_joined, all_left, all_right}
use Rattle.pv_many.proofs.valid_text.ValidListsListJudge.judge.Goals as goal

pub passes-requires : goal.passes-requires
passes-requires c = (c.requires.kids, c.requires.is_whole)

pub returns-then-branch : goal.returns-then-branch
returns-then-branch c = λ root before after kids finds notes whole.
    let P = IsValidNarrow (plain_dtd c.args.self.now.dtd.now) root in
    all_joined P before (ended_list c.args.list.now c.args._outer.now kids ∷ after)
    (all_left P before after finds)
    (c.in_ok-passes.ensures kids whole c.if-branch.true, all_right P before after finds)
