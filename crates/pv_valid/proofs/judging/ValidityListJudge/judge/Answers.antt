use Rattle.std.proofs.Common.{◌∙◌}
use Rattle.pv_dtd.specs.PlainForms.{plain_dtd}
use Rattle.pv_tree.specs.Lists.{IsValidList}
use Rattle.pv_lists.specs.Judgements.{ended_list}
use Rattle.pv_lists.proofs.FirstOfLists.{not_both, put_so, put_not, put_behind}
use Rattle.pv_valid.proofs.judging.ValidityListJudge.judge.Goals as goal

pub is_valid-requires : goal.is_valid-requires
is_valid-requires c = (c.requires.kids, c.requires.is_whole)

pub returns-then-list : goal.returns-then-list
returns-then-list c = λ root before after kids finds notes whole.
    let first = rw c.if-list.true at notes in
    put_behind (IsValidList (plain_dtd c.args.self.now.dtd.now) root) before after (ended_list c.args.list.now c.args.outer.now kids) c.args.found.now first.0 first.1 finds

pub returns-then-branch : goal.returns-then-branch
returns-then-branch c = λ root before after kids finds notes whole.
    put_so (IsValidList (plain_dtd c.args.self.now.dtd.now) root) before after
    (ended_list c.args.list.now c.args.outer.now kids) c.args.found.now
    (rw c.if-list.false at notes) ((c.in_ok-is_valid.ensures kids whole).0 c.if-branch.true) finds

pub returns : goal.returns
returns c = λ root before after kids finds notes whole.
    let is = c.in_ok-new.ensures ∙ c.deref.ensures.value ∙ c.in_ok-places.ensures in
    rw is (put_not (IsValidList (plain_dtd c.args.self.now.dtd.now) root) before after (ended_list c.args.list.now c.args.outer.now kids) (rw c.if-list.false at notes)
    (λ v. not_both c.in_ok-is_valid.field-0 c.if-branch.false ((c.in_ok-is_valid.ensures kids whole).1 v)))
