use Rattle.std.proofs.Common.{◌∙◌, refl, subst, sym}
use Rattle.pv_productive.specs.PlainForms.{dtd_of}
use Rattle.pv_check.specs.ListJudgements.{FitsWithin}
use Rattle.pv_lists.specs.Judgements.{ended_list}
use Rattle.pv_lists.proofs.FirstOfLists.{not_both}
use Rattle.pv_check.proofs.EndedLists.{behind_wide, narrow_behind, found_behind, word_length}
use Rattle.pv_check.proofs.judging.Verdicts.test_width.Goals as goal

pub returns-then-list : goal.returns-then-list
returns-then-list c = λ root before after kids finds notes whole.
    behind_wide c.args.self.now.widths (dtd_of c.args.self.now.judge.now) root before after
    (ended_list c.args.list.now c.args.outer.now kids) c.args.list.now.before notes
    c.args.found.now _ finds c.requires.behind refl refl refl refl c.if-list.true refl

pub returns-then-is_narrow : goal.returns-then-is_narrow
returns-then-is_narrow c = λ root before after kids finds notes whole.
    let g = dtd_of c.args.self.now.judge.now in
    narrow_behind c.args.self.now.widths (dtd_of c.args.self.now.judge.now) root before after
    (ended_list c.args.list.now c.args.outer.now kids) c.args.list.now.before notes
    c.args.found.now _ finds c.requires.behind refl refl refl refl
    (subst (FitsWithin c.args.self.now.widths g) (word_length whole)
    (c.is_narrow.ensures.0 c.if-is_narrow.true)) refl

pub returns : goal.returns
returns c = λ root before after kids finds notes whole.
    let g = dtd_of c.args.self.now.judge.now in
    found_behind c.args.self.now.widths (dtd_of c.args.self.now.judge.now) root before after
    (ended_list c.args.list.now c.args.outer.now kids) c.args.list.now.before notes
    c.args.found.now _ finds c.requires.behind refl refl refl refl _ c.if-list.false
    (λ narrow. not_both c.is_narrow.result c.if-is_narrow.false
    (c.is_narrow.ensures.1 (subst (FitsWithin c.args.self.now.widths g)
    (sym (word_length whole)) narrow))) refl
    (c.in_ok-new.ensures ∙ c.deref.ensures.value ∙ c.in_ok-places.ensures)
