use Rattle.std.proofs.Common.{true≢false, sym, ◌∙◌}
use Rattle.pv_productive.specs.PlainForms.{dtd_of}
use Rattle.pv_dtd.proofs.ProperDtds.{proper}
use Rattle.pv_reach.proofs.ColumnAnswers.{content_answer, root_answer}
use Rattle.pv_reach.proofs.words.is_possible.Goals as goal

pub returns-in_ok-derives-in-Root : goal.returns-in_ok-derives-in-Root
returns-in_ok-derives-in-Root c =
    root_answer (dtd_of c.args.judge.now) c.args.word.now c.in-Root.id.0 c.in_ok-derives-in-Root.derives (proper c.args.judge.now.layout.dtd) c.requires.productive c.in_ok-derives-in-Root.ensures
    c.args.of c.in-Root.is (λ e. true≢false (sym (c.is_element.ensures.1 e) ∙ c.if-is_element.false))

pub returns-in_ok-derives-in-Elem : goal.returns-in_ok-derives-in-Elem
returns-in_ok-derives-in-Elem c =
    content_answer (dtd_of c.args.judge.now) c.args.word.now c.in-Elem.id.0 c.in_ok-derives-in-Elem.derives (proper c.args.judge.now.layout.dtd) c.requires.productive c.in_ok-derives-in-Elem.ensures
    c.args.of c.in-Elem.is
