use Rattle.std.proofs.Common.{length}
use Rattle.pv_layout.specs.FormForms.{plain_all}
use Rattle.pv_span.proofs.RepeatedSpans.{copy_attained, copy_settled}
use Rattle.pv_span.proofs.fill.fill_next.Goals as goal

pub copy_from-requires : goal.copy_from-requires
copy_from-requires c = (c.covers.ensures c.if-covers.true).done

pub returns-then-covers-clause-attained : goal.returns-then-covers-clause-attained
returns-then-covers-clause-attained c =
    copy_attained (plain_all c.args.forms.now) c.args.word.now c.args.repeats.now
    c.args.chart.now c.copy_from.new.self c.requires.attained (c.covers.ensures c.if-covers.true)
    c.requires.repeats c.copy_from.ensures.same c.copy_from.ensures.sized
    c.copy_from.ensures.copied

pub returns-then-covers-clause-settled : goal.returns-then-covers-clause-settled
returns-then-covers-clause-settled c =
    copy_settled (plain_all c.args.forms.now) c.args.word.now c.args.repeats.now
    c.args.chart.now c.copy_from.new.self c.requires.attained (c.covers.ensures c.if-covers.true)
    c.requires.repeats c.copy_from.ensures.same c.copy_from.ensures.sized
    c.copy_from.ensures.copied (length c.args.forms.now)
