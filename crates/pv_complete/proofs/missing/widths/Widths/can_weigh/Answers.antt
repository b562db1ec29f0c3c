use Rattle.std.proofs.lemmas.Result.{IfOk-weaker}
use Rattle.pv_dtd.specs.PlainForms.{plain_dtd}
use Rattle.pv_complete.proofs.WideLists.{tells_other, tells_possible}
use Rattle.pv_complete.proofs.missing.widths.Widths.can_weigh.Goals as goal

pub returns-then-not-next_is_possible : goal.returns-then-not-next_is_possible
returns-then-not-next_is_possible c = λ list kids.
    tells_other (plain_dtd c.args.self.now.dtd.now) c.args.self.now.verdicts.now.verdicts list c.args.used.now c.next_is_possible.new.used c.if-not-next_is_possible.ensures

pub returns : goal.returns
returns c = IfOk-weaker c.is_list_narrow.result _ _
    (λ narrow is list kids. tells_possible (plain_dtd c.args.self.now.dtd.now)
    c.args.self.now.verdicts.now.verdicts list c.args.used.now c.next_is_possible.new.used
    narrow c.if-not-next_is_possible.ensures (rw kids is))
    c.is_list_narrow.ensures
