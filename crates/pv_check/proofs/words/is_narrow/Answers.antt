use Rattle.std.proofs.Common.{ap, ◌∙◌, subst, ◌↔◌, IsTrue, length}
use Rattle.pv_dtd.specs.Plain.{PlainDtd}
use Rattle.pv_productive.specs.PlainForms.{dtd_of}
use Rattle.pv_missing.specs.Widths.{FitsVerdict}
use Rattle.pv_check.proofs.words.is_narrow.Goals as goal

pub returns-in-Limited : goal.returns-in-Limited
returns-in-Limited c = rw c.in-Limited.is
    (subst (λ (d : PlainDtd). IsTrue c.is_narrow.result ↔ FitsVerdict d (length c.args.word.now))
    (c.dtd.ensures ∙ ap dtd_of c.grammar.ensures) c.is_narrow.ensures)
