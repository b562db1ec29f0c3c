use Rattle.pv_edit.proofs.Texts.{meant-tested, new-tested, refused-text}
use Rattle.pv_edit.proofs.given.new_units.Goals as goal

pub returns-in-Ok-clause-given : goal.returns-in-Ok-clause-given
returns-in-Ok-clause-given c = new-tested c.args.text.now _ c.has_line_end.result c.in-Ok.ensures c.has_line_end.ensures c.if-has_line_end.false

pub returns-in-Ok-clause-units : goal.returns-in-Ok-clause-units
returns-in-Ok-clause-units c = (meant-tested c.args.text.now _ c.in-Ok.ensures).1

pub returns-in-Err-2 : goal.returns-in-Err-2
returns-in-Err-2 c =
    record { given = refused-text c.args.text.now c.in-Err.error c.in-Err.ensures (λ m. let t = c.is_want.ensures.1 m in let f = c.if-is_want.false in cc); units = tt }
