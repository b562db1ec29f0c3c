use Rattle.std.proofs.Common.{refl}
use Rattle.pv_span.proofs.spreading.is_one_of.Goals as goal

pub returns-in-OneOf : goal.returns-in-OneOf
returns-in-OneOf c = λ t. (c.in-OneOf.field-0.items, rw c.in-OneOf.is refl)
