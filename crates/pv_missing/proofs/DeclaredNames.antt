-- Declared names are among the names.
use Rattle.std.proofs.Common.{List, Vec, arith, length, ℕ, ◌≤◌}
use Rattle.std.proofs.lemmas.List.{length-map}
use Rattle.pv_model.specs.PlainForms.{plain_model}
use Rattle.pv_dtd.specs.Plain.{declared}
use Rattle.pv_dtd.specs.Facts.{as_dtd}
use Rattle.pv_missing.proofs.LeftOutNames.{names}
use Rattle.std.specs.declared.alloc.Global.{Global}
use Rattle.pv_model.specs.declared.models.ContentModel.{ContentModel}

pub counted : (names : List (Vec ℕ Global)) (models : List ContentModel) → length models ≤ length names → declared (as_dtd names models) ≤ length (as_dtd names models).names
counted names models e = omega (arith, length-map names (λ v. v.items), length-map models plain_model)
