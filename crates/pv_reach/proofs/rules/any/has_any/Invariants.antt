use Rattle.std.proofs.Common.{Some, ℕ, ◌<◌, ◌≡◌}
use Rattle.pv_model.specs.Plain.{any}
use Rattle.pv_dtd.specs.Plain.{model_of}
use Rattle.pv_productive.specs.PlainForms.{dtd_of}
use Rattle.pv_reach.proofs.rules.any.has_any.Given as goal

abbrev pub invariant-loop-name : goal.invariant-loop-name
invariant-loop-name l = (x : ℕ) → x < l.name → model_of (dtd_of l.grammar) x ≡ Some any → ⊥
