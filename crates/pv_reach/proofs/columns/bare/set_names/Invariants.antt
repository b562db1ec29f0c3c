use Rattle.std.proofs.Common.{false, get_or, true, ℕ, ◌≡◌, ◌⊎◌}
use Rattle.pv_dtd.specs.Productive.{IsProductive}
use Rattle.pv_productive.specs.PlainForms.{dtd_of}
use Rattle.pv_reach.proofs.columns.bare.set_names.Given as goal

abbrev pub invariant-loop-name : goal.invariant-loop-name
invariant-loop-name l = (x : ℕ) → get_or l.flags.items x false ≡ true → IsProductive (dtd_of l.grammar) x ⊎ (get_or l.initial.flags.items x false ≡ true)
