use Rattle.std.proofs.Common.{◌≡◌, ℕ, nat_eq, take}
use Rattle.std.specs.List.{list_any}
use Rattle.std.specs.HashSet.{contains}
use Rattle.pv_model.specs.declared.models.NameId.{NameId}
use Rattle.pv_model.proofs.mixed.set_of.Given as goal

abbrev pub invariant-loop-name : goal.invariant-loop-name
invariant-loop-name l = (y : ℕ) → contains nat_eq l.numbers y ≡ list_any (λ (id : NameId). nat_eq id.0 y) (take l.name-index l.names)
