use Rattle.std.proofs.Common.{◌≡◌, drop, map}
use Rattle.std.specs.List.{list_any}
use Rattle.pv_dtd.specs.Kinds.{is_too_long}
use Rattle.pv_dtd.proofs.rules.any_too_long.Given as goal

abbrev pub invariant-loop-name : goal.invariant-loop-name
invariant-loop-name l = list_any is_too_long (map (λ n. n.now) (drop l.name-index l.names)) ≡ list_any is_too_long (map (λ n. n.now) l.names)
