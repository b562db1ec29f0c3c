use Rattle.std.proofs.Common.{◌≤◌, drop}
use Rattle.pv_standoff.proofs.TextLemmas.{IsBehind}
use Rattle.pv_standoff.proofs.texts.behind_units.Given as goal

-- so many units have begun
abbrev pub invariant-bytes : goal.invariant-bytes
invariant-bytes l = IsBehind l.bytes l.in_reference (drop l.at l.bytes) l.begun × (l.begun ≤ l.count)
