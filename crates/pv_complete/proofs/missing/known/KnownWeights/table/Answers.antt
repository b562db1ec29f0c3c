use Rattle.std.proofs.lemmas.Option.{IfSome_then}
use Rattle.pv_complete.proofs.KeptWeights.{told_entries}
use Rattle.pv_complete.proofs.missing.known.KnownWeights.table.Goals as goal

pub returns-in-Some : goal.returns-in-Some
returns-in-Some c = IfSome_then c.as_entries.result c.as_entries.ensures (λ entries same g all. told_entries g _ _ _ _ _ entries.now same (c.in-Some.ensures g all))
