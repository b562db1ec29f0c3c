use Rattle.std.proofs.Common.{length, map}
use Rattle.pv_dtd.specs.NamedForms.{named_model}
use Rattle.pv_dtd.proofs.ItemsSoFar.{AreSoFar}
use Rattle.pv_dtd.proofs.reading.declarations.Given as goal

abbrev pub invariant-items : goal.invariant-items
invariant-items l = AreSoFar l.bytes l.count l.names (map named_model l.declared.models.items) l.declared.parts l.rest

abbrev pub decreases-items : goal.decreases-items
decreases-items l = length l.rest
