use Rattle.std.proofs.Common.{length}
use Rattle.pv_tree.specs.Attributes.{IsAttribute}
use Rattle.pv_read.specs.PlainReferences.{IsReferenceOf}
use Rattle.pv_read.proofs.AttributeLemmas.{HasPieces}
use Rattle.pv_read.proofs.forms.attributes.after_attributes.Given as goal

abbrev pub invariant-attributes : goal.invariant-attributes
invariant-attributes l = HasPieces (IsAttribute (IsReferenceOf l.references)) l.bytes l.rest

abbrev pub decreases-attributes : goal.decreases-attributes
decreases-attributes l = length l.rest
