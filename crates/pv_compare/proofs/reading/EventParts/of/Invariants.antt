use Rattle.std.proofs.Common.{map}
use Rattle.pv_flat.specs.Plain.{plain_event}
use Rattle.pv_flat.specs.Steps.{still_to_read}
use Rattle.pv_compare.specs.ReadEvents.{HasGiven}
use Rattle.pv_compare.proofs.reading.EventParts.of.Given as goal

abbrev pub invariant-events : goal.invariant-events
invariant-events l = HasGiven l.root l.bytes (map plain_event l.found.items) l.events

abbrev pub decreases-events : goal.decreases-events
decreases-events l = still_to_read l.events.stage l.events
