use Rattle.std.proofs.Common.{List, length, map, ◌*◌, ◌+◌, ◌≡◌, ◌≤◌}
use Rattle.pv_flat.specs.Plain.{PlainEvent, plain_event}
use Rattle.pv_flat.specs.Steps.{still_to_read}
use Rattle.pv_compare.specs.EventComparison.{IsPast}
use Rattle.pv_compare.specs.ReadEvents.{HasGiven, plain_starts}
use Rattle.pv_compare.proofs.comparing.Compared.of.Given as goal

abbrev pub invariant-events : goal.invariant-events
invariant-events l =
    (given : List PlainEvent) × HasGiven l.root l.bytes given l.events × IsPast l.marks (map plain_event l.fn.other) given l.comparison
    × (l.comparison.tags.next + still_to_read l.events.stage l.events ≤ 2 * length l.bytes + 1) × (l.plain.items ≡ plain_starts given)

abbrev pub decreases-events : goal.decreases-events
decreases-events l = still_to_read l.events.stage l.events
