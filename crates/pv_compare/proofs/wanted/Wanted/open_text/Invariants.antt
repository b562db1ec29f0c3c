use Rattle.std.proofs.Common.{length, ◌≡◌}
use Rattle.pv_compare.specs.WantedEvents.{wanted_events}
use Rattle.pv_compare.proofs.wanted.Wanted.open_text.Given as goal

abbrev pub invariant-texts : goal.invariant-texts
invariant-texts l = wanted_events l.self ≡ wanted_events l.initial.self

abbrev pub decreases-texts : goal.decreases-texts
decreases-texts l = length l.self.events.now
