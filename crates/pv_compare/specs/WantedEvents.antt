-- Events that are wanted, in whatever pieces their texts come.
use Rattle.std.specs.Prelude.{Bool, List, [], false, map, true, ℕ, ◌++◌, ◌∷◌, ◌≡◌, ◌≢◌}
use Rattle.pv_flat.specs.Plain.{PlainEvent, text_here}
use Rattle.pv_flat.specs.Plain.{plain_event}
use Rattle.pv_compare.specs.LeftOut.{bytewise}
use Rattle.pv_flat.specs.declared.event.Event.{Event}
use Rattle.pv_compare.specs.declared.wanted.Wanted.{Wanted}

-- the events that are wanted, with texts cut into bytes
abbrev pub wanted_events : Wanted → List PlainEvent
wanted_events w = bytewise (text_here w.text.now ∷ map plain_event w.events.now)

-- no text stands at the front
abbrev pub begins_no_text : List Event → Type 0
begins_no_text events = (bytes : List ℕ) (behind : List PlainEvent) →
    map plain_event events ≢ text_here bytes ∷ behind

-- the event was taken from the front, where the test says so; else it doesn't stand there
abbrev pub IsTaken : PlainEvent → Bool → Wanted → Wanted → Type 0
IsTaken e true old new = wanted_events old ≡ bytewise (e ∷ []) ++ wanted_events new
IsTaken e false old new =
    (more : List PlainEvent) → wanted_events old ≢ bytewise (e ∷ []) ++ more
