-- What a completed document is written as, event by event.
use Rattle.std.specs.Prelude.{List, [], codes, suc, ℕ, ◌++◌, ◌∷◌}

-- The start tag and the end tag of a new element of a name; of an element that was there, what is
-- written up to its content; and other bytes.
pub data Event : Type 0 where
  new_start : List ℕ → Event
  new_end : List ℕ → Event
  old_start : List ℕ → Event
  old_bytes : List ℕ → Event

-- how an event is written: a new element as a pair of tags
abbrev pub event_text : Event → List ℕ
event_text (new_start x) = codes "<" ++ x ++ codes ">"
event_text (new_end x) = codes "</" ++ x ++ codes ">"
event_text (old_start b) = b
event_text (old_bytes b) = b

-- what events are written as, one after the other
abbrev pub events_text : List Event → List ℕ
events_text [] = []
events_text (e ∷ es) = event_text e ++ events_text es

-- how many elements begin
abbrev pub opens : List Event → ℕ
opens [] = 0
opens (new_start x ∷ es) = suc (opens es)
opens (new_end x ∷ es) = opens es
opens (old_start b ∷ es) = suc (opens es)
opens (old_bytes b ∷ es) = opens es

-- how many new ones
abbrev pub news : List Event → ℕ
news [] = 0
news (new_start x ∷ es) = suc (news es)
news (new_end x ∷ es) = news es
news (old_start b ∷ es) = news es
news (old_bytes b ∷ es) = news es

-- the numbers of the new elements in document order, where the first element that begins has the
-- number m
abbrev pub marks_from : ℕ → List Event → List ℕ
marks_from m [] = []
marks_from m (new_start x ∷ es) = m ∷ marks_from (suc m) es
marks_from m (new_end x ∷ es) = marks_from m es
marks_from m (old_start b ∷ es) = marks_from (suc m) es
marks_from m (old_bytes b ∷ es) = marks_from m es
