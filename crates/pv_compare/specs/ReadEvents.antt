-- What a reader of events has given so far.
use Rattle.std.specs.Prelude.{Bool, List, [], length, ℕ, ◌++◌, ◌==◌, ◌∷◌}
use Rattle.pv_flat.specs.ComingEvents.{EventsCome, TextEnd, TextComes}
use Rattle.pv_flat.specs.Plain.{PlainEvent, begin_element, cdata_here, end_element, misc_here}
use Rattle.pv_flat.specs.Plain.{text_here}
use Rattle.pv_flat.specs.declared.state.Events.{Events}

-- The reader has given these events of the text: what comes from here on comes after them.
pub record HasGiven (root bytes : List ℕ) (given : List PlainEvent) (s : Events) : Type 0 where
  pub comes : (es : List PlainEvent) (end : TextEnd) → EventsCome s es end →
      TextComes root bytes (given ++ es) end

-- of an element that begins, whether it has no attribute bytes
abbrev pub is_plain_start : PlainEvent → List Bool
is_plain_start (begin_element x t) = (length t == 0) ∷ []
is_plain_start end_element = []
is_plain_start (text_here bytes) = []
is_plain_start (cdata_here bytes) = []
is_plain_start (misc_here bytes) = []

-- of each element that begins, whether it has no attribute bytes
abbrev pub plain_starts : List PlainEvent → List Bool
plain_starts [] = []
plain_starts (e ∷ es) = is_plain_start e ++ plain_starts es
