-- Where a reader stands that leaves tags out, and how an event moves it on.
use Rattle.std.specs.Prelude.{Bool, List, reverse, suc, ℕ, ◌≤◌, ◌∷◌, ◌≡◌, if◌then◌else◌}
use Rattle.pv_flat.specs.Plain.{PlainEvent}
use Rattle.pv_compare.specs.LeftOut.{kept_events, marks_left}
use Rattle.pv_compare.specs.declared.tags.Tags.{Tags}

-- what stays of the events from here on
abbrev pub kept_from : Tags → List PlainEvent → List PlainEvent
kept_from tags es = kept_events tags.next tags.marks.now (reverse tags.outs.items) es

-- the marks that are left behind the events from here on
abbrev pub left_from : Tags → List PlainEvent → List ℕ
left_from tags es = marks_left tags.next tags.marks.now es

-- An event is passed, which stays where the test says so.
pub record PassesBy (e : PlainEvent) (stays : Bool) (old new : Tags) : Type 0 where
  pub kept : (es : List PlainEvent) → kept_from old (e ∷ es) ≡
      (if stays then e ∷ kept_from new es else kept_from new es)
  pub left : (es : List PlainEvent) → left_from old (e ∷ es) ≡ left_from new es
  pub next : new.next ≤ suc old.next
