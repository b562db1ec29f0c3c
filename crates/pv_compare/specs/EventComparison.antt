-- Events of two documents, compared one by one.
use Rattle.std.specs.Prelude.{Bool, List, [], false, map, suc, true, ℕ, ◌++◌, ◌↔◌, ◌∷◌, ◌≡◌}
use Rattle.std.specs.Prelude.{◌≢◌, ◌≤◌, IsTrue}
use Rattle.pv_tree.specs.Plain.{PlainDoc}
use Rattle.pv_tree.specs.View.{view}
use Rattle.pv_tree.specs.declared.nodes.Mark.{Mark}
use Rattle.pv_flat.specs.Plain.{PlainEvent, events_of, plain_event}
use Rattle.pv_compare.specs.Kept.{IsBodyText, are_plain, attributes_of}
use Rattle.pv_compare.specs.LeftOut.{LeavesEvents, bytewise, kept_events, marks_left}
use Rattle.pv_compare.specs.ReaderMoves.{kept_from, left_from}
use Rattle.pv_compare.specs.WantedEvents.{wanted_events}
use Rattle.pv_compare.specs.declared.comparing.Comparison.{Comparison}
use Rattle.pv_compare.specs.declared.reading.EventParts.{EventParts}
use Rattle.pv_compare.specs.declared.comparing.Compared.{Compared}

-- Behind these events of the one document, with these marks, what stays of them was compared with
-- the events of the other one.
pub record IsPast (marks : List ℕ) (other given : List PlainEvent) (c : Comparison) : Type 0 where
  pub out : List PlainEvent
  pub kept : (es : List PlainEvent) → kept_events 0 marks [] (given ++ es) ≡
      out ++ kept_from c.tags es
  pub left : (es : List PlainEvent) → marks_left 0 marks (given ++ es) ≡ left_from c.tags es
  pub agrees : c.same ≡ true → bytewise other ≡ bytewise out ++ wanted_events c.wanted
  pub differs : c.same ≡ false → (more : List PlainEvent) → bytewise other ≢ bytewise out ++ more

-- one event more of the one document
pub record ComparesBy (e : PlainEvent) (old new : Comparison) : Type 0 where
  pub past : (marks : List ℕ) (other given : List PlainEvent) → IsPast marks other given old →
      IsPast marks other (given ++ e ∷ []) new
  pub next : new.tags.next ≤ suc old.tags.next

-- These are the parts of a document, by its events.
pub record AreEventsOf (doc : PlainDoc Mark) (parts : EventParts) : Type 0 where
  pub is_before : doc.before ≡ parts.before.now
  pub is_events : events_of doc.root ≡ map plain_event parts.events.items
  pub is_after : doc.after ≡ parts.after.now

-- These are the parts of the document that the bytes are.
pub record ArePartsOf (root bytes : List ℕ) (parts : EventParts) : Type 0 where
  pub doc : PlainDoc Mark
  pub is_text : IsBodyText root bytes doc
  pub are : AreEventsOf doc parts

-- The bytes are a document, and this is known of its events without the tags of marked elements.
pub record IsCompared (root bytes marks : List ℕ) (other : List PlainEvent) (found : Compared)
    : Type 0 where
  pub doc : PlainDoc Mark
  pub is_text : IsBodyText root bytes doc
  pub is_before : doc.before ≡ found.before.now
  pub is_after : doc.after ≡ found.after.now
  pub leaves : IsTrue found.leaves ↔ LeavesEvents marks (events_of doc.root) other
  pub are : found.plain.items ≡ are_plain (attributes_of (view doc.root))

-- The bytes are the text of a document, and of each of its elements it is known whether it has no
-- attribute bytes.
pub record IsBodyRead (root bytes : List ℕ) (plain : List Bool) : Type 0 where
  pub body : PlainDoc Mark
  pub is_text : IsBodyText root bytes body
  pub are : plain ≡ are_plain (attributes_of (view body.root))

-- what is left of the one document is the other, and the same stands around their roots
abbrev pub AgreesWith : Compared → EventParts → Type 0
AgreesWith found parts =
    IsTrue found.leaves × (found.before.now ≡ parts.before.now) ×
    (found.after.now ≡ parts.after.now)
