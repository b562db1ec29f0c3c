-- The events that are still to come, and what comes after them.
use Rattle.std.specs.Prelude.{◌≡◌, ◌≤◌, ◌-◌, List, [], ◌∷◌, ◌++◌, ℕ, suc, length, map, reverse}
use Rattle.std.specs.Prelude.{take, Option, Some, None, Result, Ok, Err}
use Rattle.pv_chars.specs.ByteOrderMark.{TakesByteOrderMark}
use Rattle.pv_tree.specs.Marks.{blank_mark}
use Rattle.pv_tree.specs.Plain.{PlainDoc}
use Rattle.pv_tree.specs.declared.nodes.Mark.{Mark}
use Rattle.pv_read.specs.Errors.{Refuses}
use Rattle.pv_read.specs.Left.{Left, Open, in_content, in_epilog, in_prolog}
use Rattle.pv_read.specs.Limits.{TextLimits}
use Rattle.pv_read.specs.Meaning.{DocumentMeansWithin, DocumentRestMeans, Outcome, is_document}
use Rattle.pv_read.specs.Items.{Item}
use Rattle.pv_read.specs.Prologs.{OpensRoot}
use Rattle.pv_read.specs.Steps.{TakesItem}
use Rattle.pv_read.specs.declared.prolog.RootTag.{RootTag}
use Rattle.pv_read.specs.declared.errors.DocError.{DocError}
use Rattle.pv_read.specs.declared.errors.DocError.TheVariants.{Deep, DoctypeName, Entity, Limit}
use Rattle.pv_read.specs.declared.errors.DocError.TheVariants.{Mismatch, NoMemory, Subset, Syntax}
use Rattle.pv_flat.specs.Plain.{PlainEvent, end_element, events_of, events_so_far, plain_event}
use Rattle.pv_flat.specs.declared.event.Event.{Event}
use Rattle.pv_flat.specs.declared.state.Events.{Events}
use Rattle.pv_flat.specs.declared.faults.Fault.{Fault}
use Rattle.pv_flat.specs.declared.faults.Fault.TheVariants as fault
use Rattle.pv_flat.specs.declared.state.Stage.{Stage}
use Rattle.pv_flat.specs.declared.state.Stage.TheVariants as stage

-- the most bytes of a text that is read by events, a gibibyte
abbrev pub MAX_FLAT_BYTES : ℕ
MAX_FLAT_BYTES = 1073741824

-- elements stand at any depth, and there is at most a gibibyte
abbrev pub flat_limits : TextLimits
flat_limits = record { depth = None; bytes = MAX_FLAT_BYTES }

-- the end of a document with these bytes before and after its root; or what a text means that is
-- refused
pub data TextEnd : Type 0 where
  ends_with : (before after : List ℕ) → TextEnd
  refused_as : Outcome Mark → TextEnd

-- The events of the text are these, and this is after them. What is refused may have any events:
-- that it is refused is known once it is read.
abbrev pub TextComes : List ℕ → List ℕ → List PlainEvent → TextEnd → Type 0
TextComes root bytes es (ends_with before after) =
    (doc : PlainDoc Mark) × DocumentMeansWithin flat_limits blank_mark root bytes (is_document doc)
    × (events_of doc.root ≡ es) × (doc.before ≡ before) × (doc.after ≡ after)
TextComes root bytes es (refused_as o) = DocumentMeansWithin flat_limits blank_mark root bytes o

-- after so many items, which leave this, these events come, and this is after them
abbrev pub RestComes : List ℕ → ℕ → Left Mark → List ℕ → List PlainEvent → TextEnd → Type 0
RestComes root k left rest es (ends_with before after) =
    (doc : PlainDoc Mark) × DocumentRestMeans None blank_mark root k left rest (is_document doc)
    × (events_of doc.root ≡ events_so_far left ++ es) × (doc.before ≡ before)
    × (doc.after ≡ after)
RestComes root k left rest es (refused_as o) = DocumentRestMeans None blank_mark root k left rest o

-- what is left has these bytes before the root, and elements of these names are open, the innermost
-- first; where none is, the root has just ended
abbrev pub IsIn : List ℕ → List (List ℕ) → Left Mark → Type 0
IsIn before names (in_prolog at behind) = ⊥
IsIn before names (in_content behind inner outer) =
    (behind ≡ before) × (map (λ (e : Open Mark). e.name) (inner ∷ outer) ≡ names)
IsIn before names (in_epilog behind root after) =
    (behind ≡ before) × (names ≡ []) × (after ≡ [])

-- the names of the open elements, the innermost first
abbrev pub open_names : Events → List (List ℕ)
open_names s = reverse (map (λ b. b.now) s.elements.items)

abbrev pub ComesInside : Events → List PlainEvent → TextEnd → Type 0
ComesInside s es end = (left : Left Mark) → IsIn s.before.now (open_names s) left →
    RestComes s.root s.count left s.rest.now es end

-- From here on these events come, and this is after them. Nothing is said where an error was told.
abbrev pub ComesAt : Stage → Events → List PlainEvent → TextEnd → Type 0
ComesAt stage.Fresh s es end = TextComes s.root s.bytes.now es end
ComesAt stage.Inside s es end = ComesInside s es end
ComesAt stage.StopDue s es end =
    (fs : List PlainEvent) × (es ≡ end_element ∷ fs) × ComesInside s fs end
ComesAt stage.Ended s es end = (es ≡ []) × (end ≡ ends_with s.before.now s.rest.now)
ComesAt (stage.Failed error) s es end = Unit {0}

abbrev pub EventsCome : Events → List PlainEvent → TextEnd → Type 0
EventsCome s es end = ComesAt s.stage s es end

-- what comes from the new state on comes from the old one on after these events
abbrev pub LeadsBy : List PlainEvent → Events → Events → Type 0
LeadsBy given old new = (es : List PlainEvent) (end : TextEnd) → EventsCome new es end →
    EventsCome old (given ++ es) end

-- what comes from either state on is the same
abbrev pub SameState : Events → Events → Type 0
SameState old new = (es : List PlainEvent) (end : TextEnd) →
    (EventsCome new es end → EventsCome old es end) ×
    (EventsCome old es end → EventsCome new es end)

-- the error of a fault that is kept
abbrev pub error_of : Fault → DocError
error_of (fault.Syntax k) = Syntax k
error_of (fault.Mismatch k) = Mismatch k
error_of (fault.Entity k) = Entity k
error_of fault.Subset = Subset
error_of fault.DoctypeName = DoctypeName
error_of (fault.Deep k) = Deep k
error_of fault.Limit = Limit
error_of fault.NoMemory = NoMemory

-- what the error says of what comes; want of memory says nothing
abbrev pub RefusesRest : Events → DocError → Type 0
RefusesRest old error =
    (es : List PlainEvent) → Refuses (λ o. EventsCome old es (refused_as o)) error

-- what an answer tells, where an error isn't kept yet
abbrev pub AdvancesBy : Events → Result (Option Event) DocError → Events → Type 0
AdvancesBy old (Ok None) new = LeadsBy [] old new × (new.stage ≡ stage.Ended)
AdvancesBy old (Ok (Some e)) new = LeadsBy (plain_event e ∷ []) old new
AdvancesBy old (Err error) new = RefusesRest old error × SameState old new

-- the error is kept, to be told again; for want of memory the state is as it was
abbrev pub IsErrorKept : DocError → Events → Events → Type 0
IsErrorKept NoMemory old new = SameState old new
IsErrorKept (Syntax k) old new = new.stage ≡ stage.Failed (fault.Syntax k)
IsErrorKept (Mismatch k) old new = new.stage ≡ stage.Failed (fault.Mismatch k)
IsErrorKept (Entity k) old new = new.stage ≡ stage.Failed (fault.Entity k)
IsErrorKept Subset old new = new.stage ≡ stage.Failed fault.Subset
IsErrorKept DoctypeName old new = new.stage ≡ stage.Failed fault.DoctypeName
IsErrorKept (Deep k) old new = new.stage ≡ stage.Failed (fault.Deep k)
IsErrorKept Limit old new = new.stage ≡ stage.Failed fault.Limit

-- what an answer of a reader tells: an event, the end, or an error
abbrev pub AnswersNext : Events → Result (Option Event) DocError → Events → Type 0
AnswersNext old (Ok None) new = LeadsBy [] old new × (new.stage ≡ stage.Ended)
AnswersNext old (Ok (Some e)) new = LeadsBy (plain_event e ∷ []) old new
AnswersNext old (Err error) new = RefusesRest old error × IsErrorKept error old new

-- This tag opens the root of a text within the limits.
pub record IsOpening (root bytes : List ℕ) (tag : RootTag) : Type 0 where
  pub few : length bytes ≤ MAX_FLAT_BYTES
  pub mark : List ℕ
  pub text : List ℕ
  pub front : TakesByteOrderMark bytes mark text
  pub opens : OpensRoot None root text tag

-- the item stands at the front of the rest in this state
abbrev pub TakesInside : Events → Item → List ℕ → Type 0
TakesInside s i more = (left : Left Mark) → IsIn s.before.now (open_names s) left →
    TakesItem None blank_mark s.root left s.rest.now i more

-- the last of the open elements has this name
abbrev pub IsInnermost : Events → List ℕ → Type 0
IsInnermost s name = (outer : List (List ℕ)) × (open_names s ≡ name ∷ outer)

-- an item was passed, and nothing else has changed
pub record PassesOver (old : Events) (more : List ℕ) (new : Events) : Type 0 where
  pub root : new.root ≡ old.root
  pub bytes : new.bytes.now ≡ old.bytes.now
  pub before : new.before.now ≡ old.before.now
  pub rest : new.rest.now ≡ more
  pub count : new.count ≡ suc old.count
  pub open_elements : new.elements.items ≡ old.elements.items
  pub at_stage : new.stage ≡ old.stage

-- the tag of the root was passed, and nothing else has changed
pub record PassesTag (old : Events) (tag : RootTag) (new : Events) : Type 0 where
  pub root : new.root ≡ old.root
  pub bytes : new.bytes.now ≡ old.bytes.now
  pub before : new.before.now ≡ take (length old.bytes.now - length tag.from_tag.now) old.bytes.now
  pub rest : new.rest.now ≡ tag.rest.now
  pub count : new.count ≡ suc tag.count
  pub open_elements : new.elements.items ≡ old.elements.items
  pub at_stage : new.stage ≡ old.stage
