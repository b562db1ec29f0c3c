-- From one state of a reader to the next, by an event or by none.
use Rattle.std.specs.Prelude.{◌≡◌, ◌≢◌, ◌<◌, ◌+◌, ◌-◌, ◌*◌, List, [], ◌∷◌, ℕ, suc, length, take}
use Rattle.std.specs.Prelude.{Option, Some, None, Result, Ok, Err, if◌then◌else◌}
use Rattle.pv_read.specs.Items.{Item, xml_declaration, doctype, comment_or_instruction}
use Rattle.pv_read.specs.Items.{cdata_section, start_tag, empty_tag, end_tag, text_run}
use Rattle.pv_read.specs.declared.prolog.RootTag.{RootTag}
use Rattle.pv_read.specs.declared.errors.DocError.{DocError}
use Rattle.pv_read.specs.declared.errors.DocError.TheVariants.{NoMemory}
use Rattle.pv_flat.specs.Plain.{PlainEvent, begin_element, cdata_here, end_element, misc_here}
use Rattle.pv_flat.specs.Plain.{plain_event, text_here}
use Rattle.pv_flat.specs.ComingEvents.{IsOpening, TakesInside, open_names}
use Rattle.pv_flat.specs.declared.event.Event.{Event}
use Rattle.pv_flat.specs.declared.state.Events.{Events}
use Rattle.pv_flat.specs.declared.state.Stage.{Stage}
use Rattle.pv_flat.specs.declared.state.Stage.TheVariants as stage

-- the first event of an item in the root
abbrev pub event_of_item : Item → Option PlainEvent
event_of_item (xml_declaration bytes) = None
event_of_item (doctype name bytes) = None
event_of_item (comment_or_instruction bytes) = Some (misc_here bytes)
event_of_item (cdata_section bytes) = Some (cdata_here bytes)
event_of_item (start_tag name attrs) = Some (begin_element name attrs)
event_of_item (empty_tag name attrs) = Some (begin_element name attrs)
event_of_item (end_tag name gap) = Some end_element
event_of_item (text_run bytes) = Some (text_here bytes)

-- the names of the elements that are open after an item, the innermost first
abbrev pub open_names_behind : Item → List (List ℕ) → List (List ℕ)
open_names_behind (xml_declaration bytes) names = names
open_names_behind (doctype name bytes) names = names
open_names_behind (comment_or_instruction bytes) names = names
open_names_behind (cdata_section bytes) names = names
open_names_behind (start_tag name attrs) names = name ∷ names
open_names_behind (empty_tag name attrs) names = names
open_names_behind (end_tag name gap) [] = []
open_names_behind (end_tag name gap) (inner ∷ outer) = outer
open_names_behind (text_run bytes) names = names

-- where a reader stands after the first event of an item: an empty-element tag has one more
abbrev pub stage_behind : Item → Stage
stage_behind (xml_declaration bytes) = stage.Inside
stage_behind (doctype name bytes) = stage.Inside
stage_behind (comment_or_instruction bytes) = stage.Inside
stage_behind (cdata_section bytes) = stage.Inside
stage_behind (start_tag name attrs) = stage.Inside
stage_behind (empty_tag name attrs) = stage.StopDue
stage_behind (end_tag name gap) = stage.Inside
stage_behind (text_run bytes) = stage.Inside

-- all but the stage is as it was
pub record StandsAs (old new : Events) : Type 0 where
  pub root : new.root ≡ old.root
  pub bytes : new.bytes.now ≡ old.bytes.now
  pub before : new.before.now ≡ old.before.now
  pub rest : new.rest.now ≡ old.rest.now
  pub count : new.count ≡ old.count
  pub open_elements : new.elements.items ≡ old.elements.items

-- the root is entered by its tag
pub record EntersRoot (old : Events) (tag : RootTag) (e : PlainEvent) (new : Events) : Type 0 where
  pub gives : e ≡ begin_element tag.tag.name.now tag.tag.attrs.now
  pub root : new.root ≡ old.root
  pub bytes : new.bytes.now ≡ old.bytes.now
  pub before : new.before.now ≡ take (length old.bytes.now - length tag.from_tag.now) old.bytes.now
  pub rest : new.rest.now ≡ tag.rest.now
  pub count : new.count ≡ suc tag.count
  pub names : open_names new ≡ (if tag.is_short then [] else tag.tag.name.now ∷ [])
  pub at_stage : new.stage ≡ (if tag.is_short then stage.StopDue else stage.Inside)

-- an item in the root is passed
pub record PassesItem (old : Events) (i : Item) (more : List ℕ) (e : PlainEvent) (new : Events)
    : Type 0 where
  pub gives : event_of_item i ≡ Some e
  pub root : new.root ≡ old.root
  pub bytes : new.bytes.now ≡ old.bytes.now
  pub before : new.before.now ≡ old.before.now
  pub rest : new.rest.now ≡ more
  pub count : new.count ≡ suc old.count
  pub names : open_names new ≡ open_names_behind i (open_names old)
  pub at_stage : new.stage ≡ stage_behind i

-- By this event a reader moves on from a stage: it enters the root; it passes the item at the front
-- of the rest, in the innermost of the open elements; it ends the element of an empty-element tag.
abbrev pub StepsBy : Stage → PlainEvent → Events → Events → Type 0
StepsBy stage.Fresh e old new =
    (tag : RootTag) × IsOpening old.root old.bytes.now tag × EntersRoot old tag e new
StepsBy stage.Inside e old new =
    (i : Item) × (more : List ℕ) × (open_names old ≢ []) × TakesInside old i more
    × PassesItem old i more e new
StepsBy stage.StopDue e old new =
    (e ≡ end_element) × StandsAs old new × (new.stage ≡ stage.Inside)
StepsBy stage.Ended e old new = ⊥
StepsBy (stage.Failed fault) e old new = ⊥

-- What an answer changes. Only an event moves a reader on; an error and the end leave what was
-- read, and what is left to read, as they were; for want of memory all is as it was.
abbrev pub MovesBy : Events → Result (Option Event) DocError → Events → Type 0
MovesBy old (Ok (Some e)) new = StepsBy old.stage (plain_event e) old new
MovesBy old (Ok None) new = StandsAs old new
MovesBy old (Err error) new = StandsAs old new × (error ≡ NoMemory → new.stage ≡ old.stage)

-- how much there is to read: twice the bytes that are left, and one more before the root and where
-- an element has to end
abbrev pub still_to_read : Stage → Events → ℕ
still_to_read stage.Fresh s = 2 * length s.bytes.now + 1
still_to_read stage.Inside s = 2 * length s.rest.now
still_to_read stage.StopDue s = 2 * length s.rest.now + 1
still_to_read stage.Ended s = 0
still_to_read (stage.Failed fault) s = 0

-- an event leaves less to read, on a text that is refused too
abbrev pub LeavesLess : Events → Result (Option Event) DocError → Events → Type 0
LeavesLess old (Ok (Some e)) new = still_to_read new.stage new < still_to_read old.stage old
LeavesLess old (Ok None) new = Unit {0}
LeavesLess old (Err error) new = Unit {0}
