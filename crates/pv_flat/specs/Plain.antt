-- The events of a document: what begins, ends or stands in its root, in the order of its bytes.
use Rattle.std.specs.Prelude.{List, [], ◌∷◌, ◌++◌, ℕ}
use Rattle.pv_chars.specs.Texts.{joined}
use Rattle.pv_tree.specs.Plain.{Forest, Tree, cdata_node, element, forest_of, misc_node, no_trees}
use Rattle.pv_tree.specs.Plain.{text_node, tree}
use Rattle.pv_read.specs.Left.{Left, Open, in_content, in_epilog, in_prolog}
use Rattle.pv_flat.specs.declared.event.Event.{Event}
use Rattle.pv_flat.specs.declared.event.Event.TheVariants as event

-- an element begins, with its name and the bytes after it in its tag; one ends; a text, a CDATA
-- section, a comment or a processing instruction stands here
pub data PlainEvent : Type 0 where
  begin_element : (name attrs : List ℕ) → PlainEvent
  end_element : PlainEvent
  text_here : (bytes : List ℕ) → PlainEvent
  cdata_here : (bytes : List ℕ) → PlainEvent
  misc_here : (bytes : List ℕ) → PlainEvent

-- an event by the bytes of its parts
abbrev pub plain_event : Event → PlainEvent
plain_event (event.Start name attrs) = begin_element name.now attrs.now
plain_event event.Stop = end_element
plain_event (event.Text bytes) = text_here bytes.now
plain_event (event.Cdata bytes) = cdata_here bytes.now
plain_event (event.Misc bytes) = misc_here bytes.now

-- the events of a tree, and of trees side by side
abbrev mutual
  pub events_of : {M : Type 0} → Tree M → List PlainEvent
  events_of (element x attrs ending kids mark) =
      begin_element x attrs ∷ (events_of_all kids ++ end_element ∷ [])
  events_of (text_node units) = text_here (joined units) ∷ []
  events_of (cdata_node bytes) = cdata_here bytes ∷ []
  events_of (misc_node bytes) = misc_here bytes ∷ []

  pub events_of_all : {M : Type 0} → Forest M → List PlainEvent
  events_of_all no_trees = []
  events_of_all (tree t rest) = events_of t ++ events_of_all rest

-- the events of open elements so far, of which the innermost stands first
abbrev pub events_in : {M : Type 0} → List (Open M) → List PlainEvent
events_in [] = []
events_in (inner ∷ outer) =
    events_in outer ++ begin_element inner.name inner.attrs ∷ events_of_all (forest_of inner.kids)

-- the events of the items so far, by what they leave
abbrev pub events_so_far : {M : Type 0} → Left M → List PlainEvent
events_so_far (in_prolog stage before) = []
events_so_far (in_content before inner outer) = events_in (inner ∷ outer)
events_so_far (in_epilog before root after) = events_of root
