-- The events of a document without the tags of some of its elements.
use Rattle.std.specs.Prelude.{Bool, List, false, map, suc, true, ◌++◌, ◌==◌, ◌∷◌, [], ℕ, ◌≡◌, ◌↔◌}
use Rattle.std.specs.Prelude.{if◌then◌else◌}
use Rattle.pv_flat.specs.Plain.{PlainEvent, begin_element, cdata_here, end_element, misc_here}
use Rattle.pv_flat.specs.Plain.{text_here, events_of}
use Rattle.pv_chars.specs.Units.{AllUnits}
use Rattle.pv_tree.specs.Plain.{Tree, element, text_node, cdata_node, misc_node, Forest, no_trees}
use Rattle.pv_tree.specs.Plain.{tree}
use Rattle.pv_tree.specs.declared.nodes.Mark.{Mark}
use Rattle.pv_missing.specs.Completions.{LeavesOut}
use Rattle.pv_dtd.specs.Hedge.{elements}
use Rattle.pv_tree.specs.View.{view}

-- the events with each text cut into its bytes
abbrev pub bytewise : List PlainEvent → List PlainEvent
bytewise [] = []
bytewise (begin_element x t ∷ es) = begin_element x t ∷ bytewise es
bytewise (end_element ∷ es) = end_element ∷ bytewise es
bytewise (text_here bytes ∷ es) = map (λ b. text_here (b ∷ [])) bytes ++ bytewise es
bytewise (cdata_here bytes ∷ es) = cdata_here bytes ∷ bytewise es
bytewise (misc_here bytes ∷ es) = misc_here bytes ∷ bytewise es

-- an element that begins, of this number and with these attribute bytes, is the first of the marked
-- ones
abbrev pub is_marked : ℕ → List ℕ → List ℕ → Bool
is_marked n [] attrs = false
is_marked n (m ∷ marks) [] = m == n
is_marked n (m ∷ marks) (b ∷ bytes) = false

-- all but the first
abbrev pub behind_first : {X : Type 0} → List X → List X
behind_first [] = []
behind_first (x ∷ xs) = xs

-- the tags of the innermost of the open elements are left out
abbrev pub is_left_out : List Bool → Bool
is_left_out [] = false
is_left_out (out ∷ outer) = out

-- The events without the tags of marked elements. The next element has this number; these are the
-- numbers of the marked ones that are still to begin; of each open element, the innermost first, it
-- is known whether its tags are left out. A marked element has no attribute bytes.
abbrev pub kept_events : ℕ → List ℕ → List Bool → List PlainEvent → List PlainEvent
kept_events n marks outs [] = []
kept_events n marks outs (begin_element x t ∷ es) =
    if is_marked n marks t
    then kept_events (suc n) (behind_first marks) (true ∷ outs) es
    else begin_element x t ∷ kept_events (suc n) marks (false ∷ outs) es
kept_events n marks outs (end_element ∷ es) =
    if is_left_out outs
    then kept_events n marks (behind_first outs) es
    else end_element ∷ kept_events n marks (behind_first outs) es
kept_events n marks outs (text_here bytes ∷ es) =
    text_here bytes ∷ kept_events n marks outs es
kept_events n marks outs (cdata_here bytes ∷ es) =
    cdata_here bytes ∷ kept_events n marks outs es
kept_events n marks outs (misc_here bytes ∷ es) =
    misc_here bytes ∷ kept_events n marks outs es

-- the numbers of the marked elements that don't begin in these events
abbrev pub marks_left : ℕ → List ℕ → List PlainEvent → List ℕ
marks_left n marks [] = marks
marks_left n marks (begin_element x t ∷ es) =
    if is_marked n marks t
    then marks_left (suc n) (behind_first marks) es
    else marks_left (suc n) marks es
marks_left n marks (end_element ∷ es) = marks_left n marks es
marks_left n marks (text_here bytes ∷ es) = marks_left n marks es
marks_left n marks (cdata_here bytes ∷ es) = marks_left n marks es
marks_left n marks (misc_here bytes ∷ es) = marks_left n marks es

-- the texts at all depths are made of units
abbrev mutual
  pub HasUnitTexts : {M : Type 0} → Tree M → Type 0
  HasUnitTexts (element x attrs ending kids mark) = HaveUnitTexts kids
  HasUnitTexts (text_node units) = AllUnits units
  HasUnitTexts (cdata_node bytes) = Unit {0}
  HasUnitTexts (misc_node bytes) = Unit {0}

  pub HaveUnitTexts : {M : Type 0} → Forest M → Type 0
  HaveUnitTexts no_trees = Unit {0}
  HaveUnitTexts (tree t rest) = HasUnitTexts t × HaveUnitTexts rest

-- The first events without the tags of the marked elements are the second ones, but for how texts
-- are cut; and all marks are of elements that have no attribute bytes.
pub record LeavesEvents (marks : List ℕ) (all kept : List PlainEvent) : Type 0 where
  pub none_left : marks_left 0 marks all ≡ []
  pub same : bytewise (kept_events 0 marks [] all) ≡ bytewise kept

-- leaving the tags of marked elements out of events is leaving the elements out of hedges
abbrev pub EventsLeaveOut : Type 0
EventsLeaveOut = (marks : List ℕ) (t all : Tree Mark) → HasUnitTexts t → HasUnitTexts all →
    LeavesOut 0 (elements (view all)) marks (view t) (view all)
    ↔ LeavesEvents marks (events_of all) (events_of t)
