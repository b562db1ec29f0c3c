-- What the values of the program are as plain data.
use Rattle.std.specs.Prelude.{◌≡◌, ℕ, List, map, reverse}
use Rattle.std.specs.Borrow.{Bor}
use Rattle.pv_tree.specs.Plain.{Tree, Forest}
use Rattle.pv_tree.specs.PlainForms.{plain_all}
use Rattle.pv_tree.specs.declared.nodes.Mark.{Mark}
use Rattle.pv_standoff.specs.Spans.{root_of}
use Rattle.pv_standoff.specs.Stacks.{PlainOpen, HoldRanges}
use Rattle.pv_standoff.specs.declared.building.Open.{Open}
use Rattle.pv_standoff.specs.declared.ranges.Range.{Range}

-- the plain form of an open element
abbrev pub plain_open : Open → PlainOpen
plain_open o = record { from = o.from; to = o.to; name = o.name; kids = plain_all o.kids.items }

-- those round the innermost, which stand in the program outermost first
abbrev pub plain_outer : List Open → List PlainOpen
plain_outer outer = reverse (map plain_open outer)

-- what references point to
abbrev pub seen : List (Bor Range) → List Range
seen refs = map (λ r. r.now) refs

-- a stack, which stands in the program outermost first
abbrev pub innermost_first : List (Bor Range) → List Range
innermost_first stack = reverse (seen stack)

-- The root of a document that holds the text, with the spans of these ranges.
pub record IsRootOver (root : List ℕ) (text : List (List ℕ)) (sorted : List Range) (t : Tree Mark)
    : Type 0 where
  pub kids : Forest Mark
  pub is_root : t ≡ root_of root kids
  pub whole : HoldRanges text sorted kids
