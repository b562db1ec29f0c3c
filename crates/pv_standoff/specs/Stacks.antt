-- Elements in the making, and what has been made of a document.
use Rattle.std.specs.Prelude.{◌≡◌, ◌<◌, ◌≤◌, suc, ℕ, ◌+◌, max, List, [], ◌∷◌, ◌++◌, length, map}
use Rattle.std.specs.List.{AllByRecursion}
use Rattle.pv_tree.specs.Legal.{MAX_DEPTH}
use Rattle.pv_tree.specs.Marks.{blank_mark}
use Rattle.pv_tree.specs.Plain.{tagged, Tree, element, text_node, Forest, depth_of_all, forest_of}
use Rattle.pv_tree.specs.declared.nodes.Mark.{Mark}
use Rattle.pv_standoff.specs.Spans.{Span, units_of_all, spans_of_all, AreBare, AreApart, span_of}
use Rattle.pv_standoff.specs.declared.errors.NestError.{NestError}
use Rattle.pv_standoff.specs.declared.errors.NestError.TheVariants as error
use Rattle.pv_standoff.specs.declared.ranges.Range.{Range}

-- these trees, and a text of these units after them, where there are any
abbrev pub with_text : List (Tree Mark) → List (List ℕ) → List (Tree Mark)
with_text ks [] = ks
with_text ks (u ∷ us) = ks ++ text_node (u ∷ us) ∷ []

-- An element that is open: it has these kids so far, and will end at `to`.
pub record PlainOpen : Type 0 where
  pub from : ℕ
  pub to : ℕ
  pub name : List ℕ
  pub kids : List (Tree Mark)

abbrev pub open_units : PlainOpen → List (List ℕ)
open_units f = units_of_all (forest_of f.kids)

abbrev pub open_span : PlainOpen → Span
open_span f = record { from = f.from; to = f.to; name = f.name }

abbrev pub open_spans : PlainOpen → List Span
open_spans f = open_span f ∷ spans_of_all f.from (forest_of f.kids)

abbrev pub stack_units : List PlainOpen → List (List ℕ)
stack_units [] = []
stack_units (f ∷ fs) = stack_units fs ++ open_units f

abbrev pub stack_spans : List PlainOpen → List Span
stack_spans [] = []
stack_spans (f ∷ fs) = stack_spans fs ++ open_spans f

-- a text of these units after the kids
abbrev pub write : PlainOpen → List (List ℕ) → PlainOpen
write f u = record { from = f.from; to = f.to; name = f.name; kids = with_text f.kids u }

abbrev pub tree_of : PlainOpen → Tree Mark
tree_of f = element f.name [] (tagged []) (forest_of f.kids) blank_mark

-- a tree after the kids
abbrev pub add : PlainOpen → Tree Mark → PlainOpen
add g t = record { from = g.from; to = g.to; name = g.name; kids = g.kids ++ t ∷ [] }

-- an element of a range, with nothing in it yet
abbrev pub opened : Range → PlainOpen
opened r = record { from = r.from; to = r.to; name = r.name; kids = [] }

-- the root of a document of so many units, with nothing in it yet
abbrev pub bare_root : List ℕ → ℕ → PlainOpen
bare_root root count = record { from = 0; to = count; name = root; kids = [] }

-- These kids hold the text, and their spans are those of the ranges.
pub record HoldRanges (text : List (List ℕ)) (done : List Range) (kids : Forest Mark) : Type 0 where
  pub bare : AreBare kids
  pub apart : AreApart kids
  pub units : units_of_all kids ≡ text
  pub spans : spans_of_all 0 kids ≡ map span_of done

-- how many elements stand one inside another
abbrev pub stack_depth : List PlainOpen → ℕ
stack_depth [] = 0
stack_depth (f ∷ fs) = max (stack_depth fs) (length (f ∷ fs) + depth_of_all (forest_of f.kids))

-- The kids of a root that holds the text, with the spans of these ranges, and stands too deep with
-- them.
pub record HasDeep (text : List (List ℕ)) (sorted : List Range) : Type 0 where
  pub kids : Forest Mark
  pub whole : HoldRanges text sorted kids
  pub deep : MAX_DEPTH < suc (depth_of_all kids)

-- what building refuses
abbrev pub BuildRefuses : List (List ℕ) → List Range → NestError → Type 0
BuildRefuses text sorted (error.Outside k) = ⊥
BuildRefuses text sorted (error.Twice from to level) = ⊥
BuildRefuses text sorted (error.Crossing from to next_from next_to) = ⊥
BuildRefuses text sorted error.Deep = HasDeep text sorted
BuildRefuses text sorted error.NoMemory = Unit {0}

-- these are the ranges, the innermost first, that don't end up to unit number b; each ends within
-- those after it
abbrev pub AreStillOpen : ℕ → List Range → List Range → Type 0
AreStillOpen b done [] = AllByRecursion (λ q. q.to ≤ b) done
AreStillOpen b done (t ∷ ts) =
    (before : List Range) × (between : List Range) × (done ≡ before ++ t ∷ between) ×
    AllByRecursion (λ q. q.to ≤ b) between × AllByRecursion (λ g. t.to ≤ g.to) ts ×
    AreStillOpen b before ts
