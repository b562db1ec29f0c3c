-- The first Impossible list, as marks tell.
use Rattle.std.specs.Prelude.{List, None, Option, Some, [], ℕ, ◌∷◌}
use Rattle.pv_tree.specs.MarkedLists.{MarkedList, marked_of}
use Rattle.pv_tree.specs.Plain.{PlainDoc}
use Rattle.pv_tree.specs.declared.nodes.Mark.{Mark}
use Rattle.pv_tree.specs.declared.nodes.Verdict.{Verdict}
use Rattle.pv_tree.specs.declared.nodes.Verdict.TheVariants as verdict

-- the path of a list of this verdict, where it is Impossible, and else another
abbrev pub own_or : Verdict → List ℕ → Option (List ℕ) → Option (List ℕ)
own_or verdict.Valid path other = other
own_or verdict.Possible path other = other
own_or verdict.Impossible path other = Some path

-- the path of the first Impossible one of these lists
abbrev pub first_among : List (MarkedList Mark) → Option (List ℕ)
first_among [] = None
first_among (marked ∷ rest) = own_or marked.mark.verdict marked.list.path (first_among rest)

-- the path of the first Impossible list of a document
abbrev pub first_bad : PlainDoc Mark → Option (List ℕ)
first_bad doc = first_among (marked_of doc)
