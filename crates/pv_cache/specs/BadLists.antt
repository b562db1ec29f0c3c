-- How many of the lists that a change takes away or changes are Impossible, as marks tell, and how
-- many of those that stand there afterwards.
use Rattle.std.specs.Prelude.{List, None, Option, Some, [], ℕ, ◌+◌, ◌∷◌}
use Rattle.std.specs.List.{between}
use Rattle.pv_cache.specs.WellMarked.{bad_in_all, own_bad}
use Rattle.pv_cache.specs.declared.updates.InnerVerdict.{InnerVerdict}
use Rattle.pv_edit.specs.Changes.{Change, Filling, around, inner, named, others}
use Rattle.pv_edit.specs.Reasons.{kids_at}
use Rattle.pv_tree.specs.Places.{Spot, at_document, at_node, spot_at}
use Rattle.pv_tree.specs.Plain.{PlainDoc, Tree, cdata_node, element, forest_of, misc_node}
use Rattle.pv_tree.specs.Plain.{text_node}
use Rattle.pv_tree.specs.declared.nodes.Mark.{Mark}
use Rattle.pv_tree.specs.declared.nodes.Verdict.{Verdict}

-- one, where the own list of a node is Impossible
abbrev pub own_of : Tree Mark → ℕ
own_of (element x attrs ending kids mark) = own_bad mark.verdict
own_of (text_node units) = 0
own_of (cdata_node bytes) = 0
own_of (misc_node bytes) = 0

-- how many of the own lists of these trees are Impossible
abbrev pub own_in : List (Tree Mark) → ℕ
own_in [] = 0
own_in (t ∷ ts) = own_of t + own_in ts

-- one, where the list of what stands at a place is Impossible; the document's own mark is given
abbrev pub own_at : Mark → Option (Spot Mark) → ℕ
own_at mark None = 0
own_at mark (Some at_document) = own_bad mark.verdict
own_at mark (Some (at_node t)) = own_of t

-- how many Impossible lists go where a filling comes in place of these trees: those of the trees,
-- none where an element comes around them, and the own list of an element that gives way to its
-- kids or gets another name
abbrev pub bad_gone : Filling Mark → List (Tree Mark) → ℕ
bad_gone (others trees) old = bad_in_all (forest_of old)
bad_gone (around name attrs ending mark) old = 0
bad_gone inner old = own_in old
bad_gone (named name) old = own_in old

-- how many of the lists that a change of a document takes away or changes are Impossible
abbrev pub bad_lost : Change Mark → PlainDoc Mark → ℕ
bad_lost c doc = own_at doc.mark (spot_at c.list doc.root) +
    bad_gone c.filling (between c.from c.to (kids_at c.list doc.root))

-- one, where a change has an inner list, and it is Impossible
abbrev pub own_inner : Option InnerVerdict → ℕ
own_inner None = 0
own_inner (Some i) = own_bad i.verdict

-- how many changed lists of these verdicts are Impossible
abbrev pub bad_gained : Verdict → Option InnerVerdict → ℕ
bad_gained v within = own_bad v + own_inner within
