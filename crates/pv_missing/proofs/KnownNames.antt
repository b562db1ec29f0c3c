-- The DTD has the names in a word.
use Rattle.std.proofs.Common.{Bool, List, None, Option, Some, false, if◌then◌else◌, length, refl, true, ℕ, ◌<◌, ◌∷◌, ◌≡◌}
use Rattle.std.specs.List.{AllByRecursion}
use Rattle.std.proofs.lemmas.Option.{slice_get_within}
use Rattle.pv_chars.specs.Texts.{has_data}
use Rattle.pv_model.specs.Plain.{PlainToken, named, other, text}
use Rattle.pv_dtd.specs.Hedge.{token}
use Rattle.pv_dtd.specs.Plain.{PlainDtd, number_of}
use Rattle.pv_tree.specs.Plain.{Forest, Tree, cdata_node, element, misc_node, no_trees, text_node, tree}
use Rattle.pv_tree.specs.Words.{node_before, word_of}
use Rattle.pv_missing.specs.ListLaws.{KnownWord}
use Rattle.pv_missing.proofs.SpanDerivations.{all_at}
use Rattle.pv_dtd.proofs.NameSequences.{get-place}

-- the DTD has the name
abbrev IsKnown : PlainDtd → PlainToken → Type 0
IsKnown g (named y) = y < length g.names
IsKnown g text = Unit {0}
IsKnown g other = Unit {0}

name_known : (g : PlainDtd) (x : List ℕ) (o : Option ℕ) → number_of g x ≡ o → IsKnown g (token o)
name_known g x (Some y) e = slice_get_within g.names y x (get-place g.names x y e)
name_known g x None e = tt

text_known : (g : PlainDtd) (b : Bool) (w : List PlainToken) → AllByRecursion (IsKnown g) w → AllByRecursion (IsKnown g) (if b then text ∷ w else w)
text_known g true w a = (tt, a)
text_known g false w a = a

node_known : {M : Type 0} (g : PlainDtd) (t : Tree M) (w : List PlainToken) → AllByRecursion (IsKnown g) w → AllByRecursion (IsKnown g) (node_before g t w)
node_known g (element x a e k m) w l = (name_known g x (number_of g x) refl, l)
node_known g (text_node us) w l = text_known g (has_data us) w l
node_known g (cdata_node b) w l = (tt, l)
node_known g (misc_node b) w l = l

tokens_known : {M : Type 0} (g : PlainDtd) (k : Forest M) → AllByRecursion (IsKnown g) (word_of g k)
tokens_known g no_trees = tt
tokens_known g (tree t r) = node_known g t (word_of g r) (tokens_known g r)

pub word_known : (M : Type 0) → KnownWord M
word_known M g kids k y e = all_at (IsKnown g) (word_of g kids) k (named y) (tokens_known g kids) e
