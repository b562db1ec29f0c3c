-- Sections side by side.
use Rattle.std.proofs.Common.{List, [], arith, ◌++◌, ◌+◌, ◌∷◌, ◌≡◌}
use Rattle.std.proofs.lemmas.List.{map-append}
use Rattle.law_drill_tree.specs.Sections.{Section, open_in, section_tree, trees}

pub trees-join : (a b : List Section) → trees (a ++ b) ≡ trees a ++ trees b
trees-join a b = map-append section_tree a b

pub open_in-join : (a b : List Section) → open_in (a ++ b) ≡ open_in a + open_in b
open_in-join [] b = omega arith
open_in-join (s ∷ a) b = omega (arith, open_in-join a b)
