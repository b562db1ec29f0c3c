-- Hedges with elements inserted.
use Rattle.std.specs.Prelude.{List, [], ℕ, ◌++◌, ◌∷◌, ◌≡◌}
use Rattle.pv_dtd.specs.Hedge.{Hedge, Leaf, done, elem, leaf}

-- the items of one hedge and then those of the other
abbrev pub join : Hedge → Hedge → Hedge
join done b = b
join (leaf l a) b = leaf l (join a b)
join (elem x t k a) b = elem x t k (join a b)

-- The second hedge is the first with elements inserted: a new element has no attributes, and stands
-- round some items that follow one another, or round none. A unit is never cut.
pub data Extends : Hedge → Hedge → Type 0 where
  both_done : Extends done done
  same_leaf : (l : Leaf) (h h' : Hedge) → Extends h h' → Extends (leaf l h) (leaf l h')
  same_element : (x t : List ℕ) (k k' h h' : Hedge) → Extends k k' → Extends h h' →
      Extends (elem x t k h) (elem x t k' h')
  new_element : (x : List ℕ) (h h1 h2 k' h' : Hedge) → h ≡ join h1 h2 → Extends h1 k' →
      Extends h2 h' → Extends h (elem x [] k' h')

-- the leaves at all depths, in document order
abbrev pub leaves_of : Hedge → List Leaf
leaves_of done = []
leaves_of (leaf l h) = l ∷ leaves_of h
leaves_of (elem x t k h) = leaves_of k ++ leaves_of h
