-- The weights of the lists of a document, bounds of what is missing in them, and the sums of these.
use Rattle.std.specs.Prelude.{List, Option, Some, [], length, min, option_map, ℕ}
use Rattle.std.specs.Prelude.{◌+◌, ◌<◌, ◌∷◌, ◌≡◌, ◌≤◌}
use Rattle.std.specs.List.{AllPairs, Contains}
use Rattle.pv_model.specs.Plain.{PlainToken}
use Rattle.pv_dtd.specs.Plain.{PlainDtd, number_of}
use Rattle.pv_dtd.specs.Hedge.{Hedge}
use Rattle.pv_tree.specs.Lists.{Listed, Owner, an_element, the_document}
use Rattle.pv_tree.specs.PathOrder.{IsPathBefore}
use Rattle.pv_tree.specs.Words.{word_of}
use Rattle.pv_rules.specs.Derivations.{IsWeight, heaviest}
use Rattle.pv_rules.specs.Rules.{Goal, Rule, over}
use Rattle.pv_rules.specs.Sites.{PlainSite, content_site, name_site}
use Rattle.pv_missing.specs.Completions.{HasCompletion, IsLeast}
use Rattle.pv_missing.specs.MissingNumbers.{Misses}

-- the site of what an owner's kids are to be: the content of an element, or for the document node
-- an element of the root's name
abbrev pub site_of : PlainDtd → List ℕ → Owner → Option PlainSite
site_of g root the_document = option_map name_site (number_of g root)
site_of g root (an_element x) = option_map content_site (number_of g x)

-- a site over a whole word
abbrev pub whole : PlainSite → List PlainToken → Goal
whole s w = over s 0 (length w)

-- the weight of the whole word of the list
abbrev pub Weighs : {M : Type 0} → PlainDtd → List ℕ → Listed M → ℕ → Type 0
Weighs g root list k = (s : PlainSite) × (site_of g root list.owner ≡ Some s) ×
    IsWeight (Rule g (word_of g list.kids)) (whole s (word_of g list.kids)) k

-- s is the sum of the weights of the lists, not cut
abbrev pub WeighInAll : {M : Type 0} → PlainDtd → List ℕ → List (Listed M) → ℕ → Type 0
WeighInAll g root [] s = s ≡ 0
WeighInAll g root (list ∷ lists) s = (a : ℕ) × (b : ℕ) × (s ≡ a + b) × Weighs g root list a ×
    WeighInAll g root lists b

-- The sum s is at most the number of each completion, it is such a number where it isn't cut, and
-- it is the least number where both are cut.
pub record SumIsLeast (g : PlainDtd) (root : List ℕ) (s : ℕ) (h : Hedge) : Type 0 where
  pub below : (n : ℕ) → HasCompletion g root n h → s ≤ n
  pub reached : s < heaviest → HasCompletion g root s h
  pub cut : (n : ℕ) → IsLeast g root n h → min heaviest n ≡ min heaviest s

-- no fewer than k elements are missing in the list, if any number is
abbrev pub IsBound : {M : Type 0} → PlainDtd → List ℕ → Listed M → ℕ → Type 0
IsBound g root list k = (n : ℕ) → Misses g root list n → k ≤ n

-- s is a sum of bounds of the lists
abbrev pub BoundInAll : {M : Type 0} → PlainDtd → List ℕ → List (Listed M) → ℕ → Type 0
BoundInAll g root [] s = s ≡ 0
BoundInAll g root (list ∷ lists) s = (a : ℕ) × (b : ℕ) × (s ≡ a + b) × IsBound g root list a ×
    BoundInAll g root lists b

-- a bound of the list at this path
pub record BoundAt : Type 0 where
  pub path : List ℕ
  pub bound : ℕ

-- one of the lists stands at the path, and no fewer elements are missing in it
pub record IsBoundAt {M : Type 0} (g : PlainDtd) (root : List ℕ) (lists : List (Listed M))
    (b : BoundAt)
    : Type 0 where
  pub list : Listed M
  pub is_listed : Contains lists list
  pub is_path : list.path ≡ b.path
  pub is_bound : IsBound g root list b.bound

-- each bound is at a path before those of the bounds that follow it
abbrev pub AscendBounds : List BoundAt → Type 0
AscendBounds bs = AllPairs (λ b c. IsPathBefore b.path c.path) bs

-- the sum of some bounds
abbrev pub sum_of_bounds : List BoundAt → ℕ
sum_of_bounds [] = 0
sum_of_bounds (b ∷ bs) = b.bound + sum_of_bounds bs
