-- What is counted of lists.
use Rattle.std.specs.Prelude.{List, length, ◌+◌, ◌≡◌, ◌≤◌, ℕ}
use Rattle.std.specs.List.{AllByRecursion}
use Rattle.pv_dtd.specs.Plain.{PlainDtd}
use Rattle.pv_tree.specs.Lists.{Listed}
use Rattle.pv_tree.specs.Words.{word_of}
use Rattle.pv_tree.specs.declared.nodes.Mark.{Mark}
use Rattle.pv_parallel.specs.declared.sizes.Front.{Front}
use Rattle.pv_parallel.specs.declared.sizes.Tally.{Tally}

-- the list has at most n tokens, whatever the DTD
abbrev pub HasFewTokens : ℕ → Listed Mark → Type 0
HasFewTokens n list = (g : PlainDtd) → length (word_of g list.kids) ≤ n

-- These lists were counted.
pub record Tallies (lists : List (Listed Mark)) (old new : Tally) : Type 0 where
  pub counted : new.lists ≡ old.lists + length lists
  pub grows : old.longest ≤ new.longest
  pub narrow : AllByRecursion (HasFewTokens new.longest) lists

-- The front has these lists.
pub record Measures (lists : List (Listed Mark)) (front : Front) : Type 0 where
  pub counted : front.lists ≡ length lists
  pub narrow : AllByRecursion (HasFewTokens front.longest) lists
