-- Lists counted, part by part.
use Rattle.std.proofs.Common.{List, [], arith, length, length-append, max, ℕ, ◌+◌, ◌++◌, ◌∷◌, ◌≡◌, ◌≤◌}
use Rattle.std.specs.List.{AllByRecursion}
use Rattle.pv_dtd.specs.Plain.{PlainDtd}
use Rattle.pv_tree.specs.Lists.{Listed}
use Rattle.pv_tree.specs.declared.nodes.Mark.{Mark}
use Rattle.pv_tree.proofs.JoinedLists.{all_joined}
use Rattle.pv_tree.specs.Words.{word_of}
use Rattle.pv_missing.specs.Widths.{FitsVerdict, IsListForVerdict}
use Rattle.pv_fresh.proofs.NarrowLists.{fits_less}
use Rattle.pv_parallel.specs.Sizes.{HasFewTokens, Tallies}
use Rattle.pv_parallel.specs.declared.sizes.Tally.{Tally}

pub few_more : (m n : ℕ) → m ≤ n → (lists : List (Listed Mark)) → AllByRecursion (HasFewTokens m) lists → AllByRecursion (HasFewTokens n) lists
few_more m n h [] all = tt
few_more m n h (l ∷ lists) all = (λ g. let few = all.0 g in omega arith, few_more m n h lists all.1)

pub tallies_none : (tally : Tally) → Tallies [] tally tally
tallies_none tally = record { counted = omega arith; grows = omega arith; narrow = tt }

pub tallies_both : (xs ys : List (Listed Mark)) (a b c : Tally) → Tallies xs a b → Tallies ys b c → Tallies (xs ++ ys) a c
tallies_both xs ys a b c f h = record {
  counted = let n = length-append xs ys in let k = f.counted in let m = h.counted in omega arith;
  grows = let k = f.grows in let m = h.grows in omega arith;
  narrow = all_joined (HasFewTokens c.longest) xs ys (few_more b.longest c.longest h.grows xs f.narrow) h.narrow;
}

-- one list, of a number of kids that is counted
pub tallies_one : (list : Listed Mark) (a b : Tally) (kids : ℕ) → b.lists ≡ a.lists + 1 → b.longest ≡ max a.longest kids → HasFewTokens kids list → Tallies (list ∷ []) a b
tallies_one list a b kids counted longest few = record {
  counted = counted;
  grows = omega arith;
  narrow = (λ g. let own = few g in omega arith, tt);
}

-- where no list has more than n tokens, and so many aren't too many, none is too wide
pub all_fit : (g : PlainDtd) (n : ℕ) (lists : List (Listed Mark)) → FitsVerdict g n → AllByRecursion (HasFewTokens n) lists → AllByRecursion (IsListForVerdict g) lists
all_fit g n [] fits all = tt
all_fit g n (l ∷ lists) fits all = (fits_less g (length (word_of g l.kids)) n (all.0 g) fits, all_fit g n lists fits all.1)
