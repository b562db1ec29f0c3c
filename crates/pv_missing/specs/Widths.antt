-- How wide a list may be.
use Rattle.std.specs.Prelude.{List, length, suc, ℕ, ◌*◌, ◌+◌, ◌/◌, ◌≤◌}
use Rattle.pv_dtd.specs.Plain.{PlainDtd, parts_in_models}
use Rattle.pv_tree.specs.Lists.{IsFirstNot, Listed}
use Rattle.pv_tree.specs.Words.{word_of}

-- the parts of all content models, and the names
abbrev pub columns_of : PlainDtd → ℕ
columns_of g = parts_in_models g.models + length g.names

-- a word of n tokens isn't too wide for a verdict: a number for each column and each place of the
-- word
abbrev pub FitsVerdict : PlainDtd → ℕ → Type 0
FitsVerdict g n = suc n * columns_of g ≤ 67108864

-- a word of n tokens isn't too wide for weights: a number for each column and each span of the word
abbrev pub FitsWeights : PlainDtd → ℕ → Type 0
FitsWeights g n = suc n * suc (suc n) / 2 * columns_of g ≤ 16777216

-- the list isn't too wide for a verdict
abbrev pub IsListForVerdict : {M : Type 0} → PlainDtd → Listed M → Type 0
IsListForVerdict g list = FitsVerdict g (length (word_of g list.kids))

-- the list isn't too wide for weights
abbrev pub IsListForWeights : {M : Type 0} → PlainDtd → Listed M → Type 0
IsListForWeights g list = FitsWeights g (length (word_of g list.kids))

-- the path of the first list that is too wide for a verdict
abbrev pub IsFirstTooWide : {M : Type 0} → PlainDtd → List (Listed M) → List ℕ → Type 0
IsFirstTooWide g lists path = IsFirstNot (IsListForVerdict g) lists path
