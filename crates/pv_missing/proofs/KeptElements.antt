-- What may be kept at one level.
use Rattle.std.proofs.Common.{List, ℕ, ◌+◌, ◌≡◌}
use Rattle.pv_dtd.specs.Hedge.{Hedge, done, elem, leaf}

-- each element that stands directly in the hedge may be kept, at this cost in all
abbrev pub CanKeep : (ℕ → List ℕ → List ℕ → Hedge → Hedge → Type 0) → ℕ → Hedge → Type 0
CanKeep Kept c done = c ≡ 0
CanKeep Kept c (leaf l h) = CanKeep Kept c h
CanKeep Kept c (elem x t k h) = (a : ℕ) × (b : ℕ) × (c ≡ a + b) × (k' : Hedge) × Kept a x t k k' × CanKeep Kept b h
