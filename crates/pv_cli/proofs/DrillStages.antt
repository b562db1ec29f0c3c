-- The stages of a drill ask no shelf.
use Rattle.std.proofs.Common.{inl, inr, ℕ}
use Rattle.pv_cli.specs.Drill.{drill_stage}

pub asks_none : (n k : ℕ) → (drill_stage n).Faults k → ⊥
asks_none n k (inl (inl never)) = never
asks_none n k (inl (inr (g, i, j, opens, never, e))) = never
asks_none n k (inr (o, i, j, opens, inl never, e)) = never
asks_none n k (inr (o, i, j, opens, inr (u, v, w, narrow, never, f), e)) = never
