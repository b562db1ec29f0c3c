-- A search for a Possible list that is too wide for weights, as it carries the proof.
use Rattle.std.specs.Prelude.{List, drop, ℕ}
use Rattle.pv_dtd.specs.Plain.{PlainDtd}
use Rattle.pv_tree.specs.Lists.{Listed}
use Rattle.pv_tree.specs.declared.nodes.Mark.{Mark}
use Rattle.pv_tree.specs.declared.nodes.Verdict.{Verdict}
use Rattle.pv_missing.specs.Verdicts.{AreVerdicts}

-- the verdicts from this number on are those of these lists
abbrev pub HaveVerdictsFrom : PlainDtd → List Verdict → ℕ → List ℕ → List (Listed Mark) → Type 0
HaveVerdictsFrom g vs used root lists = AreVerdicts g root lists (drop used vs)
