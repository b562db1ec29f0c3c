use Rattle.std.proofs.Common.{◌≡◌, ◌-◌, ◌≤◌, ◌++◌, codes}
use Rattle.pv_drill.specs.Drill.{sections}
use Rattle.pv_drill.proofs.drill.drill_doc.Given as goal

abbrev pub invariant-loop-k : goal.invariant-loop-k
invariant-loop-k l = (l.k ≤ l.n) × (l.text.items ≡ codes "<doc><head>drill</head>" ++ sections l.k)

abbrev pub decreases-loop-k : goal.decreases-loop-k
decreases-loop-k l = l.n - l.k
