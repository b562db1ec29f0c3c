-- What the verdicts of a document's lists tell.
use Rattle.std.proofs.Common.{◌≡◌, List, Some, ℕ}
use Rattle.std.specs.Prelude.{IsNone}
use Rattle.pv_dtd.specs.Plain.{PlainDtd}
use Rattle.pv_fresh.specs.Answers.{IsImpossibleAt}
use Rattle.pv_missing.specs.Verdicts.{IsFirstImpossible, PlainVerdicts}
use Rattle.pv_tree.specs.Lists.{lists_of}
use Rattle.pv_tree.specs.Plain.{PlainDoc}
use Rattle.pv_tree.specs.declared.nodes.Mark.{Mark}
use Rattle.pv_opening.specs.Possibility.{AreVerdictsOf}

-- the verdicts of a document of which one is Impossible
pub impossible_at : (root : List ℕ) (d : PlainDtd) (doc : PlainDoc Mark) (vs : PlainVerdicts) (path : List ℕ) → vs.first ≡ Some path → AreVerdictsOf root d doc vs → IsImpossibleAt root d doc path
impossible_at root d doc vs path is has =
    let first : IsFirstImpossible d root (lists_of doc) path = rw is at has.verdicts.is_first in
    record { narrow = has.narrow; impossible = λ possible. (let none : IsNone (Some path) = rw is at (has.possible.1 possible) in absurd cc); first = first }
