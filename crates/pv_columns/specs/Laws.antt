-- Laws of free columns, each a statement.
use Rattle.std.specs.Prelude.{Bool, List, Some, [], length, slice_get, suc, ℕ, ◌↔◌, ◌∷◌, ◌≡◌, ◌≤◌}
use Rattle.pv_model.specs.declared.models.Token.{Token}
use Rattle.pv_columns.specs.ColumnRules.{ReadThrough}
use Rattle.pv_columns.specs.Marks.{AreClosedMarks, AreLiveMarks, IsMarked, ReadAlone}
use Rattle.pv_columns.specs.Takes.{IsFree, Takes, TakesEach}
use Rattle.pv_columns.specs.declared.rules.ColumnRule.{ColumnRule}

-- a column takes a token exactly where it reaches over that one
abbrev pub TakesReachesOne : Type 0
TakesReachesOne = (rules : List ColumnRule) (word : List Token) (live : List Bool) →
    AreLiveMarks rules word live → ReadAlone rules →
    (c i : ℕ) (t : Token) → slice_get word i ≡ Some t → ReadThrough rules word (c ∷ []) i (suc i) ↔
    Takes rules live t c

-- a free column reaches over exactly the spans of which it takes each token
abbrev pub FreeReachesTaken : Type 0
FreeReachesTaken = (rules : List ColumnRule) (word : List Token) (live : List Bool) →
    AreLiveMarks rules word live → ReadAlone rules →
    (c i j : ℕ) → IsFree rules live c → i ≤ j → j ≤ length word → ReadThrough rules word
    (c ∷ []) i j ↔ TakesEach rules live word c i j

-- where whatever reaches a span reaches the empty one too, marks that are closed are complete
abbrev pub ClosedMarksAreLive : Type 0
ClosedMarksAreLive = (rules : List ColumnRule) (word : List Token) (marks : List Bool) →
    ((c p : ℕ) → IsMarked marks c → ReadThrough rules word (c ∷ []) p p) →
    AreClosedMarks rules marks →
    ((c i j : ℕ) → ReadThrough rules word (c ∷ []) i j → ReadThrough rules word (c ∷ []) i i) →
    AreLiveMarks rules word marks
