-- The fact that a chart keeps of its lines.
use Rattle.std.specs.Coded.{le_prop}
use Rattle.std.proofs.Common.{List, Some, [], arith, length, slice_get, suc, ℕ, ◌++◌, ◌+◌, ◌-◌, ◌∷◌, ◌<◌, ◌≡◌, ◌≤◌}
use Rattle.std.proofs.Math.Logic.{∥∥₁_elim}
use Rattle.pv_productive.specs.Tables.{size_at}
use Rattle.pv_span.specs.Charts.{PlainChart, span_number, value_of}
use Rattle.pv_span.specs.Least.{IsLeastCut}
use Rattle.pv_span.specs.Lines.{AreBlank, AreSpanLines, IsLine, done_value, least_cut}
use Rattle.pv_span.specs.declared.lines.Line.{Line}
use Rattle.pv_span.proofs.CutLines.{blank_line, longer, told}

pub held : (n : ℕ) (rows : List (List ℕ)) (i j : ℕ) (lines : List Line) → ∥ AreSpanLines n rows i j lines ∥₁ → AreSpanLines n rows i j lines
held n rows i j lines h k l e p a b c =
    let up : size_at l.least.items p ≤ least_cut (done_value n rows) l.one l.two i p (j - suc i) =
    ∥∥₁_elim h le_prop (λ f. let x = f k l e p a b c in omega arith) in
    let down : least_cut (done_value n rows) l.one l.two i p (j - suc i) ≤ size_at l.least.items p =
    ∥∥₁_elim h le_prop (λ f. let x = f k l e p a b c in omega arith) in
    omega arith

-- a row more than those of which the lines tell
pub pushed : (n i j : ℕ) (old new : List (List ℕ)) (lines now : List Line) (row : List ℕ) → ∥ AreSpanLines n old i j lines ∥₁ → new ≡ old ++ (row ∷ []) → now ≡ lines →
    i ≤ j → j ≤ n → span_number n i j ≡ length old → AreSpanLines n new i j now
pushed n i j old new lines now row h e f le within next k l g =
    rw e (longer n old i j row le within next l (held n old i j lines h k l (rw f at g)))

-- the lines tell the same of the next span
pub moved : (n i j : ℕ) (rows : List (List ℕ)) (lines : List Line) → AreSpanLines n rows i (suc j) lines → AreSpanLines n rows i (j + 1) lines
moved n i j rows lines h = let z : j + 1 ≡ suc j = omega arith in rw z h

pub forgotten : (n i : ℕ) (rows : List (List ℕ)) (lines : List Line) → AreBlank lines → AreSpanLines n rows i i lines
forgotten n i rows lines b k l e = blank_line n rows i l (b k l e)

-- what the line of two columns tells of the span at hand
pub told_of : (t : PlainChart) (i j from to : ℕ) (lines : List Line) (k : ℕ) (l : Line) (one two v : ℕ) →
    ∥ AreSpanLines t.tokens t.rows i j lines ∥₁ → i ≡ from → j ≡ to → i ≤ j → j ≤ t.tokens → span_number t.tokens from to ≡ length t.rows → slice_get lines k ≡ Some l →
    l.one ≡ one → l.two ≡ two → to < length l.least.items → v ≡ size_at l.least.items to →
    IsLeastCut (value_of t) one two from to (suc from) to v
told_of t i j from to lines k l one two v h e f le within next g a b lt u =
    let z : IsLine t.tokens t.rows from to l = rw (← e, ← f) (held t.tokens t.rows i j lines h k l g) in
    let x = told t from to (omega arith) (omega arith) next l z lt in
    rw (u, ← a, ← b) x
