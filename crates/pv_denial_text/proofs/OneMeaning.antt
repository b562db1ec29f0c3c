-- Bytes mean one thing as a denial.
use Rattle.std.proofs.Common.{◌≡◌, ◌≤◌, ℕ, List, [], ◌∷◌, ◌++◌, map, length, refl, sym, ap, ◌∙◌, append_assoc, append-nil, arith, Option, Some, None, inl, inr}
use Rattle.std.proofs.lemmas.List.{append_cancel_left, append_cancel_right, length-append}
use Rattle.pv_denial.specs.Rows.{most_values, values_in}
use Rattle.pv_denial.specs.declared.denials.Denial.{Denial}
use Rattle.pv_denial.specs.declared.denials.Row.{Row}
use Rattle.pv_denial_text.specs.Laws.{OneMeaning}
use Rattle.pv_denial_text.specs.Lines.{DenialLine, cause_line, end_line, line_text, row_line}
use Rattle.pv_denial_text.specs.Meaning.{HasTooMany, IsFaulty, Stand, StandsNone, is_denial, is_fault, is_past_limit, values_among}
use Rattle.pv_denial_text.specs.Texts.{IsDenialText, last_line, lines_of_denial, lines_text}
use Rattle.pv_denial_text.proofs.OneLine.{same-line}
use Rattle.pv_denial_text.proofs.LineSequences.{last-append, values-append, values-of}

-- some lines are others, with more after them
record Continues (xs ys : List DenialLine) : Type 0 where
  pub more : List DenialLine
  pub is : xs ≡ ys ++ more

behind-first : (before : Option DenialLine) (bytes : List ℕ) (y : DenialLine) (ys : List DenialLine) (more : List ℕ) → Stand before bytes (y ∷ ys) more → bytes ≡ line_text y ++ (lines_text ys ++ more)
behind-first before bytes y ys more t = t.whole ∙ append_assoc (line_text y) (lines_text ys) more

-- where no line stands after some lines, other lines at the front are the first of them
longest : (before : Option DenialLine) (bytes : List ℕ) (xs : List DenialLine) (rest : List ℕ) (ys : List DenialLine) (more : List ℕ) →
    Stand before bytes xs rest → StandsNone (last_line before xs) rest → Stand before bytes ys more → Continues xs ys
longest before bytes xs rest [] more s none t = record { more = xs; is = refl }
longest before bytes [] rest (y ∷ ys) more s none t =
    absurd (none y (lines_text ys ++ more) record { may_follow = t.are_lines.0; begins = record { in_range = t.are_lines.1; whole = sym s.whole ∙ behind-first before bytes y ys more t } })
longest before bytes (x ∷ xs) rest (y ∷ ys) more s none t =
    let one = behind-first before bytes x xs rest s in
    let other = behind-first before bytes y ys more t in
    let same = same-line x y (lines_text xs ++ rest) (lines_text ys ++ more) s.are_lines.1 t.are_lines.1 (sym one ∙ other) in
    let below = longest (Some x) (lines_text xs ++ rest) xs rest ys more
    record { are_lines = s.are_lines.2; whole = refl } none record { are_lines = rw same.lines t.are_lines.2; whole = same.rests } in
    record { more = below.more; is = λ i. same.lines i ∷ below.is i }

-- as many lines as stand at the front, and what stands after them
record IsRun (bytes : List ℕ) (lines : List DenialLine) (rest : List ℕ) : Type 0 where
  pub stand : Stand None bytes lines rest
  pub none : StandsNone (last_line None lines) rest
  pub within : values_among lines ≤ most_values

none-left : (xs : List DenialLine) → length xs ≡ 0 → xs ≡ []
none-left [] e = refl
none-left (x ∷ xs) e = absurd (omega arith)

one-run : (bytes : List ℕ) (xs : List DenialLine) (rest : List ℕ) (ys : List DenialLine) (more : List ℕ) → IsRun bytes xs rest → IsRun bytes ys more → xs ≡ ys
one-run bytes xs rest ys more r s =
    let a = longest None bytes xs rest ys more r.stand r.none s.stand in
    let b = longest None bytes ys more xs rest s.stand s.none r.stand in
    let none = none-left a.more (omega (arith, ap length a.is, ap length b.is, length-append ys a.more, length-append xs b.more)) in
    a.is ∙ ap (λ l. ys ++ l) none ∙ append-nil ys

one-rest : (bytes : List ℕ) (xs : List DenialLine) (rest : List ℕ) (ys : List DenialLine) (more : List ℕ) → IsRun bytes xs rest → IsRun bytes ys more → xs ≡ ys → rest ≡ more
one-rest bytes xs rest ys more r s e =
    append_cancel_left (lines_text xs) rest more (sym r.stand.whole ∙ s.stand.whole ∙ ap (λ l. lines_text l ++ more) (sym e))

-- too many values don't stand where no more than there may be do
not-too-many : (bytes : List ℕ) (xs : List DenialLine) (rest : List ℕ) → IsRun bytes xs rest → HasTooMany bytes → ⊥
not-too-many bytes xs rest r m =
    let a = longest None bytes xs rest (m.lines ++ row_line m.row ∷ []) m.rest r.stand r.none m.stand in
    omega (arith, r.within, m.past, ap values_among a.is, values-append (m.lines ++ row_line m.row ∷ []) a.more, values-append m.lines (row_line m.row ∷ []))

-- the last line of a denial
last-of-denial : (d : Denial) → last_line None (lines_of_denial d) ≡ Some end_line
last-of-denial d = last-append (Some (cause_line d.cause)) (map row_line d.rows) (end_line ∷ [])

values-of-denial : (d : Denial) → values_among (lines_of_denial d) ≡ values_in d.rows
values-of-denial d = omega (arith, values-append (map row_line d.rows) (end_line ∷ []), values-of d.rows)

denial-run : (bytes : List ℕ) (d : Denial) → IsDenialText bytes d → values_in d.rows ≤ most_values → IsRun bytes (lines_of_denial d) []
denial-run bytes d t few = record {
  stand = record { are_lines = t.are_lines; whole = t.spelled ∙ sym (append-nil (lines_text (lines_of_denial d))) };
  none = rw (last-of-denial d) (λ line more s. s.may_follow);
  within = omega (arith, values-of-denial d, few);
}

fault-run : (bytes : List ℕ) (k : ℕ) (f : IsFaulty bytes k) → IsRun bytes f.lines f.rest
fault-run bytes k f = record { stand = f.stand; none = f.none; within = f.within }

-- rows by their lines
same-rows : (rows others : List Row) → map row_line rows ≡ map row_line others → rows ≡ others
same-rows [] [] e = refl
same-rows [] (q ∷ qs) e = absurd (cc)
same-rows (r ∷ rs) [] e = absurd (cc)
same-rows (r ∷ rs) (q ∷ qs) e =
    let first : r ≡ q = cc in
    let more : map row_line rs ≡ map row_line qs = cc in
    λ i. first i ∷ same-rows rs qs more i

same-denial : (d e : Denial) → lines_of_denial d ≡ lines_of_denial e → d ≡ e
same-denial d e is =
    let paths : d.path ≡ e.path = cc in
    let causes : d.cause ≡ e.cause = cc in
    let more : map row_line d.rows ++ end_line ∷ [] ≡ map row_line e.rows ++ end_line ∷ [] = cc in
    let rows = same-rows d.rows e.rows (append_cancel_right (map row_line d.rows) (map row_line e.rows) (end_line ∷ []) more) in
    λ i. record { path = paths i; cause = causes i; rows = rows i }

-- a denial and a fault
not-both : (bytes : List ℕ) (d : Denial) (k : ℕ) → IsDenialText bytes d → values_in d.rows ≤ most_values → IsFaulty bytes k → ⊥
not-both bytes d k t few f =
    let one = denial-run bytes d t few in
    let other = fault-run bytes k f in
    let lines = one-run bytes (lines_of_denial d) [] f.lines f.rest one other in
    f.cut (ap (last_line None) (sym lines) ∙ last-of-denial d, sym (one-rest bytes (lines_of_denial d) [] f.lines f.rest one other lines))

pub one-meaning : OneMeaning
one-meaning bytes (is_denial d) (is_denial e) m n =
    ap is_denial (same-denial d e (one-run bytes (lines_of_denial d) [] (lines_of_denial e) [] (denial-run bytes d m.1 m.2) (denial-run bytes e n.1 n.2)))
one-meaning bytes (is_denial d) (is_fault k) m n = absurd (not-both bytes d k m.1 m.2 n.1)
one-meaning bytes (is_denial d) is_past_limit m (inl long) = absurd (omega (arith, m.0, long))
one-meaning bytes (is_denial d) is_past_limit m (inr n) = absurd (not-too-many bytes (lines_of_denial d) [] (denial-run bytes d m.1 m.2) n.1)
one-meaning bytes (is_fault k) (is_denial e) m n = absurd (not-both bytes e k n.1 n.2 m.1)
one-meaning bytes (is_fault k) (is_fault j) m n =
    let lines = one-run bytes m.1.lines m.1.rest n.1.lines n.1.rest (fault-run bytes k m.1) (fault-run bytes j n.1) in
    ap is_fault (m.1.number ∙ ap length lines ∙ sym n.1.number)
one-meaning bytes (is_fault k) is_past_limit m (inl long) = absurd (omega (arith, m.0, long))
one-meaning bytes (is_fault k) is_past_limit m (inr n) = absurd (not-too-many bytes m.1.lines m.1.rest (fault-run bytes k m.1) n.1)
one-meaning bytes is_past_limit (is_denial e) (inl long) n = absurd (omega (arith, n.0, long))
one-meaning bytes is_past_limit (is_denial e) (inr m) n = absurd (not-too-many bytes (lines_of_denial e) [] (denial-run bytes e n.1 n.2) m.1)
one-meaning bytes is_past_limit (is_fault k) (inl long) n = absurd (omega (arith, n.0, long))
one-meaning bytes is_past_limit (is_fault k) (inr m) n = absurd (not-too-many bytes n.1.lines n.1.rest (fault-run bytes k n.1) m.1)
one-meaning bytes is_past_limit is_past_limit m n = refl
