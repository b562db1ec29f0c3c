-- Lines after lines.
use Rattle.std.proofs.Common.{◌≡◌, ℕ, ◌+◌, List, [], ◌∷◌, ◌++◌, map, length, refl, sym, ap, ◌∙◌}
use Rattle.std.proofs.Common.{append_assoc, append-nil, arith, Option, Some}
use Rattle.pv_denial.specs.Rows.{values_in}
use Rattle.pv_denial.specs.declared.denials.Row.{Row}
use Rattle.pv_denial_text.specs.Fronts.{BeginsNone}
use Rattle.pv_denial_text.specs.Lines.{DenialLine, line_text, version_line, list_line, cause_line, row_line, end_line}
use Rattle.pv_denial_text.specs.Meaning.{Stand, Stands, StandsNone, values_among}
use Rattle.pv_denial_text.specs.Texts.{AreLines, last_line, lines_text}

pub are-append : (before : Option DenialLine) (xs ys : List DenialLine) → AreLines before xs → AreLines (last_line before xs) ys → AreLines before (xs ++ ys)
are-append before [] ys a b = b
are-append before (x ∷ xs) ys a b = (a.0, a.1, are-append (Some x) xs ys a.2 b)

pub last-append : (before : Option DenialLine) (xs ys : List DenialLine) → last_line before (xs ++ ys) ≡ last_line (last_line before xs) ys
last-append before [] ys = refl
last-append before (x ∷ xs) ys = last-append (Some x) xs ys

pub text-append : (xs ys : List DenialLine) → lines_text (xs ++ ys) ≡ lines_text xs ++ lines_text ys
text-append [] ys = refl
text-append (x ∷ xs) ys = ap (λ l. line_text x ++ l) (text-append xs ys) ∙ sym (append_assoc (line_text x) (lines_text xs) (lines_text ys))

pub values-append : (xs ys : List DenialLine) → values_among (xs ++ ys) ≡ values_among xs + values_among ys
values-append [] ys = omega arith
values-append (version_line ∷ xs) ys = values-append xs ys
values-append (list_line p ∷ xs) ys = values-append xs ys
values-append (cause_line c ∷ xs) ys = values-append xs ys
values-append (row_line r ∷ xs) ys = omega (arith, values-append xs ys)
values-append (end_line ∷ xs) ys = values-append xs ys

pub values-of : (rows : List Row) → values_among (map row_line rows) ≡ values_in rows
values-of [] = refl
values-of (r ∷ rows) = ap (λ n. length r.values + n) (values-of rows)

pub values-more : (rows : List Row) (r : Row) → values_in (rows ++ r ∷ []) ≡ values_in rows + length r.values
values-more [] r = omega arith
values-more (q ∷ rows) r = omega (arith, values-more rows r)

pub stand-none : (before : Option DenialLine) (bytes : List ℕ) → Stand before bytes [] bytes
stand-none before bytes = record { are_lines = tt; whole = refl }

pub stand-append : (before : Option DenialLine) (bytes : List ℕ) (xs : List DenialLine)
    (rest : List ℕ) (ys : List DenialLine) (more : List ℕ) → Stand before bytes xs rest →
    Stand (last_line before xs) rest ys more →
    Stand before bytes (xs ++ ys) more
stand-append before bytes xs rest ys more s t = record {
  are_lines = are-append before xs ys s.are_lines t.are_lines;
  whole = s.whole ∙ ap (λ l. lines_text xs ++ l) t.whole ∙ sym (append_assoc (lines_text xs) (lines_text ys) more) ∙ ap (λ l. l ++ more) (sym (text-append xs ys));
}

pub stand-one : (before : Option DenialLine) (bytes : List ℕ) (line : DenialLine) (rest : List ℕ) → Stands before bytes line rest → Stand before bytes (line ∷ []) rest
stand-one before bytes line rest s = record {
  are_lines = (s.may_follow, s.begins.in_range, tt);
  whole = s.begins.whole ∙ ap (λ l. l ++ rest) (sym (append-nil (line_text line)));
}

pub stand-more : (before : Option DenialLine) (bytes : List ℕ) (xs : List DenialLine)
    (rest : List ℕ) (line : DenialLine) (more : List ℕ) → Stand before bytes xs rest →
    Stands (last_line before xs) rest line more →
    Stand before bytes (xs ++ line ∷ []) more
stand-more before bytes xs rest line more s t = stand-append before bytes xs rest (line ∷ []) more s (stand-one (last_line before xs) rest line more t)

pub no-list : (bytes : List ℕ) → BeginsNone list_line bytes → StandsNone (Some version_line) bytes
no-list bytes none version_line more s = s.may_follow
no-list bytes none (list_line p) more s = none p more s.begins
no-list bytes none (cause_line c) more s = s.may_follow
no-list bytes none (row_line r) more s = s.may_follow
no-list bytes none end_line more s = s.may_follow

pub no-cause : (path bytes : List ℕ) → BeginsNone cause_line bytes → StandsNone (Some (list_line path)) bytes
no-cause path bytes none version_line more s = s.may_follow
no-cause path bytes none (list_line p) more s = s.may_follow
no-cause path bytes none (cause_line c) more s = none c more s.begins
no-cause path bytes none (row_line r) more s = s.may_follow
no-cause path bytes none end_line more s = s.may_follow
