-- Lines after lines.
use Rattle.std.proofs.Common.{◌≡◌, ℕ, ◌+◌, List, [], ◌∷◌, ◌++◌, map, length, refl, sym, ap, ◌∙◌}
use Rattle.std.proofs.Common.{append_assoc, append-nil, arith, Option, Some}
use Rattle.std.proofs.lemmas.List.{map-append}
use Rattle.pv_tables.specs.declared.tables.Entry.{Entry}
use Rattle.pv_cert.specs.Fronts.{Begins, BeginsNone}
use Rattle.pv_cert.specs.Lines.{PackLine, line_text, version_line, total_line, mark_line, body_line, list_line, entry_line, end_line}
use Rattle.pv_cert.specs.Meaning.{Stand, Stands, StandsNone, entries_among}
use Rattle.pv_cert.specs.Packs.{AreLines, IsMarkOrBody, MayFollow, last_line, lines_text}

pub are-append : (before : Option PackLine) (xs ys : List PackLine) → AreLines before xs → AreLines (last_line before xs) ys → AreLines before (xs ++ ys)
are-append before [] ys a b = b
are-append before (x ∷ xs) ys a b = (a.0, a.1, are-append (Some x) xs ys a.2 b)

pub last-append : (before : Option PackLine) (xs ys : List PackLine) → last_line before (xs ++ ys) ≡ last_line (last_line before xs) ys
last-append before [] ys = refl
last-append before (x ∷ xs) ys = last-append (Some x) xs ys

pub text-append : (xs ys : List PackLine) → lines_text (xs ++ ys) ≡ lines_text xs ++ lines_text ys
text-append [] ys = refl
text-append (x ∷ xs) ys = ap (λ l. line_text x ++ l) (text-append xs ys) ∙ sym (append_assoc (line_text x) (lines_text xs) (lines_text ys))

pub entries-append : (xs ys : List PackLine) → entries_among (xs ++ ys) ≡ entries_among xs + entries_among ys
entries-append [] ys = omega arith
entries-append (version_line ∷ xs) ys = entries-append xs ys
entries-append (total_line k ∷ xs) ys = entries-append xs ys
entries-append (mark_line m ∷ xs) ys = entries-append xs ys
entries-append (body_line b ∷ xs) ys = entries-append xs ys
entries-append (list_line p ∷ xs) ys = entries-append xs ys
entries-append (entry_line e ∷ xs) ys = omega (arith, entries-append xs ys)
entries-append (end_line ∷ xs) ys = entries-append xs ys

pub entries-of : (es : List Entry) → entries_among (map entry_line es) ≡ length es
entries-of [] = refl
entries-of (e ∷ es) = omega (arith, entries-of es)

pub entries-of-marks : (ms : List ℕ) → entries_among (map mark_line ms) ≡ 0
entries-of-marks [] = refl
entries-of-marks (m ∷ ms) = entries-of-marks ms

pub stand-none : (before : Option PackLine) (bytes : List ℕ) → Stand before bytes [] bytes
stand-none before bytes = record { are_lines = tt; whole = refl }

pub stand-append : (before : Option PackLine) (bytes : List ℕ) (xs : List PackLine) (rest : List ℕ)
    (ys : List PackLine) (more : List ℕ) → Stand before bytes xs rest →
    Stand (last_line before xs) rest ys more →
    Stand before bytes (xs ++ ys) more
stand-append before bytes xs rest ys more s t = record {
  are_lines = are-append before xs ys s.are_lines t.are_lines;
  whole = s.whole ∙ ap (λ l. lines_text xs ++ l) t.whole ∙ sym (append_assoc (lines_text xs) (lines_text ys) more) ∙ ap (λ l. l ++ more) (sym (text-append xs ys));
}

pub stand-one : (before : Option PackLine) (bytes : List ℕ) (line : PackLine) (rest : List ℕ) → Stands before bytes line rest → Stand before bytes (line ∷ []) rest
stand-one before bytes line rest s = record {
  are_lines = (s.may_follow, s.begins.in_range, tt);
  whole = s.begins.whole ∙ ap (λ l. l ++ rest) (sym (append-nil (line_text line)));
}

pub stand-more : (before : Option PackLine) (bytes : List ℕ) (xs : List PackLine) (rest : List ℕ)
    (line : PackLine) (more : List ℕ) → Stand before bytes xs rest →
    Stands (last_line before xs) rest line more →
    Stand before bytes (xs ++ line ∷ []) more
stand-more before bytes xs rest line more s t = stand-append before bytes xs rest (line ∷ []) more s (stand-one (last_line before xs) rest line more t)

-- after this line, these may stand: a mark or the body
pub record IsMarkPlace (before : Option PackLine) : Type 0 where
  pub back : (line : PackLine) → MayFollow before line → IsMarkOrBody line
  pub forth : (line : PackLine) → IsMarkOrBody line → MayFollow before line

pub behind-total : (k : ℕ) → IsMarkPlace (Some (total_line k))
behind-total k = record { back = λ line m. m; forth = λ line m. m }

behind-marks-by : (before : Option PackLine) (ms : List ℕ) → IsMarkPlace before → IsMarkPlace (last_line before (map mark_line ms))
behind-marks-by before [] p = p
behind-marks-by before (m ∷ ms) p = behind-marks-by (Some (mark_line m)) ms record { back = λ line n. n; forth = λ line n. n }

pub behind-marks : (k : ℕ) (ms : List ℕ) → IsMarkPlace (last_line (Some (total_line k)) (map mark_line ms))
behind-marks k ms = behind-marks-by (Some (total_line k)) ms (behind-total k)

-- a mark more is read after a total
pub marks-more : (bytes : List ℕ) (ms : List ℕ) (rest : List ℕ) (m : ℕ) (more : List ℕ) → ((k : ℕ) → Stand (Some (total_line k)) bytes (map mark_line ms) rest) → Begins rest (mark_line m) more →
    (k : ℕ) → Stand (Some (total_line k)) bytes (map mark_line (ms ++ m ∷ [])) more
marks-more bytes ms rest m more s b k =
    rw (map-append mark_line ms (m ∷ []))
    (stand-more (Some (total_line k)) bytes (map mark_line ms) rest (mark_line m) more (s k) record { may_follow = (behind-marks k ms).forth (mark_line m) tt; begins = b })

-- no mark and no body stands where one of them has to
pub no-mark-or-body : (before : Option PackLine) (rest : List ℕ) → IsMarkPlace before → BeginsNone mark_line rest → BeginsNone body_line rest → StandsNone before rest
no-mark-or-body before rest p m b version_line more s = p.back version_line s.may_follow
no-mark-or-body before rest p m b (total_line k) more s = p.back (total_line k) s.may_follow
no-mark-or-body before rest p m b (mark_line n) more s = m n more s.begins
no-mark-or-body before rest p m b (body_line x) more s = b x more s.begins
no-mark-or-body before rest p m b (list_line q) more s = p.back (list_line q) s.may_follow
no-mark-or-body before rest p m b (entry_line e) more s = p.back (entry_line e) s.may_follow
no-mark-or-body before rest p m b end_line more s = p.back end_line s.may_follow

pub no-total : (bytes : List ℕ) → BeginsNone total_line bytes → StandsNone (Some version_line) bytes
no-total bytes none version_line more s = s.may_follow
no-total bytes none (total_line k) more s = none k more s.begins
no-total bytes none (mark_line m) more s = s.may_follow
no-total bytes none (body_line b) more s = s.may_follow
no-total bytes none (list_line p) more s = s.may_follow
no-total bytes none (entry_line e) more s = s.may_follow
no-total bytes none end_line more s = s.may_follow
