-- Bytes mean one thing as a pack.
use Rattle.std.proofs.Common.{◌≡◌, ◌≤◌, ℕ, List, [], ◌∷◌, ◌++◌, map, length, refl, sym, ap, ◌∙◌, append_assoc, append-nil, arith, Option, Some, None, inl, inr}
use Rattle.std.proofs.lemmas.List.{append_cancel_left, append_cancel_right, length-append}
use Rattle.pv_tables.specs.Tables.{entries_in, most_entries}
use Rattle.pv_tables.specs.declared.tables.Entry.{Entry}
use Rattle.pv_tables.specs.declared.tables.Table.{Table}
use Rattle.pv_cert.specs.Laws.{OneMeaning}
use Rattle.pv_cert.specs.Lines.{PackLine, line_text, total_line, mark_line, body_line, entry_line, end_line}
use Rattle.pv_cert.specs.Meaning.{HasTooMany, IsFaulty, MAX_PACK_BYTES, Stand, StandsNone, entries_among, is_pack, is_fault, is_past_limit}
use Rattle.pv_cert.specs.Packs.{IsPackText, last_line, lines_of_pack, lines_text, table_lines}
use Rattle.pv_cert.specs.declared.packs.Pack.{Pack}
use Rattle.pv_cert.proofs.OneLine.{same-line}
use Rattle.pv_cert.proofs.LineSequences.{entries-append, entries-of-marks, last-append}
use Rattle.pv_cert.proofs.TableLines.{entries-in-lines}

-- some lines are others, with more after them
record Continues (xs ys : List PackLine) : Type 0 where
  pub more : List PackLine
  pub is : xs ≡ ys ++ more

behind-first : (before : Option PackLine) (bytes : List ℕ) (y : PackLine) (ys : List PackLine) (more : List ℕ) → Stand before bytes (y ∷ ys) more → bytes ≡ line_text y ++ (lines_text ys ++ more)
behind-first before bytes y ys more t = t.whole ∙ append_assoc (line_text y) (lines_text ys) more

-- where no line stands after some lines, other lines at the front are the first of them
longest : (before : Option PackLine) (bytes : List ℕ) (xs : List PackLine) (rest : List ℕ) (ys : List PackLine) (more : List ℕ) → length bytes ≤ MAX_PACK_BYTES →
    Stand before bytes xs rest → StandsNone (last_line before xs) rest → Stand before bytes ys more → Continues xs ys
longest before bytes xs rest [] more few s none t = record { more = xs; is = refl }
longest before bytes [] rest (y ∷ ys) more few s none t =
    absurd (none y (lines_text ys ++ more) record { may_follow = t.are_lines.0; begins = record { in_range = t.are_lines.1; whole = sym s.whole ∙ behind-first before bytes y ys more t } })
longest before bytes (x ∷ xs) rest (y ∷ ys) more few s none t =
    let one = behind-first before bytes x xs rest s in
    let other = behind-first before bytes y ys more t in
    let size : length (line_text x ++ (lines_text xs ++ rest)) ≤ MAX_PACK_BYTES = omega (arith, ap length one, few) in
    let same = same-line x y (lines_text xs ++ rest) (lines_text ys ++ more) size s.are_lines.1 t.are_lines.1 (sym one ∙ other) in
    let below = longest (Some x) (lines_text xs ++ rest) xs rest ys more (omega (arith, size, length-append (line_text x) (lines_text xs ++ rest)))
    record { are_lines = s.are_lines.2; whole = refl } none record { are_lines = rw same.lines t.are_lines.2; whole = same.rests } in
    record { more = below.more; is = λ i. same.lines i ∷ below.is i }

-- as many lines as stand at the front, and what stands after them
record IsRun (bytes : List ℕ) (lines : List PackLine) (rest : List ℕ) : Type 0 where
  pub stand : Stand None bytes lines rest
  pub none : StandsNone (last_line None lines) rest
  pub within : entries_among lines ≤ most_entries

none-left : (xs : List PackLine) → length xs ≡ 0 → xs ≡ []
none-left [] e = refl
none-left (x ∷ xs) e = absurd (omega arith)

one-run : (bytes : List ℕ) (xs : List PackLine) (rest : List ℕ) (ys : List PackLine) (more : List ℕ) → length bytes ≤ MAX_PACK_BYTES → IsRun bytes xs rest → IsRun bytes ys more → xs ≡ ys
one-run bytes xs rest ys more few r s =
    let a = longest None bytes xs rest ys more few r.stand r.none s.stand in
    let b = longest None bytes ys more xs rest few s.stand s.none r.stand in
    let none = none-left a.more (omega (arith, ap length a.is, ap length b.is, length-append ys a.more, length-append xs b.more)) in
    a.is ∙ ap (λ l. ys ++ l) none ∙ append-nil ys

one-rest : (bytes : List ℕ) (xs : List PackLine) (rest : List ℕ) (ys : List PackLine) (more : List ℕ) → IsRun bytes xs rest → IsRun bytes ys more → xs ≡ ys → rest ≡ more
one-rest bytes xs rest ys more r s e =
    append_cancel_left (lines_text xs) rest more (sym r.stand.whole ∙ s.stand.whole ∙ ap (λ l. lines_text l ++ more) (sym e))

-- too many entries don't stand where no more than there may be do
not-too-many : (bytes : List ℕ) (xs : List PackLine) (rest : List ℕ) → length bytes ≤ MAX_PACK_BYTES → IsRun bytes xs rest → HasTooMany bytes → ⊥
not-too-many bytes xs rest few r m =
    let a = longest None bytes xs rest (m.lines ++ entry_line m.e ∷ []) m.rest few r.stand r.none m.stand in
    omega (arith, r.within, m.full, ap entries_among a.is, entries-append (m.lines ++ entry_line m.e ∷ []) a.more, entries-append m.lines (entry_line m.e ∷ []))

-- the last line of a pack
last-of-pack : (pack : Pack) → last_line None (lines_of_pack pack) ≡ Some end_line
last-of-pack pack =
    last-append (Some (total_line pack.total)) (map mark_line pack.marks) (body_line pack.body ∷ (table_lines pack.tables ++ end_line ∷ []))
    ∙ last-append (Some (body_line pack.body)) (table_lines pack.tables) (end_line ∷ [])

entries-of-pack : (pack : Pack) → entries_among (lines_of_pack pack) ≡ entries_in pack.tables
entries-of-pack pack =
    let tail = table_lines pack.tables ++ end_line ∷ [] in
    omega (
      arith,
      entries-append (map mark_line pack.marks) (body_line pack.body ∷ tail),
      entries-of-marks pack.marks,
      entries-append (table_lines pack.tables) (end_line ∷ []),
      entries-in-lines pack.tables,
    )

pack-run : (bytes : List ℕ) (pack : Pack) → IsPackText bytes pack → entries_in pack.tables ≤ most_entries → IsRun bytes (lines_of_pack pack) []
pack-run bytes pack t few = record {
  stand = record { are_lines = t.are_lines; whole = t.spelled ∙ sym (append-nil (lines_text (lines_of_pack pack))) };
  none = rw (last-of-pack pack) (λ line more s. s.may_follow);
  within = omega (arith, entries-of-pack pack, few);
}

fault-run : (bytes : List ℕ) (k : ℕ) (f : IsFaulty bytes k) → IsRun bytes f.lines f.rest
fault-run bytes k f = record { stand = f.stand; none = f.none; within = f.within }

-- marks, and the body after them, by their lines
record SameHeads (ms ns : List ℕ) (b c : List ℕ) (x y : List PackLine) : Type 0 where
  pub marks : ms ≡ ns
  pub bodies : b ≡ c
  pub rests : x ≡ y

same-heads : (ms ns : List ℕ) (b c : List ℕ) (x y : List PackLine) → map mark_line ms ++ body_line b ∷ x ≡ map mark_line ns ++ body_line c ∷ y → SameHeads ms ns b c x y
same-heads [] [] b c x y e = record { marks = refl; bodies = cc; rests = cc }
same-heads [] (n ∷ ns) b c x y e = absurd (cc)
same-heads (m ∷ ms) [] b c x y e = absurd (cc)
same-heads (m ∷ ms) (n ∷ ns) b c x y e =
    let first : m ≡ n = cc in
    let others : map mark_line ms ++ body_line b ∷ x ≡ map mark_line ns ++ body_line c ∷ y = cc in
    let below = same-heads ms ns b c x y others in
    record { marks = λ i. first i ∷ below.marks i; bodies = below.bodies; rests = below.rests }

-- the entries of a table, and the tables after it, by their lines
record SameEntries (es fs : List Entry) (ts us : List Table) : Type 0 where
  pub entries : es ≡ fs
  pub rests : table_lines ts ≡ table_lines us

same-entries : (es fs : List Entry) (ts us : List Table) → map entry_line es ++ table_lines ts ≡ map entry_line fs ++ table_lines us → SameEntries es fs ts us
same-entries [] [] ts us e = record { entries = refl; rests = e }
same-entries [] (f ∷ fs) [] us e = absurd (cc)
same-entries [] (f ∷ fs) (t ∷ ts) us e = absurd (cc)
same-entries (f ∷ es) [] ts [] e = absurd (cc)
same-entries (f ∷ es) [] ts (u ∷ us) e = absurd (cc)
same-entries (f ∷ es) (g ∷ fs) ts us e =
    let first : f ≡ g = cc in
    let others : map entry_line es ++ table_lines ts ≡ map entry_line fs ++ table_lines us = cc in
    let below = same-entries es fs ts us others in
    record { entries = λ i. first i ∷ below.entries i; rests = below.rests }

same-tables : (ts us : List Table) → table_lines ts ≡ table_lines us → ts ≡ us
same-tables [] [] e = refl
same-tables [] (u ∷ us) e = absurd (cc)
same-tables (t ∷ ts) [] e = absurd (cc)
same-tables (t ∷ ts) (u ∷ us) e =
    let paths : t.path ≡ u.path = cc in
    let others : map entry_line t.entries ++ table_lines ts ≡ map entry_line u.entries ++ table_lines us = cc in
    let both = same-entries t.entries u.entries ts us others in
    let below = same-tables ts us both.rests in
    λ i. record { path = paths i; entries = both.entries i } ∷ below i

same-pack : (p q : Pack) → lines_of_pack p ≡ lines_of_pack q → p ≡ q
same-pack p q e =
    let totals : p.total ≡ q.total = cc in
    let others : map mark_line p.marks ++ (body_line p.body ∷ (table_lines p.tables ++ end_line ∷ [])) ≡ map mark_line q.marks ++ (body_line q.body ∷ (table_lines q.tables ++ end_line ∷ [])) = cc in
    let both = same-heads p.marks q.marks p.body q.body _ _ others in
    let tables = same-tables p.tables q.tables (append_cancel_right (table_lines p.tables) (table_lines q.tables) (end_line ∷ []) both.rests) in
    λ i. record { total = totals i; marks = both.marks i; body = both.bodies i; tables = tables i }

-- a pack and a fault
not-both : (bytes : List ℕ) (pack : Pack) (k : ℕ) → length bytes ≤ MAX_PACK_BYTES → IsPackText bytes pack → entries_in pack.tables ≤ most_entries → IsFaulty bytes k → ⊥
not-both bytes pack k few t least f =
    let one = pack-run bytes pack t least in
    let other = fault-run bytes k f in
    let lines = one-run bytes (lines_of_pack pack) [] f.lines f.rest few one other in
    f.cut (ap (last_line None) (sym lines) ∙ last-of-pack pack, sym (one-rest bytes (lines_of_pack pack) [] f.lines f.rest one other lines))

pub one-meaning : OneMeaning
one-meaning bytes (is_pack p) (is_pack q) m n =
    ap is_pack (same-pack p q (one-run bytes (lines_of_pack p) [] (lines_of_pack q) [] m.0 (pack-run bytes p m.1 m.2) (pack-run bytes q n.1 n.2)))
one-meaning bytes (is_pack p) (is_fault k) m n = absurd (not-both bytes p k m.0 m.1 m.2 n.1)
one-meaning bytes (is_pack p) is_past_limit m (inl long) = absurd (omega (arith, m.0, long))
one-meaning bytes (is_pack p) is_past_limit m (inr n) = absurd (not-too-many bytes (lines_of_pack p) [] m.0 (pack-run bytes p m.1 m.2) n.1)
one-meaning bytes (is_fault k) (is_pack q) m n = absurd (not-both bytes q k n.0 n.1 n.2 m.1)
one-meaning bytes (is_fault k) (is_fault j) m n =
    let lines = one-run bytes m.1.lines m.1.rest n.1.lines n.1.rest m.0 (fault-run bytes k m.1) (fault-run bytes j n.1) in
    ap is_fault (m.1.number ∙ ap length lines ∙ sym n.1.number)
one-meaning bytes (is_fault k) is_past_limit m (inl long) = absurd (omega (arith, m.0, long))
one-meaning bytes (is_fault k) is_past_limit m (inr n) = absurd (not-too-many bytes m.1.lines m.1.rest m.0 (fault-run bytes k m.1) n.1)
one-meaning bytes is_past_limit (is_pack q) (inl long) n = absurd (omega (arith, n.0, long))
one-meaning bytes is_past_limit (is_pack q) (inr m) n = absurd (not-too-many bytes (lines_of_pack q) [] n.0 (pack-run bytes q n.1 n.2) m.1)
one-meaning bytes is_past_limit (is_fault k) (inl long) n = absurd (omega (arith, n.0, long))
one-meaning bytes is_past_limit (is_fault k) (inr m) n = absurd (not-too-many bytes n.1.lines n.1.rest n.0 (fault-run bytes k n.1) m.1)
one-meaning bytes is_past_limit is_past_limit m n = refl
