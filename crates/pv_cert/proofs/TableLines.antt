-- Tables after a body.
use Rattle.std.proofs.Common.{◌≡◌, ◌≤◌, ◌<◌, ℕ, ◌+◌, List, [], ◌∷◌, ◌++◌, map, length, refl, sym, ap, ◌∙◌, append_assoc, append-nil, arith, Option, Some, None, MatchOption}
use Rattle.std.proofs.lemmas.List.{length-append, length-map, map-append}
use Rattle.pv_tables.specs.Tables.{entries_in, most_entries}
use Rattle.pv_tables.specs.declared.tables.Entry.{Entry}
use Rattle.pv_tables.specs.declared.tables.Table.{Table}
use Rattle.pv_cert.specs.Fronts.{Begins, BeginsNone, BeginsNot}
use Rattle.pv_cert.specs.Lines.{PackLine, version_line, total_line, mark_line, body_line, list_line, entry_line, end_line}
use Rattle.pv_cert.specs.Meaning.{Stand, Stands, StandsNone, entries_among}
use Rattle.pv_cert.specs.Packs.{IsOfTables, MayFollow, last_line, lines_of_table, table_lines}
use Rattle.pv_cert.specs.Steps.{EndsWithTables, Follows, HasEntryBeyond, HasTooManyBehind, IsFaultyBehind, RefusesEntries, RefusesTables, StandsNoEntry, TakesEntries, line_before}
use Rattle.pv_cert.specs.declared.errors.PackError.{PackError}
use Rattle.pv_cert.specs.declared.errors.PackError.TheVariants.{Limit, NoMemory, Syntax}
use Rattle.pv_cert.proofs.LineSequences.{entries-append, entries-of, last-append, stand-append}
use Rattle.pv_cert.proofs.LineSequences.{stand-more, stand-none}

-- after this line may stand the head of a table, the end, and some entries
pub record IsTablePlace (before : Option PackLine) : Type 0 where
  pub back : (line : PackLine) → MayFollow before line → IsOfTables (λ e. MayFollow before (entry_line e)) line
  pub head : (path : List ℕ) → MayFollow before (list_line path)
  pub ends : MayFollow before end_line

pub behind-body : (b : List ℕ) → IsTablePlace (Some (body_line b))
behind-body b = record { back = λ line m. m; head = λ path. tt; ends = tt }

behind-list : (path : List ℕ) → IsTablePlace (Some (list_line path))
behind-list path = record { back = λ line m. m; head = λ p. tt; ends = tt }

behind-entries : (before : Option PackLine) (es : List Entry) → IsTablePlace before → IsTablePlace (last_line before (map entry_line es))
behind-entries before [] p = p
behind-entries before (e ∷ es) p = behind-entries (Some (entry_line e)) es record { back = λ line m. m; head = λ q. tt; ends = tt }

behind-tables-by : (before : Option PackLine) (ts : List Table) → IsTablePlace before → IsTablePlace (last_line before (table_lines ts))
behind-tables-by before [] p = p
behind-tables-by before (t ∷ ts) p =
    rw (last-append (Some (list_line t.path)) (map entry_line t.entries) (table_lines ts))
    (behind-tables-by (last_line (Some (list_line t.path)) (map entry_line t.entries)) ts (behind-entries (Some (list_line t.path)) t.entries (behind-list t.path)))

pub behind-tables : (b : List ℕ) (ts : List Table) → IsTablePlace (last_line (Some (body_line b)) (table_lines ts))
behind-tables b ts = behind-tables-by (Some (body_line b)) ts (behind-body b)

pub no-line-of-tables : (before : Option PackLine) (rest : List ℕ) → IsTablePlace before → BeginsNone list_line rest → StandsNoEntry before rest → BeginsNot end_line rest → StandsNone before rest
no-line-of-tables before rest p l e n version_line more s = p.back version_line s.may_follow
no-line-of-tables before rest p l e n (total_line k) more s = p.back (total_line k) s.may_follow
no-line-of-tables before rest p l e n (mark_line m) more s = p.back (mark_line m) s.may_follow
no-line-of-tables before rest p l e n (body_line b) more s = p.back (body_line b) s.may_follow
no-line-of-tables before rest p l e n (list_line path) more s = l path more s.begins
no-line-of-tables before rest p l e n (entry_line f) more s = e f more s
no-line-of-tables before rest p l e n end_line more s = n more s.begins

pub follows-back : (path : List ℕ) (last : Option Entry) (e : Entry) → MayFollow (line_before path last) (entry_line e) → Follows last e
follows-back path None e f = tt
follows-back path (Some d) e f = f

-- what the entries read so far are, and which is the last
pub record HaveRead (bytes : List ℕ) (es : List Entry) (last : Option Entry) (rest : List ℕ) : Type 0 where
  pub stand : (path : List ℕ) → Stand (Some (list_line path)) bytes (map entry_line es) rest
  pub is_last : (path : List ℕ) → last_line (Some (list_line path)) (map entry_line es) ≡ line_before path last

pub none-read : (bytes : List ℕ) → HaveRead bytes [] None bytes
none-read bytes = record { stand = λ path. stand-none (Some (list_line path)) bytes; is_last = λ path. refl }

more-stand : (bytes : List ℕ) (es : List Entry) (last : Option Entry) (rest : List ℕ) (e : Entry)
    (more : List ℕ) → HaveRead bytes es last rest → ((path : List ℕ) →
    Stands (line_before path last) rest (entry_line e) more) →
    (path : List ℕ) → Stand (Some (list_line path)) bytes (map entry_line es ++ entry_line e ∷ []) more
more-stand bytes es last rest e more h s path =
    stand-more (Some (list_line path)) bytes (map entry_line es) rest (entry_line e) more (h.stand path) (rw (h.is_last path) (s path))

pub entry-read : (bytes : List ℕ) (es : List Entry) (last : Option Entry) (rest : List ℕ)
    (e : Entry) (more : List ℕ) → HaveRead bytes es last rest → ((path : List ℕ) →
    Stands (line_before path last) rest (entry_line e) more) →
    HaveRead bytes (es ++ e ∷ []) (Some e) more
entry-read bytes es last rest e more h s = record {
  stand = λ path. rw (map-append entry_line es (e ∷ [])) (more-stand bytes es last rest e more h s path);
  is_last = λ path. rw (map-append entry_line es (e ∷ [])) (last-append (Some (list_line path)) (map entry_line es) (entry_line e ∷ []));
}

pub entries-full : (bytes : List ℕ) (es : List Entry) (last : Option Entry) (rest : List ℕ) (e : Entry) (more : List ℕ) (most : ℕ) → HaveRead bytes es last rest →
    ((path : List ℕ) → Stands (line_before path last) rest (entry_line e) more) → length es ≡ most → HasEntryBeyond bytes most
entries-full bytes es last rest e more most h s full = record { es = es; e = e; rest = more; stand = more-stand bytes es last rest e more h s; full = full }

-- the tables read so far after a body
pub record TablesRead (bytes : List ℕ) (ts : List Table) (rest : List ℕ) : Type 0 where
  pub stand : (b : List ℕ) → Stand (Some (body_line b)) bytes (table_lines ts) rest
  pub none : (b : List ℕ) → StandsNoEntry (last_line (Some (body_line b)) (table_lines ts)) rest

lines-append : (ts us : List Table) → table_lines (ts ++ us) ≡ table_lines ts ++ table_lines us
lines-append [] us = refl
lines-append (t ∷ ts) us = ap (λ l. lines_of_table t ++ l) (lines-append ts us) ∙ sym (append_assoc (lines_of_table t) (table_lines ts) (table_lines us))

one-table : (t : Table) → table_lines (t ∷ []) ≡ lines_of_table t
one-table t = append-nil (lines_of_table t)

pub lines-more : (ts : List Table) (t : Table) → table_lines (ts ++ t ∷ []) ≡ table_lines ts ++ lines_of_table t
lines-more ts t = lines-append ts (t ∷ []) ∙ ap (λ l. table_lines ts ++ l) (one-table t)

pub entries-in-lines : (ts : List Table) → entries_among (table_lines ts) ≡ entries_in ts
entries-in-lines [] = refl
entries-in-lines (t ∷ ts) =
    entries-append (map entry_line t.entries) (table_lines ts) ∙ (λ i. entries-of t.entries i + entries-in-lines ts i)

pub entries-in-more : (ts : List Table) (t : Table) → entries_in (ts ++ t ∷ []) ≡ entries_in ts + length t.entries
entries-in-more [] t = omega arith
entries-in-more (u ∷ ts) t = omega (arith, entries-in-more ts t)

-- the head of a table, and what stands after it
head-stands : (b : List ℕ) (bytes : List ℕ) (ts : List Table) (rest : List ℕ) (path : List ℕ) (after : List ℕ) → TablesRead bytes ts rest → Begins rest (list_line path) after →
    Stand (Some (body_line b)) bytes (table_lines ts ++ list_line path ∷ []) after
head-stands b bytes ts rest path after h l =
    stand-more (Some (body_line b)) bytes (table_lines ts) rest (list_line path) after (h.stand b) record { may_follow = (behind-tables b ts).head path; begins = l }

head-last : (b : List ℕ) (ts : List Table) (path : List ℕ) → last_line (Some (body_line b)) (table_lines ts ++ list_line path ∷ []) ≡ Some (list_line path)
head-last b ts path = last-append (Some (body_line b)) (table_lines ts) (list_line path ∷ [])

-- lines that stand after the head of a table stand after the body with it
behind-head : (b : List ℕ) (bytes : List ℕ) (ts : List Table) (rest : List ℕ) (path : List ℕ)
    (after : List ℕ) (ls : List PackLine) (more : List ℕ) → TablesRead bytes ts rest →
    Begins rest (list_line path) after →
    Stand (Some (list_line path)) after ls more → Stand (Some (body_line b)) bytes (table_lines ts ++ list_line path ∷ ls) more
behind-head b bytes ts rest path after ls more h l s =
    rw (sym (append_assoc (table_lines ts) (list_line path ∷ []) ls))
    (stand-append (Some (body_line b)) bytes (table_lines ts ++ list_line path ∷ []) after ls more (head-stands b bytes ts rest path after h l) (rw (head-last b ts path) s))

pub table-read : (bytes : List ℕ) (ts : List Table) (rest : List ℕ) (after : List ℕ) (t : Table)
    (more : List ℕ) → TablesRead bytes ts rest → Begins rest (list_line t.path) after →
    TakesEntries after t.entries more →
    TablesRead bytes (ts ++ t ∷ []) more
table-read bytes ts rest after t more h l e = record {
  stand = λ b. rw (lines-more ts t) (behind-head b bytes ts rest t.path after (map entry_line t.entries) more h l (e.stand t.path));
  none = λ b. rw (lines-more ts t, last-append (Some (body_line b)) (table_lines ts) (lines_of_table t)) (e.none t.path);
}

pub too-many : (bytes : List ℕ) (ts : List Table) (rest : List ℕ) (path : List ℕ) (after : List ℕ)
    (most : ℕ) → TablesRead bytes ts rest → Begins rest (list_line path) after →
    HasEntryBeyond after most → most + entries_in ts ≡ most_entries →
    (b : List ℕ) → HasTooManyBehind (Some (body_line b)) bytes
too-many bytes ts rest path after most h l m all b = record {
  lines = table_lines ts ++ list_line path ∷ map entry_line m.es;
  e = m.e;
  rest = m.rest;
  stand = rw (append_assoc (table_lines ts) (list_line path ∷ map entry_line m.es) (entry_line m.e ∷ []))
      (behind-head b bytes ts rest path after (map entry_line m.es ++ entry_line m.e ∷ []) m.rest h l (m.stand path));
  full = omega (arith, entries-append (table_lines ts) (list_line path ∷ map entry_line m.es), entries-in-lines ts, entries-of m.es, m.full, all);
}

-- at the end
end-stands : (b : List ℕ) (bytes : List ℕ) (ts : List Table) (rest after : List ℕ) →
    TablesRead bytes ts rest → Begins rest end_line after →
    Stand (Some (body_line b)) bytes (table_lines ts ++ end_line ∷ []) after
end-stands b bytes ts rest after h e =
    stand-more (Some (body_line b)) bytes (table_lines ts) rest end_line after (h.stand b) record { may_follow = (behind-tables b ts).ends; begins = e }

pub tables-end : (bytes : List ℕ) (ts : List Table) (rest : List ℕ) → TablesRead bytes ts rest → Begins rest end_line [] → entries_in ts ≤ most_entries → EndsWithTables bytes ts
tables-end bytes ts rest h e few = record { stand = λ b. end-stands b bytes ts rest [] h e; few = few }

pub more-behind-end : (first : ℕ) (bytes : List ℕ) (ts : List Table) (rest after : List ℕ) (k : ℕ) →
    TablesRead bytes ts rest → Begins rest end_line after → (after ≡ [] → ⊥) →
    entries_in ts ≤ most_entries → k ≡ first + length (table_lines ts) →
    (b : List ℕ) → IsFaultyBehind (Some (body_line b)) first bytes (k + 1)
more-behind-end first bytes ts rest after k h e some few is b =
    let last = last-append (Some (body_line b)) (table_lines ts) (end_line ∷ []) in
    record {
      lines = table_lines ts ++ end_line ∷ [];
      rest = after;
      stand = end-stands b bytes ts rest after h e;
      number = omega (arith, is, length-append (table_lines ts) (end_line ∷ []));
      within = omega (arith, entries-append (table_lines ts) (end_line ∷ []), entries-in-lines ts, few);
      none = rw last (λ line more s. s.may_follow);
      cut = λ w. some w.1;
    }

pub no-end : (first : ℕ) (bytes : List ℕ) (ts : List Table) (rest : List ℕ) (k : ℕ) →
    TablesRead bytes ts rest → BeginsNone list_line rest → BeginsNot end_line rest →
    entries_in ts ≤ most_entries → k ≡ first + length (table_lines ts) →
    (b : List ℕ) → IsFaultyBehind (Some (body_line b)) first bytes k
no-end first bytes ts rest k h l e few is b = record {
  lines = table_lines ts;
  rest = rest;
  stand = h.stand b;
  number = is;
  within = omega (arith, entries-in-lines ts, few);
  none = no-line-of-tables (last_line (Some (body_line b)) (table_lines ts)) rest (behind-tables b ts) l (h.none b) e;
  cut = λ w. not-ended b ts w.0;
}
  where
    ended-entries : (es : List Entry) (before : Option PackLine) (ls : List PackLine) → (before ≡ Some end_line → ⊥) → last_line before (map entry_line es) ≡ Some end_line → ⊥
    ended-entries [] before ls n is = n is
    ended-entries (e ∷ es) before ls n is = ended-entries es (Some (entry_line e)) ls (λ x. cc) is

    ended-by : (ts : List Table) (before : Option PackLine) → (before ≡ Some end_line → ⊥) → last_line before (table_lines ts) ≡ Some end_line → ⊥
    ended-by [] before n is = n is
    ended-by (t ∷ ts) before n is =
        ended-by ts (last_line (Some (list_line t.path)) (map entry_line t.entries))
        (λ x. ended-entries t.entries (Some (list_line t.path)) [] (λ y. cc) x)
        (sym (last-append (Some (list_line t.path)) (map entry_line t.entries) (table_lines ts)) ∙ is)

    not-ended : (b : List ℕ) (ts : List Table) → last_line (Some (body_line b)) (table_lines ts) ≡ Some end_line → ⊥
    not-ended b ts is = ended-by ts (Some (body_line b)) (λ y. cc) is

pub table-number : (ts : List Table) (t : Table) → length (table_lines (ts ++ t ∷ [])) ≡ length (table_lines ts) + (1 + length t.entries)
table-number ts t = omega (arith, ap length (lines-more ts t), length-append (table_lines ts) (lines_of_table t), length-map t.entries entry_line)

-- the entries after the head of a table are refused, and so what stands after the body
pub entries-refused : (first : ℕ) (bytes : List ℕ) (ts : List Table) (rest : List ℕ) (path : List ℕ)
    (after : List ℕ) (most : ℕ) (error : PackError) → TablesRead bytes ts rest →
    Begins rest (list_line path) after →
    most + entries_in ts ≡ most_entries → RefusesEntries after most error → RefusesTables first bytes error
entries-refused first bytes ts rest path after most (Syntax k) h l all r = absurd r
entries-refused first bytes ts rest path after most Limit h l all r = too-many bytes ts rest path after most h l r all
entries-refused first bytes ts rest path after most NoMemory h l all r = tt

none-short : (xs : List ℕ) → length xs < 1 → xs ≡ []
none-short [] s = refl
none-short (x ∷ xs) s = absurd (omega arith)

pub pack-ends : (bytes : List ℕ) (ts : List Table) (rest after : List ℕ) →
    TablesRead bytes ts rest → Begins rest end_line after → length after < 1 →
    entries_in ts ≤ most_entries → EndsWithTables bytes ts
pack-ends bytes ts rest after h e short few = tables-end bytes ts rest h (rw (← none-short after short) e) few

-- nothing of the kind was found
pub none-found : {X : Type 0} (r : Option X) (P : Type 0) (Q : X → Type 0) → ((x : X) → r ≡ Some x → ⊥) → MatchOption r P Q → P
none-found None P Q n m = m
none-found (Some x) P Q n m = absurd (n x refl)
