-- Rows after a cause.
use Rattle.std.proofs.Common.{◌≡◌, ◌≤◌, ◌<◌, ℕ, ◌+◌, List, [], ◌∷◌, ◌++◌, map, length, refl, sym, subst, ◌∙◌, arith, Option, Some, None}
use Rattle.std.proofs.lemmas.List.{length-append, length-map, map-append}
use Rattle.pv_rules.specs.declared.sites.Site.{Site}
use Rattle.pv_denial.specs.Rows.{most_values, values_in}
use Rattle.pv_denial.specs.declared.denials.Cause.{Cause}
use Rattle.pv_denial.specs.declared.denials.Row.{Row}
use Rattle.pv_denial_text.specs.Fronts.{Begins, BeginsNot}
use Rattle.pv_denial_text.specs.Lines.{DenialLine, version_line, list_line, cause_line, row_line, end_line}
use Rattle.pv_denial_text.specs.Meaning.{Stand, StandsNone}
use Rattle.pv_denial_text.specs.Steps.{EndsWithRows, Follows, HasTooManyBehind, IsFaultyBehind, IsRowPlace, StandsNoRow, StandsNoRowBehind, StandsRow}
use Rattle.pv_denial_text.specs.Texts.{MayFollow, last_line}
use Rattle.pv_denial_text.proofs.RowWords.{same-row}
use Rattle.pv_denial_text.proofs.LineSequences.{last-append, stand-more, values-append, values-of}

pub follows-back : (before : Option DenialLine) (last : Option Site) (r : Row) → IsRowPlace before last → MayFollow before (row_line r) → Follows last r.site
follows-back None last r p m = absurd p
follows-back (Some version_line) last r p m = absurd p
follows-back (Some (list_line path)) last r p m = absurd p
follows-back (Some (cause_line c)) last r p m = let P : Option Site → Type 0 = λ v. Follows v r.site in subst P (sym p) tt
follows-back (Some (row_line q)) last r p m = let P : Option Site → Type 0 = λ v. Follows v r.site in subst P (sym p) m
follows-back (Some end_line) last r p m = absurd p

-- the row at the front doesn't ascend
pub none-follows : (last : Option Site) (bytes : List ℕ) (next : Row) (rest : List ℕ) → Begins bytes (row_line next) rest → (Follows last next.site → ⊥) → StandsNoRowBehind last bytes
none-follows last bytes next rest b n = λ before place r more s.
    let same = same-row next r rest more b.in_range s.begins.in_range (sym b.whole ∙ s.begins.whole) in
    let P : Row → Type 0 = λ q. Follows last q.site in
    n (subst P (sym same.rows) (follows-back before last r place s.may_follow))

place-ends : (before : Option DenialLine) (last : Option Site) → IsRowPlace before last → MayFollow before end_line
place-ends None last p = absurd p
place-ends (Some version_line) last p = absurd p
place-ends (Some (list_line path)) last p = absurd p
place-ends (Some (cause_line c)) last p = tt
place-ends (Some (row_line q)) last p = tt
place-ends (Some end_line) last p = absurd p

place-not-ended : (before : Option DenialLine) (last : Option Site) → IsRowPlace before last → before ≡ Some end_line → ⊥
place-not-ended before last p e = let P : Option DenialLine → Type 0 = λ v. IsRowPlace v last in subst P e p

no-line : (before : Option DenialLine) (last : Option Site) (rest : List ℕ) → IsRowPlace before last → StandsNoRow before rest → BeginsNot end_line rest → StandsNone before rest
no-line None last rest p r e line more s = absurd p
no-line (Some version_line) last rest p r e line more s = absurd p
no-line (Some (list_line path)) last rest p r e line more s = absurd p
no-line (Some end_line) last rest p r e line more s = absurd p
no-line (Some (cause_line c)) last rest p r e version_line more s = s.may_follow
no-line (Some (cause_line c)) last rest p r e (list_line path) more s = s.may_follow
no-line (Some (cause_line c)) last rest p r e (cause_line d) more s = s.may_follow
no-line (Some (cause_line c)) last rest p r e (row_line q) more s = r q more s
no-line (Some (cause_line c)) last rest p r e end_line more s = e more s.begins
no-line (Some (row_line b)) last rest p r e version_line more s = s.may_follow
no-line (Some (row_line b)) last rest p r e (list_line path) more s = s.may_follow
no-line (Some (row_line b)) last rest p r e (cause_line d) more s = s.may_follow
no-line (Some (row_line b)) last rest p r e (row_line q) more s = r q more s
no-line (Some (row_line b)) last rest p r e end_line more s = e more s.begins

-- what the rows read so far are, and the site of the last
pub record RowsRead (bytes : List ℕ) (rows : List Row) (last : Option Site) (rest : List ℕ) : Type 0 where
  pub stand : (c : Cause) → Stand (Some (cause_line c)) bytes (map row_line rows) rest
  pub place : (c : Cause) → IsRowPlace (last_line (Some (cause_line c)) (map row_line rows)) last

more-stand : (bytes : List ℕ) (rows : List Row) (last : Option Site) (rest : List ℕ) (r : Row) (more : List ℕ) → RowsRead bytes rows last rest → StandsRow last rest r more →
    (c : Cause) → Stand (Some (cause_line c)) bytes (map row_line rows ++ row_line r ∷ []) more
more-stand bytes rows last rest r more h s c =
    stand-more (Some (cause_line c)) bytes (map row_line rows) rest (row_line r) more (h.stand c) (s (last_line (Some (cause_line c)) (map row_line rows)) (h.place c))

pub row-read : (bytes : List ℕ) (rows : List Row) (last : Option Site) (rest : List ℕ) (r : Row)
    (more : List ℕ) → RowsRead bytes rows last rest → StandsRow last rest r more →
    RowsRead bytes (rows ++ r ∷ []) (Some r.site) more
row-read bytes rows last rest r more h s = record {
  stand = λ c. rw (map-append row_line rows (r ∷ [])) (more-stand bytes rows last rest r more h s c);
  place = λ c. rw (map-append row_line rows (r ∷ []), last-append (Some (cause_line c)) (map row_line rows) (row_line r ∷ [])) refl;
}

pub too-many : (bytes : List ℕ) (rows : List Row) (last : Option Site) (rest : List ℕ) (r : Row) (more : List ℕ) (room : ℕ) → RowsRead bytes rows last rest → StandsRow last rest r more →
    room + values_in rows ≡ most_values → room < length r.values → (c : Cause) → HasTooManyBehind c bytes
too-many bytes rows last rest r more room h s all past c = record {
  lines = map row_line rows;
  row = r;
  rest = more;
  stand = more-stand bytes rows last rest r more h s c;
  within = omega (arith, values-of rows, all);
  past = omega (arith, values-of rows, all, past);
}

end-stands : (bytes : List ℕ) (rows : List Row) (last : Option Site) (rest after : List ℕ) →
    RowsRead bytes rows last rest → Begins rest end_line after → (c : Cause) →
    Stand (Some (cause_line c)) bytes (map row_line rows ++ end_line ∷ []) after
end-stands bytes rows last rest after h e c =
    stand-more (Some (cause_line c)) bytes (map row_line rows) rest end_line after (h.stand c)
    record {
      may_follow = place-ends (last_line (Some (cause_line c)) (map row_line rows)) last
          (h.place c);
      begins = e;
    }

pub rows-end : (bytes : List ℕ) (rows : List Row) (last : Option Site) (rest after : List ℕ) →
    RowsRead bytes rows last rest → Begins rest end_line after → after ≡ [] →
    values_in rows ≤ most_values → EndsWithRows bytes rows
rows-end bytes rows last rest after h e none few = record {
  stand = λ c. let P : List ℕ → Type 0 = λ l. Stand (Some (cause_line c)) bytes (map row_line rows ++ end_line ∷ []) l in subst P none (end-stands bytes rows last rest after h e c);
  few = few;
}

pub more-behind-end : (bytes : List ℕ) (rows : List Row) (last : Option Site) (rest after : List ℕ)
    (k : ℕ) → RowsRead bytes rows last rest → Begins rest end_line after → (after ≡ [] → ⊥) →
    values_in rows ≤ most_values →
    k ≡ 4 + length rows → (c : Cause) → IsFaultyBehind c bytes k
more-behind-end bytes rows last rest after k h e some few is c =
    let ended = last-append (Some (cause_line c)) (map row_line rows) (end_line ∷ []) in
    record {
      lines = map row_line rows ++ end_line ∷ [];
      rest = after;
      stand = end-stands bytes rows last rest after h e c;
      number = omega (arith, is, length-append (map row_line rows) (end_line ∷ []), length-map rows row_line);
      within = omega (arith, values-append (map row_line rows) (end_line ∷ []), values-of rows, few);
      none = rw ended (λ line more s. s.may_follow);
      cut = λ w. some w.1;
    }

pub no-end : (bytes : List ℕ) (rows : List Row) (last : Option Site) (rest : List ℕ) (k : ℕ) →
    RowsRead bytes rows last rest → StandsNoRowBehind last rest → BeginsNot end_line rest →
    values_in rows ≤ most_values →
    k ≡ 3 + length rows → (c : Cause) → IsFaultyBehind c bytes k
no-end bytes rows last rest k h r e few is c =
    let before = last_line (Some (cause_line c)) (map row_line rows) in
    record {
      lines = map row_line rows;
      rest = rest;
      stand = h.stand c;
      number = omega (arith, is, length-map rows row_line);
      within = omega (arith, values-of rows, few);
      none = no-line before last rest (h.place c) (r before (h.place c)) e;
      cut = λ w. place-not-ended before last (h.place c) w.0;
    }

none-short : (xs : List ℕ) → length xs < 1 → xs ≡ []
none-short [] s = refl
none-short (x ∷ xs) s = absurd (omega arith)

pub short-end : (bytes : List ℕ) (rows : List Row) (last : Option Site) (rest after : List ℕ) →
    RowsRead bytes rows last rest → Begins rest end_line after → length after < 1 →
    values_in rows ≤ most_values → EndsWithRows bytes rows
short-end bytes rows last rest after h e short few = rows-end bytes rows last rest after h e (none-short after short) few
