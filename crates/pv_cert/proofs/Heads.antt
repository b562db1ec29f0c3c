-- The lines of a pack up to its body, and a whole pack.
use Rattle.std.proofs.Common.{◌≡◌, ◌≤◌, ℕ, ◌+◌, List, [], ◌∷◌, ◌++◌, ◌-◌, codes, decimal, drop, map, length, take, refl, sym, ap, subst, ◌∙◌}
use Rattle.std.proofs.Common.{append_assoc, append-nil, arith, Option, Some, None, inr, Ok, Err, Result, IfOk, IfErr}
use Rattle.std.proofs.lemmas.List.{drop_at, length-append, length-map, take_at}
use Rattle.pv_words.specs.Words.{with_feed, words}
use Rattle.pv_tables.specs.declared.tables.Table.{Table}
use Rattle.pv_cert.specs.Fronts.{Begins, BeginsNone}
use Rattle.pv_cert.specs.Lines.{PackLine, version_line, total_line, mark_line, body_line, entry_line, end_line}
use Rattle.pv_cert.specs.Meaning.{Answers, HasTooMany, IsFaulty, MAX_PACK_BYTES, Outcome, PackMeans, Refuses, Stand, entries_among, is_pack, is_fault, is_past_limit}
use Rattle.pv_cert.specs.Packs.{AreLines, last_line, lines_text, table_lines}
use Rattle.pv_cert.specs.Steps.{EndsWithTables, HasTooManyBehind, IsFaultyBehind, RefusesTables}
use Rattle.pv_cert.specs.Steps.{TakesMarks, head_lines, pack_within}
use Rattle.pv_cert.specs.declared.packs.Pack.{Pack}
use Rattle.pv_cert.specs.declared.errors.PackError.{PackError}
use Rattle.pv_cert.specs.declared.errors.PackError.TheVariants.{Limit, NoMemory, Syntax}
use Rattle.pv_cert.proofs.OneMeaning.{one-meaning}
use Rattle.pv_cert.proofs.LineSequences.{behind-marks, entries-append, entries-of-marks}
use Rattle.pv_cert.proofs.LineSequences.{last-append, no-mark-or-body, no-total, stand-append}
use Rattle.pv_cert.proofs.LineSequences.{stand-more, stand-one, text-append}

version-stands : (bytes rest : List ℕ) → Begins bytes version_line rest → Stand None bytes (version_line ∷ []) rest
version-stands bytes rest b = stand-one None bytes version_line rest record { may_follow = tt; begins = b }

pub fault-at-total : (bytes rest : List ℕ) → Begins bytes version_line rest → BeginsNone total_line rest → IsFaulty bytes 1
fault-at-total bytes rest b none = record {
  lines = version_line ∷ [];
  rest = rest;
  stand = version-stands bytes rest b;
  number = refl;
  within = omega arith;
  none = no-total rest none;
  cut = λ w. let e = w.0 in cc;
}

last-mark : (before : Option PackLine) (ms : List ℕ) → (before ≡ Some end_line → ⊥) → last_line before (map mark_line ms) ≡ Some end_line → ⊥
last-mark before [] n is = n is
last-mark before (m ∷ ms) n is = last-mark (Some (mark_line m)) ms (λ e. cc) is

marks-stand : (bytes rest : List ℕ) (k : ℕ) (ms more : List ℕ) →
    Stand None bytes (version_line ∷ total_line k ∷ []) rest → TakesMarks rest ms more →
    Stand None bytes (version_line ∷ total_line k ∷ map mark_line ms) more
marks-stand bytes rest k ms more s t = stand-append None bytes (version_line ∷ total_line k ∷ []) rest (map mark_line ms) more s (t.stand k)

pub fault-at-body : (bytes rest : List ℕ) (k : ℕ) (ms more : List ℕ) →
    Stand None bytes (version_line ∷ total_line k ∷ []) rest → TakesMarks rest ms more →
    BeginsNone body_line more → IsFaulty bytes (2 + length ms)
fault-at-body bytes rest k ms more s t none = record {
  lines = version_line ∷ total_line k ∷ map mark_line ms;
  rest = more;
  stand = marks-stand bytes rest k ms more s t;
  number = omega (arith, length-map ms mark_line);
  within = omega (arith, entries-of-marks ms);
  none = no-mark-or-body (last_line (Some (total_line k)) (map mark_line ms)) more (behind-marks k ms) t.none none;
  cut = λ w. last-mark (Some (total_line k)) ms (λ e. cc) w.0;
}

pub head-stands : (bytes rest : List ℕ) (k : ℕ) (ms more b after : List ℕ) → Stand None bytes (version_line ∷ total_line k ∷ []) rest → TakesMarks rest ms more → Begins more (body_line b) after →
    Stand None bytes (head_lines k ms b) after
head-stands bytes rest k ms more b after s t begins =
    stand-more None bytes (version_line ∷ total_line k ∷ map mark_line ms) more (body_line b) after (marks-stand bytes rest k ms more s t)
    record { may_follow = (behind-marks k ms).forth (body_line b) tt; begins = begins }

-- the head and what stands after it
head-last : (k : ℕ) (ms b : List ℕ) → last_line None (head_lines k ms b) ≡ Some (body_line b)
head-last k ms b = last-append (Some (total_line k)) (map mark_line ms) (body_line b ∷ [])

head-entries : (k : ℕ) (ms b : List ℕ) → entries_among (head_lines k ms b) ≡ 0
head-entries k ms b = omega (arith, entries-append (map mark_line ms) (body_line b ∷ []), entries-of-marks ms)

head-number : (k : ℕ) (ms b : List ℕ) → length (head_lines k ms b) ≡ 3 + length ms
head-number k ms b = omega (arith, length-append (map mark_line ms) (body_line b ∷ []), length-map ms mark_line)

behind-head : (bytes : List ℕ) (k : ℕ) (ms b rest : List ℕ) (ls : List PackLine) (more : List ℕ) →
    Stand None bytes (head_lines k ms b) rest → Stand (Some (body_line b)) rest ls more →
    Stand None bytes (head_lines k ms b ++ ls) more
behind-head bytes k ms b rest ls more s t = stand-append None bytes (head_lines k ms b) rest ls more s (rw (head-last k ms b) t)

pub pack-read : (bytes : List ℕ) (k : ℕ) (ms b rest : List ℕ) (ts : List Table) (pack : Pack) → length bytes ≤ MAX_PACK_BYTES → Stand None bytes (head_lines k ms b) rest → EndsWithTables rest ts →
    pack ≡ record { total = k; marks = ms; body = b; tables = ts } → PackMeans bytes (is_pack pack)
pack-read bytes k ms b rest ts pack few s t is =
    let tail = table_lines ts ++ end_line ∷ [] in
    let lines : head_lines k ms b ++ tail ≡ version_line ∷ total_line k ∷ (map mark_line ms ++ (body_line b ∷ tail)) =
    ap (λ l. version_line ∷ total_line k ∷ l) (append_assoc (map mark_line ms) (body_line b ∷ []) tail) in
    let stand = behind-head bytes k ms b rest tail [] s (t.stand b) in
    let whole : PackMeans bytes (is_pack record { total = k; marks = ms; body = b; tables = ts }) =
    (few, record { are_lines = subst (λ l. AreLines None l) lines stand.are_lines; spelled = stand.whole ∙ append-nil (lines_text (head_lines k ms b ++ tail)) ∙ ap lines_text lines }, t.few) in
    subst (λ p. PackMeans bytes (is_pack p)) (sym is) whole

-- where the body stands in the text
pub record StandsBetween (bytes b : List ℕ) (start end : ℕ) : Type 0 where
  pub order : start ≤ end
  pub within : end ≤ length bytes
  pub body : take (end - start) (drop start bytes) ≡ b

rejoined : (h w b rest : List ℕ) → (h ++ ((w ++ (b ++ (10 ∷ []))) ++ [])) ++ rest ≡ (h ++ w) ++ (b ++ (10 ∷ rest))
rejoined h w b rest = simp (append_assoc, append-nil)

body-front : (bytes : List ℕ) (k : ℕ) (ms b rest : List ℕ) → Stand None bytes (head_lines k ms b) rest →
    bytes ≡ (lines_text (version_line ∷ total_line k ∷ map mark_line ms) ++ with_feed (words (codes "body" ∷ decimal (length b) ∷ []))) ++ (b ++ (10 ∷ rest))
body-front bytes k ms b rest s =
    let head = version_line ∷ total_line k ∷ map mark_line ms in
    s.whole ∙ ap (λ l. l ++ rest) (text-append head (body_line b ∷ [])) ∙ rejoined (lines_text head) (with_feed (words (codes "body" ∷ decimal (length b) ∷ []))) b rest

between : (bytes front b rest : List ℕ) (start end : ℕ) → bytes ≡ front ++ (b ++ (10 ∷ rest)) → start ≡ length front → end ≡ start + length b → StandsBetween bytes b start end
between bytes front b rest start end is at to =
    let size = ap length is in
    let cut : end - start ≡ length b = omega arith in
    record {
      order = omega arith;
      within = omega (arith, size, length-append front (b ++ (10 ∷ rest)), length-append b (10 ∷ rest));
      body = ap (λ l. take (end - start) (drop start l)) is ∙ ap (take (end - start)) (drop_at front (b ++ (10 ∷ rest)) start (sym at)) ∙ take_at b (10 ∷ rest) (end - start) (sym cut);
    }

pub body-between : (bytes : List ℕ) (k : ℕ) (ms b rest : List ℕ) (start end : ℕ) →
    Stand None bytes (head_lines k ms b) rest → end ≡ length bytes - length rest - 1 →
    start ≡ end - length b → StandsBetween bytes b start end
body-between bytes k ms b rest start end s to at =
    let front = lines_text (version_line ∷ total_line k ∷ map mark_line ms) ++ with_feed (words (codes "body" ∷ decimal (length b) ∷ [])) in
    let is = body-front bytes k ms b rest s in
    let size : length bytes ≡ length front + (length b + (1 + length rest)) = omega (arith, ap length is, length-append front (b ++ (10 ∷ rest)), length-append b (10 ∷ rest)) in
    between bytes front b rest start end is (omega arith) (omega arith)

pub body-fits : (bytes : List ℕ) (k : ℕ) (ms b rest : List ℕ) → Stand None bytes (head_lines k ms b) rest → length b + (1 + length rest) ≤ length bytes
body-fits bytes k ms b rest s =
    let front = lines_text (version_line ∷ total_line k ∷ map mark_line ms) ++ with_feed (words (codes "body" ∷ decimal (length b) ∷ [])) in
    omega (arith, ap length (body-front bytes k ms b rest s), length-append front (b ++ (10 ∷ rest)), length-append b (10 ∷ rest))

pub parts-read : (bytes : List ℕ) (k : ℕ) (ms b rest : List ℕ) (ts : List Table) (start end : ℕ) → length bytes ≤ MAX_PACK_BYTES → Stand None bytes (head_lines k ms b) rest → EndsWithTables rest ts →
    StandsBetween bytes b start end → PackMeans bytes (is_pack (pack_within bytes k ms start end ts))
parts-read bytes k ms b rest ts start end few s t at =
    pack-read bytes k ms b rest ts (pack_within bytes k ms start end ts) few s t (λ i. record { total = k; marks = ms; body = at.body i; tables = ts })

fault-behind : (bytes : List ℕ) (k : ℕ) (ms b rest : List ℕ) (j : ℕ) → Stand None bytes (head_lines k ms b) rest → IsFaultyBehind (Some (body_line b)) (3 + length ms) rest j → IsFaulty bytes j
fault-behind bytes k ms b rest j s f =
    let last : last_line None (head_lines k ms b ++ f.lines) ≡ last_line (Some (body_line b))
    f.lines = last-append None (head_lines k ms b) f.lines ∙ ap (λ l. last_line l f.lines)
    (head-last k ms b) in
    record {
      lines = head_lines k ms b ++ f.lines;
      rest = f.rest;
      stand = behind-head bytes k ms b rest f.lines f.rest s f.stand;
      number = omega (arith, f.number, length-append (head_lines k ms b) f.lines, head-number k ms b);
      within = omega (arith, f.within, entries-append (head_lines k ms b) f.lines, head-entries k ms b);
      none = rw last f.none;
      cut = rw last f.cut;
    }

too-many-behind : (bytes : List ℕ) (k : ℕ) (ms b rest : List ℕ) → Stand None bytes (head_lines k ms b) rest → HasTooManyBehind (Some (body_line b)) rest → HasTooMany bytes
too-many-behind bytes k ms b rest s m = record {
  lines = head_lines k ms b ++ m.lines;
  e = m.e;
  rest = m.rest;
  stand = rw (append_assoc (head_lines k ms b) m.lines (entry_line m.e ∷ [])) (behind-head bytes k ms b rest (m.lines ++ entry_line m.e ∷ []) m.rest s m.stand);
  full = omega (arith, m.full, entries-append (head_lines k ms b) m.lines, head-entries k ms b);
}

pub tables-refused : (bytes : List ℕ) (k : ℕ) (ms b rest : List ℕ) (error : PackError) →
    length bytes ≤ MAX_PACK_BYTES → Stand None bytes (head_lines k ms b) rest →
    RefusesTables (3 + length ms) rest error → Refuses bytes error
tables-refused bytes k ms b rest (Syntax j) few s r = (few, fault-behind bytes k ms b rest j s (r b))
tables-refused bytes k ms b rest Limit few s r = inr (few, too-many-behind bytes k ms b rest s (r b))
tables-refused bytes k ms b rest NoMemory few s r = tt

-- one meaning, so the answer is it
pub answers-ok : (bytes : List ℕ) (pack : Pack) → PackMeans bytes (is_pack pack) → (o : Outcome) → PackMeans bytes o → Answers o (Ok pack)
answers-ok bytes pack m o n = subst (λ p. Answers p (Ok pack)) (one-meaning bytes (is_pack pack) o m n) refl

pub answers-err : (bytes : List ℕ) (error : PackError) → Refuses bytes error → (o : Outcome) → PackMeans bytes o → Answers o (Err error)
answers-err bytes (Syntax k) m o n = subst (λ p. Answers p (Err (Syntax k))) (one-meaning bytes (is_fault k) o m n) refl
answers-err bytes Limit m o n = subst (λ p. Answers p (Err Limit)) (one-meaning bytes is_past_limit o m n) tt
answers-err bytes NoMemory m (is_pack p) n = tt
answers-err bytes NoMemory m (is_fault k) n = tt
answers-err bytes NoMemory m is_past_limit n = tt

pub answers-result : (bytes : List ℕ) (r : Result Pack PackError) → IfOk r (λ p. PackMeans bytes (is_pack p)) → IfErr r (λ e. Refuses bytes e) → (o : Outcome) → PackMeans bytes o → Answers o r
answers-result bytes (Ok pack) read refused o m = answers-ok bytes pack read o m
answers-result bytes (Err error) read refused o m = answers-err bytes error refused o m
