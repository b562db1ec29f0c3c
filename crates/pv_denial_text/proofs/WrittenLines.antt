-- What is written of a denial.
use Rattle.std.proofs.Common.{List, None, Some, [], ap, append-nil, append_assoc, arith, codes, decimal, drop, drop-cons, get_or, inl, inr, length}
use Rattle.std.proofs.Common.{map, refl, slice_get, subst, suc, sym, ℕ, ◌+◌, ◌++◌, ◌<◌, ◌∙◌, ◌∷◌, ◌≡◌, ◌≢◌, ◌≤◌, ◌⊎◌}
use Rattle.std.proofs.lemmas.Bool.{cases_lt}
use Rattle.std.proofs.lemmas.Option.{slice_get-get_or, slice_get_within}
use Rattle.pv_rules.specs.PlainForms.{plain_site}
use Rattle.pv_words.specs.Numbers.{AreNumbers, numbers_text}
use Rattle.pv_words.specs.Paths.{path_text}
use Rattle.pv_words.specs.Words.{words}
use Rattle.pv_tables.specs.Tables.{site_number}
use Rattle.pv_cert.specs.Lines.{kind_word}
use Rattle.pv_denial.specs.Rows.{AreInOrder, EachRow}
use Rattle.pv_denial.specs.declared.denials.Cause.{Cause}
use Rattle.pv_denial.specs.declared.denials.Denial.{Denial}
use Rattle.pv_denial.specs.declared.denials.Row.{Row}
use Rattle.pv_denial_text.specs.Lines.{IsRowInRange, cause_line, cause_word, end_line, line_text, row_line}
use Rattle.pv_denial_text.specs.Steps.{head_lines}
use Rattle.pv_denial_text.specs.Texts.{AreLines, IsRowBefore, lines_of_denial, lines_text}
use Rattle.pv_denial_text.proofs.LineSequences.{text-append}

-- a word, and numbers after it
words-text : (a : List ℕ) (vs : List ℕ) → words (a ∷ map decimal vs) ≡ a ++ numbers_text vs
words-text a [] = sym (append-nil a)
words-text a (v ∷ vs) = ap (λ l. a ++ (codes " " ++ l)) (words-text (decimal v) vs)

pub row-written : (r : Row) (t0 t1 t2 t3 t4 : List ℕ) → t1 ≡ t0 ++ kind_word (plain_site r.site) →
    t2 ≡ t1 ++ (codes " " ++ decimal (site_number (plain_site r.site))) → t3 ≡ t2 ++ numbers_text r.values →
    t4 ≡ t3 ++ codes "\n" → t4 ≡ t0 ++ line_text (row_line r)
row-written r t0 t1 t2 t3 t4 e1 e2 e3 e4 =
    let k = kind_word (plain_site r.site) in
    let n = decimal (site_number (plain_site r.site)) in
    let v = numbers_text r.values in
    let f2 = e2 ∙ ap (λ l. l ++ (codes " " ++ n)) e1 in
    let f3 = e3 ∙ ap (λ l. l ++ v) f2 in
    let f4 = e4 ∙ ap (λ l. l ++ codes "\n") f3 in
    let w : words (k ∷ n ∷ map decimal r.values) ≡ k ++ (codes " " ++ (n ++ v)) = ap (λ l. k ++ (codes " " ++ l)) (words-text n r.values) in
    f4 ∙ regroup t0 k n v (codes "\n") ∙ ap (λ l. t0 ++ (l ++ codes "\n")) (sym w)
  where
    regroup : (t k n v f : List ℕ) → (((t ++ k) ++ (codes " " ++ n)) ++ v) ++ f ≡ t ++ ((k ++ (codes " " ++ (n ++ v))) ++ f)
    regroup t k n v f = simp append_assoc

head-text : (path : List ℕ) (c : Cause) → lines_text (head_lines path c) ≡ codes "pvdeny 1\nlist " ++ (path_text path ++ (codes "\ncause " ++ (cause_word c ++ codes "\n")))
head-text path c =
    let p = path_text path in
    let x = codes "cause " ++ (cause_word c ++ codes "\n") in
    ap (λ l. codes "pvdeny 1\nlist " ++ ((p ++ codes "\n") ++ l)) (append-nil x) ∙ ap (λ l. codes "pvdeny 1\nlist " ++ l) (append_assoc p (codes "\n") x)

pub head-written : (path : List ℕ) (c : Cause) (t0 t1 t2 t3 t4 t5 : List ℕ) →
    t1 ≡ t0 ++ codes "pvdeny 1\nlist " → t2 ≡ t1 ++ path_text path → t3 ≡ t2 ++ codes "\ncause " →
    t4 ≡ t3 ++ cause_word c → t5 ≡ t4 ++ codes "\n" →
    t5 ≡ t0 ++ lines_text (head_lines path c)
head-written path c t0 t1 t2 t3 t4 t5 e1 e2 e3 e4 e5 =
    let p = path_text path in
    let w = cause_word c in
    let f2 = e2 ∙ ap (λ l. l ++ p) e1 in
    let f3 = e3 ∙ ap (λ l. l ++ codes "\ncause ") f2 in
    let f4 = e4 ∙ ap (λ l. l ++ w) f3 in
    e5 ∙ ap (λ l. l ++ codes "\n") f4 ∙ regroup t0 (codes "pvdeny 1\nlist ") p (codes "\ncause ") w (codes "\n") ∙ ap (λ l. t0 ++ l) (sym (head-text path c))
  where
    regroup : (t a p b w f : List ℕ) → ((((t ++ a) ++ p) ++ b) ++ w) ++ f ≡ t ++ (a ++ (p ++ (b ++ (w ++ f))))
    regroup t a p b w f = simp append_assoc

-- one row more is written
pub rows-more : (rows : List Row) (i : ℕ) (r : Row) (old new all : List ℕ) → i < length rows → r ≡ get_or rows i r → new ≡ old ++ line_text (row_line r) →
    old ++ lines_text (map row_line (drop i rows)) ≡ all → new ++ lines_text (map row_line (drop (i + 1) rows)) ≡ all
rows-more rows i r old new all low is wrote so =
    let one : suc i ≡ i + 1 = omega arith in
    let cut : drop i rows ≡ r ∷ drop (i + 1) rows = drop-cons rows i r low ∙ (λ k. sym is k ∷ drop (one k) rows) in
    let T = line_text (row_line r) in
    let L = lines_text (map row_line (drop (i + 1) rows)) in
    ap (λ l. l ++ L) wrote ∙ append_assoc old T L ∙ ap (λ us. old ++ lines_text (map row_line us)) (sym cut) ∙ so

-- it is in range, as those before it
pub range-more : (rows : List Row) (i : ℕ) (r : Row) → i < length rows → r ≡ get_or rows i r →
    (r.values ≢ [] → IsRowInRange r) → ((k : ℕ) (q : Row) → k < i → slice_get rows k ≡ Some q →
    q.values ≢ [] → IsRowInRange q) →
    (k : ℕ) (q : Row) → k < i + 1 → slice_get rows k ≡ Some q → q.values ≢ [] → IsRowInRange q
range-more rows i r low is here before k q lt e = by (cases_lt k i)
  where
    at : slice_get rows i ≡ Some r
    at = slice_get-get_or rows i r low ∙ ap (λ v. Some v) (sym is)

    by : (k < i) ⊎ (i ≤ k) → q.values ≢ [] → IsRowInRange q
    by (inl less) = before k q less e
    by (inr ge) =
        let same : k ≡ i = omega arith in
        let P : ℕ → Type 0 = λ v. slice_get rows v ≡ Some q in
        let there = subst P same e in
        let here_too = at in
        let equal : r ≡ q = cc in
        let Q : Row → Type 0 = λ v. v.values ≢ [] → IsRowInRange v in
        subst Q equal here

pub range-all : (rows : List Row) (i : ℕ) → length rows ≤ i → ((k : ℕ) (q : Row) → k < i →
    slice_get rows k ≡ Some q → q.values ≢ [] → IsRowInRange q) → EachRow (λ r. r.values ≢ [] →
    IsRowInRange r) rows
range-all rows i all each k r e = each k r (let n = slice_get_within rows k r e in omega arith) e

-- the lines of rows in order, and the end
abbrev Ascend : List Row → Type 0
Ascend rows = (j k : ℕ) (q r : Row) → j < k → slice_get rows j ≡ Some q → slice_get rows k ≡ Some r → IsRowBefore q r

lines-behind : (q : Row) (rows : List Row) → Ascend (q ∷ rows) → EachRow IsRowInRange rows → AreLines (Some (row_line q)) (map row_line rows ++ end_line ∷ [])
lines-behind q [] up each = (tt, tt, tt)
lines-behind q (r ∷ rows) up each =
    (up 0 1 q r (omega arith) refl refl, each 0 r refl, lines-behind r rows (λ j k a b lt. up (suc j) (suc k) a b (omega arith)) (λ k. each (suc k)))

rows-lines : (c : Cause) (rows : List Row) → Ascend rows → EachRow IsRowInRange rows → AreLines (Some (cause_line c)) (map row_line rows ++ end_line ∷ [])
rows-lines c [] up each = (tt, tt, tt)
rows-lines c (r ∷ rows) up each = (tt, each 0 r refl, lines-behind r rows up (λ k. each (suc k)))

pub denial-lines : (d : Denial) → AreNumbers d.path → AreInOrder d.rows → EachRow (λ r. r.values ≢ [] → IsRowInRange r) d.rows → AreLines None (lines_of_denial d)
denial-lines d path order each =
    (tt, tt, (tt, path, (tt, tt, rows-lines d.cause d.rows order.ascend (λ k r e. each k r e (order.some k r e)))))

pub denial-written : (d : Denial) (t1 t2 t3 : List ℕ) →
    t1 ≡ lines_text (head_lines d.path d.cause) → t2 ≡ t1 ++ lines_text (map row_line d.rows) →
    t3 ≡ t2 ++ codes "end\n" → t3 ≡ lines_text (lines_of_denial d)
denial-written d t1 t2 t3 e1 e2 e3 =
    let head = head_lines d.path d.cause in
    let rows = map row_line d.rows in
    let behind : lines_text (head ++ (rows ++ end_line ∷ [])) ≡ lines_text head ++ (lines_text rows ++ codes "end\n") =
    text-append head (rows ++ end_line ∷ []) ∙ ap (λ l. lines_text head ++ l) (text-append rows (end_line ∷ [])) in
    let f2 = e2 ∙ ap (λ l. l ++ lines_text rows) e1 in
    e3 ∙ ap (λ l. l ++ codes "end\n") f2 ∙ append_assoc (lines_text head) (lines_text rows) (codes "end\n") ∙ sym behind
