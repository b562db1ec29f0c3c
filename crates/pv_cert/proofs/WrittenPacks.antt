-- What is written of a pack.
use Rattle.std.proofs.Common.{◌≡◌, ◌<◌, ℕ, ◌+◌, suc, List, [], ◌∷◌, ◌++◌, map, length, drop, get_or, sym, ap, ◌∙◌, append_assoc, codes, decimal, arith, drop-cons}
use Rattle.pv_words.specs.Words.{with_feed}
use Rattle.pv_tables.specs.declared.tables.Table.{Table}
use Rattle.pv_cert.specs.Lines.{body_line, end_line, line_text, mark_line}
use Rattle.pv_cert.specs.Packs.{lines_of_pack, lines_of_table, lines_text, table_lines}
use Rattle.pv_cert.specs.declared.packs.Pack.{Pack}
use Rattle.pv_cert.proofs.LineSequences.{text-append}

pub tables_text : (t : Table) (ts : List Table) → lines_text (table_lines (t ∷ ts)) ≡ lines_text (lines_of_table t) ++ lines_text (table_lines ts)
tables_text t ts = text-append (lines_of_table t) (table_lines ts)

-- one table more is written
pub table-written : (ts : List Table) (i : ℕ) (t : Table) (old new all : List ℕ) → i < length ts → t ≡ get_or ts i t → new ≡ old ++ lines_text (lines_of_table t) →
    old ++ lines_text (table_lines (drop i ts)) ≡ all → new ++ lines_text (table_lines (drop (i + 1) ts)) ≡ all
table-written ts i t old new all low is wrote so =
    let one : suc i ≡ i + 1 = omega arith in
    let cut : drop i ts ≡ t ∷ drop (i + 1) ts = drop-cons ts i t low ∙ (λ k. sym is k ∷ drop (one k) ts) in
    let T = lines_text (lines_of_table t) in
    let L = lines_text (table_lines (drop (i + 1) ts)) in
    ap (λ l. l ++ L) wrote ∙ append_assoc old T L ∙ ap (λ l. old ++ l) (sym (tables_text t (drop (i + 1) ts))) ∙ ap (λ us. old ++ lines_text (table_lines us)) (sym cut) ∙ so

regroup : (v t m b s e : List ℕ) → ((((v ++ t) ++ m) ++ b) ++ s) ++ e ≡ v ++ (t ++ (m ++ (b ++ (s ++ e))))
regroup v t m b s e = simp append_assoc

spelled : (pack : Pack) → lines_text (lines_of_pack pack) ≡ codes "pvpack 1\n"
    ++ (with_feed (codes "total " ++ decimal pack.total) ++ (lines_text (map mark_line pack.marks)
    ++ (line_text (body_line pack.body) ++ (lines_text (table_lines pack.tables) ++ codes "end\n"))))
spelled pack =
    let tail = table_lines pack.tables ++ end_line ∷ [] in
    let behind : lines_text tail ≡ lines_text (table_lines pack.tables) ++ codes "end\n" = text-append (table_lines pack.tables) (end_line ∷ []) in
    let whole : lines_text (map mark_line pack.marks ++ (body_line pack.body ∷ tail)) ≡ lines_text
    (map mark_line pack.marks) ++ (line_text (body_line pack.body)
    ++ (lines_text (table_lines pack.tables) ++ codes "end\n")) =
    text-append (map mark_line pack.marks) (body_line pack.body ∷ tail) ∙ ap (λ l. lines_text (map mark_line pack.marks) ++ (line_text (body_line pack.body) ++ l)) behind in
    ap (λ l. codes "pvpack 1\n" ++ (with_feed (codes "total " ++ decimal pack.total) ++ l)) whole

pub pack-written : (pack : Pack) (t1 t2 t3 t4 t5 t6 : List ℕ) → t1 ≡ codes "pvpack 1\n" →
    t2 ≡ t1 ++ with_feed (codes "total " ++ decimal pack.total) →
    t3 ≡ t2 ++ lines_text (map mark_line pack.marks) →
    t4 ≡ t3 ++ line_text (body_line pack.body) → t5 ≡ t4 ++ lines_text (table_lines pack.tables) → t6 ≡ t5 ++ codes "end\n" → t6 ≡ lines_text (lines_of_pack pack)
pack-written pack t1 t2 t3 t4 t5 t6 e1 e2 e3 e4 e5 e6 =
    let t = with_feed (codes "total " ++ decimal pack.total) in
    let m = lines_text (map mark_line pack.marks) in
    let b = line_text (body_line pack.body) in
    let s = lines_text (table_lines pack.tables) in
    let f2 = e2 ∙ ap (λ l. l ++ t) e1 in
    let f3 = e3 ∙ ap (λ l. l ++ m) f2 in
    let f4 = e4 ∙ ap (λ l. l ++ b) f3 in
    let f5 = e5 ∙ ap (λ l. l ++ s) f4 in
    e6 ∙ ap (λ l. l ++ codes "end\n") f5 ∙ regroup (codes "pvpack 1\n") t m b s (codes "end\n") ∙ sym (spelled pack)
