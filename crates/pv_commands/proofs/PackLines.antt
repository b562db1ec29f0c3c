-- The lines of a pack whose numbers are in range and whose entries ascend.
use Rattle.std.proofs.Common.{List, Option, Some, None, [], append_assoc, arith, inl, inr, map, subst, suc, sym, zero, ℕ, ◌*◌, ◌+◌, ◌++◌, ◌/◌, ◌<◌, ◌∷◌, ◌≤◌, length}
use Rattle.std.specs.List.{All, AllByRecursion, AllPairs, Contains}
use Rattle.std.specs.Prelude.{IsSome, option_and_then, option_map, slice_get}
use Rattle.std.proofs.Math.Nat.{mul-le-mul}
use Rattle.std.proofs.lemmas.Bool.{cases_lt}
use Rattle.std.proofs.lemmas.List.Elements.{All-head, All-tail}
use Rattle.pv_model.specs.Plain.{PlainToken}
use Rattle.pv_dtd.specs.Plain.{PlainDtd}
use Rattle.pv_rules.specs.Derivations.{heaviest, most_missing}
use Rattle.pv_rules.specs.Numbering.{Numbered, numbered_models}
use Rattle.pv_rules.specs.PlainForms.{plain_site}
use Rattle.pv_rules.specs.Sites.{HasSite, PlainSite, content_site, name_site, part_site, rest_site}
use Rattle.pv_rules.proofs.Facts.{parts_by_number}
use Rattle.pv_tree.specs.Lists.{Listed, lists_at, lists_from, lists_of}
use Rattle.pv_tree.specs.Plain.{Forest, PlainDoc, Tree, cdata_node, element, misc_node, no_trees, nodes_in, nodes_in_all, text_node, tree}
use Rattle.pv_tree.proofs.JoinedLists.{all_joined, contains_cases}
use Rattle.pv_missing.specs.Widths.{FitsWeights, columns_of}
use Rattle.pv_tables.specs.Tables.{Precedes, site_number}
use Rattle.pv_tables.specs.declared.tables.Entry.{Entry}
use Rattle.pv_tables.specs.declared.tables.Table.{Table}
use Rattle.pv_table_check.specs.ClosedEntries.{IsEntryOver}
use Rattle.pv_table_check.specs.ClosedTables.{AreClosedTables, AreNarrowTables, IsClosedTable, IsNarrowTable}
use Rattle.pv_words.specs.Numbers.{AreNumbers, MAX_NUMBER}
use Rattle.pv_cert.specs.Lines.{IsEntryInRange, PackLine, body_line, end_line, entry_line, list_line, mark_line, total_line}
use Rattle.pv_cert.specs.Packs.{AreLines, IsMarkOrBody, MayFollow, lines_of_pack, table_lines}
use Rattle.pv_cert.specs.declared.packs.Pack.{Pack}

-- ---- one line after another
-- a mark or a body may stand after the line
abbrev AwaitsMarks : PackLine → Type 0
AwaitsMarks before = (line : PackLine) → IsMarkOrBody line → MayFollow (Some before) line

-- a table or the end may
record AwaitsTables (before : PackLine) : Type 0 where
  table : (path : List ℕ) → MayFollow (Some before) (list_line path)
  ends : MayFollow (Some before) end_line

-- the table can be written: its numbers are in range, and its entries ascend
record IsWritable (t : Table) : Type 0 where
  path : AreNumbers t.path
  entries : AllByRecursion IsEntryInRange t.entries
  ascend : AllPairs Precedes t.entries

first_pair : (e f : Entry) (es : List Entry) → AllPairs Precedes (e ∷ f ∷ es) → Precedes e f
first_pair e f es a = a 0 1 e (omega arith) (omega arith)

other_pairs : (e : Entry) (es : List Entry) → AllPairs Precedes (e ∷ es) → AllPairs Precedes es
other_pairs e es a i j d lt below = a (suc i) (suc j) d (omega arith) (omega arith)

behind_entry : (e : Entry) (es : List Entry) (rest : List PackLine) → AllPairs Precedes (e ∷ es) →
    AllByRecursion IsEntryInRange es →
    ((last : PackLine) → AwaitsTables last → AreLines (Some last) rest) →
    AreLines (Some (entry_line e)) (map entry_line es ++ rest)
behind_entry e [] rest a fit more = more (entry_line e) (record { table = λ path. tt; ends = tt })
behind_entry e (f ∷ es) rest a fit more =
    (first_pair e f es a, fit.0, behind_entry f es rest (other_pairs e (f ∷ es) a) fit.1 more)

in_table : (path : List ℕ) (es : List Entry) (rest : List PackLine) → AllPairs Precedes es →
    AllByRecursion IsEntryInRange es →
    ((last : PackLine) → AwaitsTables last → AreLines (Some last) rest) →
    AreLines (Some (list_line path)) (map entry_line es ++ rest)
in_table path [] rest a fit more = more (list_line path) (record { table = λ other. tt; ends = tt })
in_table path (e ∷ es) rest a fit more = (tt, fit.0, behind_entry e es rest a fit.1 more)

tables_follow : (ts : List Table) (before : PackLine) → AwaitsTables before →
    AllByRecursion IsWritable ts → AreLines (Some before) (table_lines ts ++ end_line ∷ [])
tables_follow [] before waits fit = (waits.ends, tt, tt)
tables_follow (t ∷ ts) before waits fit = (
  waits.table t.path,
  fit.0.path,
  subst (AreLines (Some (list_line t.path)))
      (sym (append_assoc (map entry_line t.entries) (table_lines ts) (end_line ∷ [])))
      (in_table t.path t.entries (table_lines ts ++ end_line ∷ []) fit.0.ascend fit.0.entries
      (λ last more. tables_follow ts last more fit.1)),
)

marks_follow : (ms : List ℕ) (before : PackLine) (body : List ℕ) (rest : List PackLine) →
    AwaitsMarks before → AreNumbers ms → AreLines (Some (body_line body)) rest →
    AreLines (Some before) (map mark_line ms ++ (body_line body ∷ rest))
marks_follow [] before body rest waits fit more = (waits (body_line body) tt, tt, more)
marks_follow (m ∷ ms) before body rest waits fit more = (
  waits (mark_line m) tt,
  fit.0,
  marks_follow ms (mark_line m) body rest (λ line is. is) fit.1
      more,
)

lines_follow : (pack : Pack) → pack.total ≤ most_missing → AreNumbers pack.marks →
    AllByRecursion IsWritable pack.tables → AreLines None (lines_of_pack pack)
lines_follow pack few marks tables = (
  tt,
  tt,
  (
    tt,
    few,
    marks_follow pack.marks (total_line pack.total) pack.body
        (table_lines pack.tables ++ end_line ∷ []) (λ line is. is) marks
        (tables_follow pack.tables (body_line pack.body) (record { table = λ path. tt; ends = tt })
        tables),
  ),
)

-- ---- the numbers of entries
some_number : {A B : Type 0} (f : A → B) (xs : List A) (q : ℕ) →
    IsSome (option_map f (slice_get xs q)) → q < length xs
some_number f [] q h = absurd cc
some_number f (x ∷ xs) zero h = omega arith
some_number f (x ∷ xs) (suc q) h = let n = some_number f xs q h in omega arith

some_number_then : {A B : Type 0} (f : A → Option B) (xs : List A) (q : ℕ) →
    IsSome (option_and_then f (slice_get xs q)) → q < length xs
some_number_then f [] q h = absurd cc
some_number_then f (x ∷ xs) zero h = omega arith
some_number_then f (x ∷ xs) (suc q) h = let n = some_number_then f xs q h in omega arith

-- the number of a site is below that of the columns
site_below : (g : PlainDtd) (s : PlainSite) → HasSite g s → site_number s < columns_of g
site_below g (name_site x) has = omega (arith, has)
site_below g (content_site x) has = omega (arith, has)
site_below g (part_site q) has =
    let n = some_number (λ (p : Numbered). p.self) (numbered_models g.models) q has in
    let c = (parts_by_number g).counted in omega arith
site_below g (rest_site q) has =
    let n = some_number_then (λ (p : Numbered). p.rest) (numbered_models g.models) q has in
    let c = (parts_by_number g).counted in omega arith

-- a word that isn't too wide for weights, under a DTD with columns, is short, and so are they
short_word : (g : PlainDtd) (n : ℕ) → FitsWeights g n → 0 < columns_of g → n ≤ MAX_NUMBER
short_word g n f some = elim (cases_lt n 8192) [
  | inl lt ↦ omega arith
  | inr ge ↦ absurd (
      let a : 8193 * 8194 ≤ suc n * suc (suc n) =
      mul-le-mul {n₁ = 8193} {m₁ = 8194} {n₂ = suc n} {m₂ = suc (suc n)} (omega arith)
      (omega arith) in
      let b : 33566721 * 1 ≤ suc n * suc (suc n) / 2 * columns_of g =
      mul-le-mul {n₁ = 33566721} {m₁ = 1} {n₂ = suc n * suc (suc n) / 2} {m₂ = columns_of g}
      (omega arith) some in
      omega arith
      )
]

few_columns : (g : PlainDtd) (n : ℕ) → FitsWeights g n → columns_of g ≤ MAX_NUMBER
few_columns g n f =
    let a : 1 * 2 ≤ suc n * suc (suc n) =
    mul-le-mul {n₁ = 1} {m₁ = 2} {n₂ = suc n} {m₂ = suc (suc n)} (omega arith) (omega arith) in
    let c : columns_of g ≤ columns_of g = omega arith in
    let b : 1 * columns_of g ≤ suc n * suc (suc n) / 2 * columns_of g =
    mul-le-mul {n₁ = 1} {m₁ = columns_of g} {n₂ = suc n * suc (suc n) / 2} {m₂ = columns_of g}
    (omega arith) c in
    omega arith

entry_in_range : (g : PlainDtd) (w : List PlainToken) (e : Entry) → FitsWeights g (length w) →
    IsEntryOver g w e → IsEntryInRange e
entry_in_range g w e fits o =
    let below = site_below g (plain_site e.site) o.is_site in
    let columns = few_columns g (length w) fits in
    let short = short_word g (length w) fits (omega arith) in
    let span = o.is_span in
    let le = span.0 in
    let within = span.1 in
    let light = o.light in
    record { number = omega arith; from = omega arith; to = omega arith; value = omega arith }

entries_in_range : (g : PlainDtd) (w : List PlainToken) (es : List Entry) →
    FitsWeights g (length w) → All (IsEntryOver g w) es → AllByRecursion IsEntryInRange es
entries_in_range g w [] fits all = tt
entries_in_range g w (e ∷ es) fits all = (
  entry_in_range g w e fits (All-head (IsEntryOver g w) e es all),
  entries_in_range g w es fits
      (All-tail (IsEntryOver g w) e es all),
)

-- ---- the numbers of paths
abbrev AreUpTo : ℕ → List ℕ → Type 0
AreUpTo n path = AllByRecursion (λ i. i ≤ n) path

some_node : {M : Type 0} (t : Tree M) → 1 ≤ nodes_in t
some_node (element x a e k m) = omega arith
some_node (text_node us) = omega arith
some_node (cdata_node b) = omega arith
some_node (misc_node b) = omega arith

mutual
  paths_at : {M : Type 0} (n : ℕ) (path : List ℕ) (t : Tree M) → AreUpTo n path → nodes_in t ≤ n →
      AllByRecursion (λ (l : Listed M). AreUpTo n l.path) (lists_at path t)
  paths_at n path (element x a e k m) fit few = (fit, paths_from n path 0 k fit (omega arith))
  paths_at n path (text_node us) fit few = tt
  paths_at n path (cdata_node b) fit few = tt
  paths_at n path (misc_node b) fit few = tt

  paths_from : {M : Type 0} (n : ℕ) (path : List ℕ) (i : ℕ) (kids : Forest M) → AreUpTo n path →
      i + nodes_in_all kids ≤ n →
      AllByRecursion (λ (l : Listed M). AreUpTo n l.path) (lists_from path i kids)
  paths_from n path i no_trees fit few = tt
  paths_from n path i (tree t rest) fit few =
      let one = some_node t in
      all_joined (λ (l : Listed _). AreUpTo n l.path) (lists_at (path ++ i ∷ []) t)
      (lists_from path (suc i) rest)
      (paths_at n (path ++ i ∷ []) t (all_joined (λ k. k ≤ n) path (i ∷ []) fit (omega arith, tt))
      (omega arith)) (paths_from n path (suc i) rest fit (omega arith))

contained : {A : Type 0} (P : A → Type 0) (xs : List A) (x : A) → AllByRecursion P xs →
    Contains xs x → P x
contained P [] x all c = absurd (let lt = c.1 in omega arith)
contained P (y ∷ ys) x all c = elim (contains_cases y ys x c) [
  | inl same ↦ subst P same all.0
  | inr later ↦ contained P ys x all.1 later
]

module _ {M : Type 0} (g : PlainDtd) (root : List ℕ) (doc : PlainDoc M)
    (few : nodes_in doc.root ≤ MAX_NUMBER) where
  path_in_range : (list : Listed M) → Contains (lists_of doc) list → AreNumbers list.path
  path_in_range list c =
      contained (λ (l : Listed M). AreNumbers l.path) (lists_of doc) list
      (tt, paths_at MAX_NUMBER (0 ∷ []) doc.root (omega arith, tt) few) c

  is_writable : (t : Table) → IsClosedTable g root (lists_of doc) t →
      IsNarrowTable g (lists_of doc) t → IsWritable t
  is_writable t closed narrow = record {
    path = subst AreNumbers (sym closed.is_path) (path_in_range closed.list closed.is_listed);
    entries = entries_in_range g _ t.entries (narrow closed.list closed.is_listed closed.is_path)
        closed.over.each;
    ascend = closed.over.ascend;
  }

  are_writable : (ts : List Table) → All (IsClosedTable g root (lists_of doc)) ts →
      All (IsNarrowTable g (lists_of doc)) ts → AllByRecursion IsWritable ts
  are_writable [] closed narrow = tt
  are_writable (t ∷ ts) closed narrow = (
    is_writable t (All-head (IsClosedTable g root (lists_of doc)) t ts closed)
        (All-head (IsNarrowTable g (lists_of doc)) t ts narrow),
    are_writable ts (All-tail (IsClosedTable g root (lists_of doc)) t ts closed)
        (All-tail (IsNarrowTable g (lists_of doc)) t ts narrow),
  )

  -- the lines of a pack of closed tables, none of a list that is too wide
  pub pack_lines : (pack : Pack) → pack.total < heaviest → AreNumbers pack.marks →
      AreClosedTables g root (lists_of doc) pack.tables →
      AreNarrowTables g (lists_of doc) pack.tables → AreLines None (lines_of_pack pack)
  pack_lines pack light marks closed narrow =
      lines_follow pack (omega (arith, light)) marks (are_writable pack.tables closed.each narrow)
