-- The reply to `verdicts`, list by list.
use Rattle.std.proofs.Common.{List, [], ap, append_assoc, append-nil, arith, codes, decimal, length, refl, subst, suc, sym, take, ℕ, ◌+◌, ◌++◌, ◌≤◌, ◌∙◌, ◌∷◌, ◌≡◌}
use Rattle.std.proofs.lemmas.Grind.{common_steps}
use Rattle.std.proofs.lemmas.List.{length-append}
use Rattle.pv_cache.specs.LaidMarks.{lists_in, lists_in_all}
use Rattle.pv_cache.specs.Rows.{AreRows, row_at, rows_at, rows_from, rows_of}
use Rattle.pv_cache.specs.Stamps.{stamps_of}
use Rattle.pv_cache.specs.WellMarked.{IsWellMarked}
use Rattle.pv_cache.proofs.ToldRows.{told_rows}
use Rattle.pv_edit.specs.declared.answers.VerdictRow.{VerdictRow}
use Rattle.pv_script.specs.Commands.{SpellsCommand}
use Rattle.pv_words.specs.Paths.{path_text, places_text}
use Rattle.pv_script.specs.Replies.{reply_bytes, row_lines, row_text}
use Rattle.pv_words.specs.Words.{with_feed}
use Rattle.pv_script.specs.declared.commands.Command.TheVariants.{Verdicts as tells_verdicts}
use Rattle.pv_script.specs.declared.replies.Reply.TheVariants.{Verdicts}
use Rattle.pv_session.specs.Sessions.{PlainSession}
use Rattle.pv_tree.specs.Plain.{Forest, PlainDoc, Tree, cdata_node, element, misc_node, no_trees, nodes_in, nodes_in_all, text_node, tree}
use Rattle.pv_tree.specs.declared.nodes.Mark.{Mark}
use Rattle.pv_conversation.specs.Conversation.{IsReplyText, replied, without_memory}
use Rattle.pv_conversation.specs.CountedLines.{counted, counts_nothing}
use Rattle.pv_conversation.specs.Session.{known}
use Rattle.pv_conversation.specs.VerdictLines.{IsVerdictsText, has_rows, lacks_memory, verdict_line, verdict_lines, verdict_lines_from, verdicts_head, verdicts_text}

-- ---- how many
mutual
  pub lists_few : (t : Tree Mark) → lists_in t ≤ nodes_in t
  lists_few (element x a e ks m) = let h = lists_within ks in omega arith
  lists_few (text_node us) = omega arith
  lists_few (cdata_node b) = omega arith
  lists_few (misc_node b) = omega arith

  pub lists_within : (ks : Forest Mark) → lists_in_all ks ≤ nodes_in_all ks
  lists_within no_trees = omega arith
  lists_within (tree t rest) = let h = lists_few t in let k = lists_within rest in omega arith

mutual
  rows_number : (path : List ℕ) (t : Tree Mark) → length (rows_at path t) ≡ lists_in t
  rows_number path (element x a e ks m) = ap suc (rows_numbers path 0 ks)
  rows_number path (text_node us) = refl
  rows_number path (cdata_node b) = refl
  rows_number path (misc_node b) = refl

  rows_numbers : (path : List ℕ) (i : ℕ) (ks : Forest Mark) → length (rows_from path i ks) ≡ lists_in_all ks
  rows_numbers path i no_trees = refl
  rows_numbers path i (tree t rest) =
      length-append (rows_at (path ++ i ∷ []) t) (rows_from path (suc i) rest) ∙ ap (λ n. n + length (rows_from path (suc i) rest)) (rows_number (path ++ i ∷ []) t)
      ∙ ap (λ n. lists_in t + n) (rows_numbers path (suc i) rest)

-- ---- what they say
row_line : (path : List ℕ) (m : Mark) → with_feed (row_text (row_at path m)) ≡ verdict_line (path_text path) m
row_line path m = grind (arith, common_steps)

places_more : (ps : List ℕ) (i : ℕ) → places_text (ps ++ i ∷ []) ≡ places_text ps ++ (codes "." ++ decimal i)
places_more [] i = grind (arith, common_steps)
places_more (p ∷ ps) i = grind (arith, common_steps, places_more ps i)

kid_path : (p : ℕ) (ps : List ℕ) (i : ℕ) → path_text (p ∷ ps ++ i ∷ []) ≡ path_text (p ∷ ps) ++ (codes "." ++ decimal i)
kid_path p ps i = ap (λ t. decimal p ++ t) (places_more ps i) ∙ sym (append_assoc (decimal p) (places_text ps) (codes "." ++ decimal i))

row_lines_joined : (rows more : List VerdictRow) → row_lines (rows ++ more) ≡ row_lines rows ++ row_lines more
row_lines_joined [] more = refl
row_lines_joined (row ∷ rows) more = ap (λ t. with_feed (row_text row) ++ t) (row_lines_joined rows more) ∙ sym (append_assoc (with_feed (row_text row)) (row_lines rows) (row_lines more))

mutual
  lines_of_rows : (p : ℕ) (ps : List ℕ) (t : Tree Mark) → row_lines (rows_at (p ∷ ps) t) ≡ verdict_lines (path_text (p ∷ ps)) t
  lines_of_rows p ps (element x a e ks m) =
      ap (λ line. line ++ row_lines (rows_from (p ∷ ps) 0 ks)) (row_line (p ∷ ps) m) ∙ ap (λ rest. verdict_line (path_text (p ∷ ps)) m ++ rest) (lines_of_all p ps 0 ks)
  lines_of_rows p ps (text_node us) = refl
  lines_of_rows p ps (cdata_node b) = refl
  lines_of_rows p ps (misc_node b) = refl

  lines_of_all : (p : ℕ) (ps : List ℕ) (i : ℕ) (ks : Forest Mark) → row_lines (rows_from (p ∷ ps) i ks) ≡ verdict_lines_from (path_text (p ∷ ps)) i ks
  lines_of_all p ps i no_trees = refl
  lines_of_all p ps i (tree t rest) =
      row_lines_joined (rows_at (p ∷ ps ++ i ∷ []) t) (rows_from (p ∷ ps) (suc i) rest)
      ∙ ap (λ lines. lines ++ row_lines (rows_from (p ∷ ps) (suc i) rest)) (lines_of_rows p (ps ++ i ∷ []) t ∙ ap (λ path. verdict_lines path t) (kid_path p ps i))
      ∙ ap (λ lines. verdict_lines (path_text (p ∷ ps) ++ (codes "." ++ decimal i)) t ++ lines) (lines_of_all p ps (suc i) rest)

pub verdicts_told : (doc : PlainDoc Mark) → verdicts_text doc ≡ reply_bytes (Verdicts (rows_of doc))
verdicts_told doc =
    let path : decimal 0 ≡ path_text (0 ∷ []) = sym (append-nil (decimal 0)) in
    ap (λ n. verdicts_head (suc n) ++ (verdict_line (codes ".") doc.mark ++ verdict_lines (decimal 0) doc.root)) (sym (rows_number (0 ∷ []) doc.root))
    ∙ ap (λ lines. verdicts_head (length (rows_of doc)) ++ lines)
    (ap (λ line. line ++ verdict_lines (decimal 0) doc.root) (sym (row_line [] doc.mark))
    ∙ ap (λ rest. with_feed (row_text (row_at [] doc.mark)) ++ rest)
    (ap (λ h. verdict_lines h doc.root) path ∙ sym (lines_of_rows 0 [] doc.root)))

-- ---- of a session's document
pub told_text : (s : PlainSession) (doc : PlainDoc Mark) → stamps_of doc ≡ s.doc → ∥ IsWellMarked s.dtd s.root doc ∥₁ → IsVerdictsText s (verdicts_text doc)
told_text s doc same marked =
    has_rows (rows_of doc) (subst (λ (d : PlainDoc ℕ). AreRows
    (record { dtd = s.dtd; root = s.root; doc = d }) (rows_of doc)) same
    (told_rows s.dtd s.root doc marked (rows_of doc) refl)) (verdicts_told doc)

-- ---- as a reply to a line
pub is_reply_text : (s : PlainSession) (n : ℕ) (line text : List ℕ) → SpellsCommand line tells_verdicts → IsVerdictsText s text → IsReplyText (counted s n) line (counted s n) text
is_reply_text s n line text spells (has_rows rows are is) = replied (Verdicts rows) (known tells_verdicts spells (rows, refl, are, refl)) is (counts_nothing refl)
is_reply_text s n line text spells (lacks_memory is) = without_memory refl is (counts_nothing refl)

-- ---- nodes side by side, one after the other
pub lines_step : (path : List ℕ) (i : ℕ) (ks rest : Forest Mark) (t : Tree Mark) → ks ≡ tree t rest →
    verdict_lines_from path i ks ≡ verdict_lines (path ++ (codes "." ++ decimal i)) t ++ verdict_lines_from path (i + 1) rest
lines_step path i ks rest t e = let n : i + 1 ≡ suc i = omega arith in rw (e, n) refl

-- a path without what was put after it
pub path_kept : (path more : List ℕ) (n : ℕ) → n ≡ length path → take n (path ++ more) ≡ path
path_kept path more n is = grind (arith, common_steps)

-- a place takes a dot and its digits
pub place_size : (path line : List ℕ) (i : ℕ) → line ≡ (path ++ codes ".") ++ decimal i → length (decimal i) ≤ 20 → length line ≤ length path + 21
place_size path line i is few =
    let whole = ap length is ∙ length-append (path ++ codes ".") (decimal i) in
    let front = length-append path (codes ".") in
    omega (arith, whole, front, few)
