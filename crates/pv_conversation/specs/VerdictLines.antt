-- The reply to `verdicts`, list by list.
use Rattle.std.specs.Prelude.{◌≡◌, ℕ, suc, List, [], ◌∷◌, ◌++◌, codes, decimal}
use Rattle.pv_cache.specs.LaidMarks.{lists_in}
use Rattle.pv_cache.specs.Rows.{AreRows}
use Rattle.pv_edit.specs.declared.answers.VerdictRow.{VerdictRow}
use Rattle.pv_script.specs.Replies.{reply_bytes, verdict_word}
use Rattle.pv_words.specs.Words.{words, with_feed}
use Rattle.pv_script.specs.declared.replies.Reply.TheVariants.{NoMemory, Verdicts}
use Rattle.pv_session.specs.Sessions.{PlainSession, stamped_document}
use Rattle.pv_tree.specs.Plain.{Forest, PlainDoc, Tree, cdata_node, element, misc_node, no_trees}
use Rattle.pv_tree.specs.Plain.{text_node, tree}
use Rattle.pv_tree.specs.declared.nodes.Mark.{Mark}

-- the text of the reply to `verdicts`: what is known of each list, or that there was no memory
pub data IsVerdictsText (s : PlainSession) (text : List ℕ) : Type 0 where
  has_rows : (rows : List VerdictRow) → AreRows (stamped_document s) rows →
      text ≡ reply_bytes (Verdicts rows) → IsVerdictsText s text
  lacks_memory : text ≡ reply_bytes NoMemory → IsVerdictsText s text

-- what a mark tells after the path of its list, with the LF
abbrev pub mark_text : Mark → List ℕ
mark_text mark =
    codes " " ++ (verdict_word mark.verdict ++ (codes " " ++ (decimal mark.stamp ++ codes "\n")))

-- the line of a list whose path has this text
abbrev pub verdict_line : List ℕ → Mark → List ℕ
verdict_line path mark = path ++ mark_text mark

-- the lines of the lists of a tree whose path has this text
abbrev mutual
  pub verdict_lines : List ℕ → Tree Mark → List ℕ
  verdict_lines path (element x attrs ending kids mark) =
      verdict_line path mark ++ verdict_lines_from path 0 kids
  verdict_lines path (text_node units) = []
  verdict_lines path (cdata_node bytes) = []
  verdict_lines path (misc_node bytes) = []

  pub verdict_lines_from : List ℕ → ℕ → Forest Mark → List ℕ
  verdict_lines_from path i no_trees = []
  verdict_lines_from path i (tree t rest) =
      verdict_lines (path ++ (codes "." ++ decimal i)) t ++ verdict_lines_from path (suc i) rest

-- the line with the number of lists
abbrev pub verdicts_head : ℕ → List ℕ
verdicts_head count = with_feed (words (codes "verdicts" ∷ decimal count ∷ []))

-- the whole reply
abbrev pub verdicts_text : PlainDoc Mark → List ℕ
verdicts_text doc =
    verdicts_head (suc (lists_in doc.root)) ++
    (verdict_line (codes ".") doc.mark ++ verdict_lines (decimal 0) doc.root)
