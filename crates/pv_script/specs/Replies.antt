-- The replies to a script's lines.
use Rattle.std.specs.Prelude.{ℕ, List, [], ◌∷◌, ◌++◌, length, codes, decimal}
use Rattle.pv_tree.specs.declared.nodes.Verdict.{Verdict}
use Rattle.pv_tree.specs.declared.nodes.Verdict.TheVariants.{Valid, Possible}
use Rattle.pv_tree.specs.declared.nodes.Verdict.TheVariants.{Impossible as impossible_list}
use Rattle.pv_edit.specs.declared.edits.Edit.{Edit}
use Rattle.pv_edit.specs.declared.answers.VerdictRow.{VerdictRow}
use Rattle.pv_edit.specs.declared.reasons.Reason.{Reason}
use Rattle.pv_edit.specs.declared.reasons.Reason.TheVariants.{NoNode, NotElement, NotText, Range}
use Rattle.pv_edit.specs.declared.reasons.Reason.TheVariants.{BadName, BadText, RootShape, Deep}
use Rattle.pv_edit.specs.declared.reasons.Reason.TheVariants.{CloseMark}
use Rattle.pv_script.specs.Edits.{edit_text}
use Rattle.pv_words.specs.Lines.{with_feeds}
use Rattle.pv_words.specs.Paths.{path_text}
use Rattle.pv_words.specs.Words.{counted_text, words, with_feed}
use Rattle.pv_script.specs.declared.replies.Reply.{Reply}
use Rattle.pv_script.specs.declared.replies.Reply.TheVariants as reply

-- the word of a reason to refuse an edit
abbrev pub reason_word : Reason → List ℕ
reason_word NoNode = codes "no-node"
reason_word NotElement = codes "not-element"
reason_word NotText = codes "not-text"
reason_word Range = codes "range"
reason_word BadName = codes "bad-name"
reason_word BadText = codes "bad-text"
reason_word RootShape = codes "root-shape"
reason_word Deep = codes "deep"
reason_word CloseMark = codes "close-mark"

abbrev pub verdict_word : Verdict → List ℕ
verdict_word Valid = codes "valid"
verdict_word Possible = codes "possible"
verdict_word impossible_list = codes "impossible"

-- each edit's line, with its LF
abbrev pub edit_lines : List Edit → List ℕ
edit_lines [] = []
edit_lines (edit ∷ edits) = with_feed (edit_text edit) ++ edit_lines edits

abbrev pub row_text : VerdictRow → List ℕ
row_text row = words (path_text row.path ∷ verdict_word row.verdict ∷ decimal row.stamp ∷ [])

abbrev pub row_lines : List VerdictRow → List ℕ
row_lines [] = []
row_lines (row ∷ rows) = with_feed (row_text row) ++ row_lines rows

-- the bytes of a reply; each of its lines ends with LF
abbrev pub reply_bytes : Reply → List ℕ
reply_bytes (reply.Okay done) =
    with_feed (words (codes "ok" ∷ decimal done.checked ∷ decimal done.left ∷
    decimal done.bad ∷ []))
reply_bytes (reply.Shape reason) = with_feed (words (codes "no shape" ∷ reason_word reason ∷ []))
reply_bytes (reply.Impossible path) =
    with_feed (words (codes "no impossible" ∷ path_text path ∷ []))
reply_bytes reply.NoHistory = with_feed (codes "no history")
reply_bytes reply.Limit = with_feed (codes "no limit")
reply_bytes reply.NoMemory = with_feed (codes "no memory")
reply_bytes reply.NoCommand = with_feed (codes "no command")
reply_bytes (reply.Need k) = with_feed (words (codes "need" ∷ decimal k ∷ []))
reply_bytes (reply.Wide path) = with_feed (words (codes "no wide" ∷ path_text path ∷ []))
reply_bytes reply.Heavy = with_feed (codes "no heavy")
reply_bytes (reply.Show bytes) = counted_text (codes "show") bytes
reply_bytes (reply.Completed k bytes) =
    with_feed (words (codes "completed" ∷ decimal k ∷ decimal (length bytes) ∷ [])) ++
    with_feed bytes
reply_bytes (reply.History edits) =
    with_feed (words (codes "history" ∷ decimal (length edits) ∷ [])) ++ edit_lines edits
reply_bytes (reply.Verdicts rows) =
    with_feed (words (codes "verdicts" ∷ decimal (length rows) ∷ [])) ++ row_lines rows
reply_bytes (reply.Offer names) =
    with_feed (words (codes "offer" ∷ decimal (length names) ∷ [])) ++ with_feeds names
