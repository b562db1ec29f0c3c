-- Over given files a session begins in one state, and over a given script and silent lines it has one response, but for the documents of completions.
use Rattle.std.proofs.Common.{◌≡◌, ℕ, ◌<◌, ◌++◌, Bool, List, codes, decimal, length, sym, ap, ◌∙◌, subst, arith}
use Rattle.pv_dtd.specs.Plain.{PlainDtd}
use Rattle.pv_tree.specs.Marks.{unmarked_doc}
use Rattle.pv_read.specs.DocumentLaws.{SpellsOneDocument}
use Rattle.pv_words.specs.Lines.{lines_of}
use Rattle.pv_words.specs.Words.{with_feed}
use Rattle.pv_session.specs.Sessions.{PlainSession, session_on}
use Rattle.pv_opening.specs.declared.status.Status.TheVariants.{Done, Limit}
use Rattle.pv_conversation.specs.Alike.{OutputsAlike, ResponsesAlike}
use Rattle.pv_opening.specs.Course.{Course, RunEnding, responds}
use Rattle.pv_opening.specs.Documents.{PlainOpened}
use Rattle.pv_opening.specs.Possibility.{width_stage}
use Rattle.pv_opening.specs.Response.{PlainResponse}
use Rattle.pv_conversation.specs.Script.{MAX_SCRIPT_BYTES, IsWithin, lines_within}
use Rattle.pv_conversation.specs.Session.{Converses, EndsSession, IsSessionCourse, Place, Replies, at_line, at_quit, beginning_stage, ended_over}
use Rattle.pv_conversation.specs.Session.{finished, guarding_stage, input_failed, limited, output_failed, past_line, past_script, quitted}
use Rattle.pv_conversation.specs.Session.{without_room}
use Rattle.pv_words.proofs.RawLines.{cut_of}
use Rattle.pv_conversation.proofs.ContinuedScripts.{lines_and_last}
use Rattle.pv_conversation.proofs.Likeness.{alike_behind, endings_alike, one_response_alike}
use Rattle.pv_opening.proofs.OnePossibility.{width_sure}
use Rattle.pv_opening.proofs.OneOpening.{AreSameOpened, AreSure, IsEqual, RunsAs, followed_sure, one_like, reading_sure, unmarked_same}
use Rattle.pv_conversation.proofs.OneReplies.{AnswersOnce, one_replies}
use Rattle.pv_conversation.proofs.Replies.{ends_at_quit}

-- beginning a session on documents with one text
beginning_sure : SpellsOneDocument → (root : List ℕ) (x z : PlainOpened) → AreSameOpened x z → AreSure (beginning_stage root x.dtd x.doc) (beginning_stage root z.dtd z.doc) IsEqual
beginning_sure one root x z same =
    let alike = unmarked_same one x.doc z.doc same.docs in
    reading_sure (λ s. s ≡ session_on x.dtd root (unmarked_doc x.doc)) (λ s. s ≡ session_on z.dtd root (unmarked_doc z.doc)) (λ r. ⊥) (λ r. ⊥) IsEqual
    (λ s r begins never. never) (λ s r never begins. never) (λ r also never too. absurd never)
    (λ s t begins others. begins ∙ ap (λ (g : PlainDtd). session_on g root (unmarked_doc x.doc)) same.dtds ∙ ap (session_on z.dtd root) alike ∙ sym others)

pub guarding_sure : SpellsOneDocument → (root : List ℕ) (x z : PlainOpened) → AreSameOpened x z → AreSure (guarding_stage root x.dtd x.doc) (guarding_stage root z.dtd z.doc) IsEqual
guarding_sure one root x z same =
    let alike = unmarked_same one x.doc z.doc same.docs in
    let narrow : AreSure (width_stage x.dtd x.doc) (width_stage z.dtd z.doc) IsEqual =
    subst (λ (g : PlainDtd). AreSure (width_stage x.dtd x.doc) (width_stage g z.doc) IsEqual) same.dtds (width_sure x.dtd x.doc z.doc alike) in
    followed_sure (width_stage x.dtd x.doc) (width_stage z.dtd z.doc) IsEqual (λ _. beginning_stage root x.dtd x.doc) (λ _. beginning_stage root z.dtd z.doc) IsEqual narrow
    (λ u v is. beginning_sure one root x z same)

-- the replies up to a `quit` are those to all lines
pub quit_on : (session : PlainSession) (script silent out : List ℕ) → IsWithin script → Replies silent 1 session (lines_within script) out at_quit →
    Replies silent 1 session (lines_of script) out at_quit
quit_on session script silent out within replies =
    let rest = lines_of (cut_of script).part in
    rw (lines_and_last script within) (ends_at_quit silent 1 session (lines_within script) rest out replies)

-- a `quit` and the next line of a limit aren't reached both
quit_or_line : AnswersOnce → (session : PlainSession) (script silent out also : List ℕ) (number : ℕ) (after : PlainSession) →
    Replies silent 1 session (lines_within script) out at_quit → Replies silent 1 session (lines_within script) also (at_line number after) → ⊥
quit_or_line once session script silent out also number after quits goes =
    let same = (one_replies once silent 1 session (lines_within script) out also at_quit (at_line number after) quits goes).1 in cc

pub within_or_past : (script : List ℕ) → IsWithin script → MAX_SCRIPT_BYTES < length script → ⊥
within_or_past script within beyond = omega (arith, within.whole, beyond)

one_output : AnswersOnce → (session : PlainSession) (lines : List (List ℕ)) (silent out also : List ℕ) (place spot : Place) →
    Replies silent 1 session lines out place → Replies silent 1 session lines also spot → OutputsAlike out also × (place ≡ spot)
one_output once session lines silent out also place spot here there = one_replies once silent 1 session lines out also place spot here there

line_number : (number other : ℕ) (after later : PlainSession) → at_line number after ≡ at_line other later → number ≡ other
line_number number other after later is = cc

one_session : AnswersOnce → (session : PlainSession) (script silent : List ℕ) (a b : Bool) (ending other : RunEnding) (r also : PlainResponse) → ending ≡ responds r → other ≡ responds also →
    EndsSession session script silent a ending → EndsSession session script silent b other → ResponsesAlike r also
one_session once session script silent a b ending other r also at on (input_failed o n s w p is) there = cc
one_session once session script silent a b ending other r also at on (output_failed l m o pl e p is) there = cc
one_session once session script silent a b ending other r also at on here (input_failed o n s w p is) = cc
one_session once session script silent a b ending other r also at on here (output_failed l m o pl e p is) = cc
one_session once session script silent a b ending other r also at on (finished o p e w replies is) (finished q s f v others are) =
    endings_alike Done o q ending other r also at on is are (one_output once session (lines_of script) silent o q p s replies others).0
one_session once session script silent a b ending other r also at on (finished o p e w replies is) (quitted q others are) =
    endings_alike Done o q ending other r also at on is are (one_output once session (lines_of script) silent o q p at_quit replies (quit_on session script silent q w others)).0
one_session once session script silent a b ending other r also at on (finished o p e w replies is) (past_line q n s long others are) = let none = w.lines in cc
one_session once session script silent a b ending other r also at on (finished o p e w replies is) (past_script q n s none beyond others are) = absurd (within_or_past script w beyond)
one_session once session script silent a b ending other r also at on (quitted o replies is) (finished q s f v others are) =
    endings_alike Done o q ending other r also at on is are (one_output once session (lines_of script) silent o q at_quit s (quit_on session script silent o v replies) others).0
one_session once session script silent a b ending other r also at on (quitted o replies is) (quitted q others are) =
    endings_alike Done o q ending other r also at on is are (one_output once session (lines_within script) silent o q at_quit at_quit replies others).0
one_session once session script silent a b ending other r also at on (quitted o replies is) (past_line q n s long others are) = absurd (quit_or_line once session script silent o q n s replies others)
one_session once session script silent a b ending other r also at on (quitted o replies is)
    (past_script q n s none beyond others are) = absurd (quit_or_line once session script silent o q
    n s replies others)
one_session once session script silent a b ending other r also at on (past_line o n s long replies is) (finished q p f v others are) = let none = v.lines in cc
one_session once session script silent a b ending other r also at on (past_line o n s long replies is) (quitted q others are) = absurd (quit_or_line once session script silent q o n s others replies)
one_session once session script silent a b ending other r also at on (past_line o n s long replies is) (past_line q m t still others are) =
    let both = one_output once session (lines_within script) silent o q (at_line n s) (at_line m t) replies others in
    let number = line_number n m s t both.1 in
    let line = with_feed (codes "limit line " ++ decimal n) in
    endings_alike Limit (o ++ line) (q ++ line) ending other r also at on is (are ∙ ap (λ (i : ℕ). limited q (codes "limit line " ++ decimal i)) (sym number)) (alike_behind o q line both.0)
one_session once session script silent a b ending other r also at on (past_line o n s long replies is) (past_script q m t none beyond others are) = cc
one_session once session script silent a b ending other r also at on (past_script o n s none beyond replies is) (finished q p f v others are) = absurd (within_or_past script v beyond)
one_session once session script silent a b ending other r also at on (past_script o n s none beyond
    replies is) (quitted q others are) = absurd (quit_or_line once session script silent q o n s
    others replies)
one_session once session script silent a b ending other r also at on (past_script o n s none beyond replies is) (past_line q m t long others are) = cc
one_session once session script silent a b ending other r also at on (past_script o n s none beyond replies is) (past_script q m t never more others are) =
    let both = one_output once session (lines_within script) silent o q (at_line n s) (at_line m t) replies others in
    let line = with_feed (codes "limit script") in
    endings_alike Limit (o ++ line) (q ++ line) ending other r also at on is are (alike_behind o q line both.0)

one_conversation : AnswersOnce → (session same : PlainSession) (course other : Course) (r also : PlainResponse) → session ≡ same → RunsAs course other r also →
    Converses session course → Converses same other → ResponsesAlike r also
one_conversation once session same course other r also alike so (without_room is) there =
    let none = ap (λ (c : Course). c.ending) is in let ends = so.ends in cc
one_conversation once session same course other r also alike so here (without_room is) =
    let none = ap (λ (c : Course). c.ending) is in let ends = so.ends_too in cc
one_conversation once session same course other r also alike so (ended_over script f is ends) (ended_over also_script g are others) =
    let taken = so.taken in
    let script_same : script ≡ also_script = cc in
    let of_script = subst (λ (s : List ℕ). EndsSession same s other.silent other.at_end other.ending) (sym script_same) others in
    let of_silent = subst (λ (m : List ℕ). EndsSession same script m other.at_end other.ending) (sym so.silent) of_script in
    let moved = subst (λ (s : PlainSession). EndsSession s script course.silent other.at_end other.ending) (sym alike) of_silent in
    one_session once session script course.silent course.at_end other.at_end course.ending other.ending r also so.ends so.ends_too ends moved

-- documents with one text and the same DTD have one response to `session`, but for the documents of completions
pub session_once : AnswersOnce → SpellsOneDocument → (root : List ℕ) (x y : PlainOpened) (course other : Course) (r also : PlainResponse) → AreSameOpened x y → RunsAs course other r also →
    IsSessionCourse root x course → IsSessionCourse root y other → ResponsesAlike r also
session_once once one root x y course other r also same so is are =
    one_like (guarding_stage root x.dtd x.doc) (guarding_stage root y.dtd y.doc) IsEqual Converses Converses r also (ResponsesAlike r also) (one_response_alike r also)
    (guarding_sure one root x y same) (λ s t rest more e both here there. one_conversation once s t rest more r also e both here there) course other so is are
