-- A conversation, piece by piece.
use Rattle.std.proofs.Common.{◌≡◌, inl, inr, ℕ, zero, suc, ◌+◌, ◌-◌, ◌<◌, ◌≤◌, Bool, true, false, List, [], ◌∷◌, ◌++◌, length, get_or, take, drop}
use Rattle.std.proofs.Common.{codes, decimal, Option, refl, sym, ap, ◌∙◌, subst, append_assoc, arith}
use Rattle.std.proofs.lemmas.List.{append-nil, length-append, length-take, take-append-drop, take_all}
use Rattle.std.specs.Io.KnownBytes.{Appends, Consumes}
use Rattle.pv_io.specs.Causes.{AppendsFront, Asked, CountStays}
use Rattle.pv_script.specs.Commands.{SpellsCommand}
use Rattle.pv_words.specs.Lines.{FEED, without_returns}
use Rattle.pv_script.specs.TakenLines.{HeldLine, MAX_LINE_BYTES, nothing_held, TakesLine, IsTooLong}
use Rattle.pv_script.specs.declared.commands.Command.TheVariants.{Quit}
use Rattle.pv_conversation.specs.declared.talk.Next.{Next}
use Rattle.pv_conversation.specs.declared.talk.Next.TheVariants.{More as more_asked, Quit as quit, LineLimit as line_limit, ScriptLimit as script_limit}
use Rattle.pv_conversation.specs.declared.talk.Reading.{Reading}
use Rattle.pv_conversation.specs.Conversation.{AnswersLine, ComesNext, Conversed, EndedWith, IsWithinScript, IsBeyond, IsNext, IsReplyText, RepliesWith}
use Rattle.pv_opening.specs.Course.{RunEnding, output_fault}
use Rattle.pv_opening.specs.ShownCourses.{AskedAtMost}
use Rattle.pv_conversation.specs.CountedLines.{CountedSession}
use Rattle.pv_conversation.specs.ReplyBuffer.{HoldsReplies}
use Rattle.pv_conversation.specs.Script.{MAX_SCRIPT_BYTES}
use Rattle.pv_conversation.specs.Session.{all_told, limited}
use Rattle.pv_conversation.proofs.ConversationLines.{cut_off, ended_as, ended_on, ends_with_last, ends_with_quit, limit_is_no_fault}
use Rattle.pv_conversation.proofs.ConversationLines.{output_is_no_input, takes_failed, takes_line}
use Rattle.pv_conversation.proofs.ConversationLines.{takes_long, takes_past_line, takes_past_script}
use Rattle.pv_conversation.proofs.ConversationLines.{takes_quit, told_is_no_fault, written_as}
use Rattle.pv_conversation.proofs.HeldReplies.{holds_failed, holds_more, holds_none}
use Rattle.pv_io.proofs.Streams.{front_behind}

-- the first bytes of a piece were answered, their replies written or held, and these bytes are left
pub record GoesTo (before now : Option (List ℕ)) (replies : List ℕ) (session current : CountedSession) (held new : HeldLine) (number next : ℕ) (piece rest : List ℕ) : Type 0 where
  pub eaten : List ℕ
  pub is_cut : piece ≡ eaten ++ rest
  pub goes : (old : Option (List ℕ)) (script : List ℕ) (first : CountedSession) → Conversed (Appends old before) first script session held number →
      Conversed (HoldsReplies old now replies) first (script ++ eaten) current new next

pub goes_first : (before : Option (List ℕ)) (replies : List ℕ) (session : CountedSession) (held : HeldLine) (number : ℕ) (piece : List ℕ) → replies ≡ [] →
    GoesTo before before replies session session held held number number piece piece
goes_first before replies session held number piece none = record {
  eaten = [];
  is_cut = refl;
  goes = λ old script first so_far. rw (none, append-nil script)
      (written_as (Appends old before) (HoldsReplies old before []) first script session held number (λ out w. holds_none old before out w) so_far);
}

-- where a limit on the script isn't passed
fits : (script piece eaten rest : List ℕ) → piece ≡ eaten ++ rest → length script + length piece ≤ MAX_SCRIPT_BYTES → length (script ++ eaten) + length rest ≤ MAX_SCRIPT_BYTES
fits script piece eaten rest is within =
    let whole : length piece ≡ length eaten + length rest = ap length is ∙ length-append eaten rest in
    omega (arith, whole, within, length-append script eaten)

all_bytes : (script piece eaten rest : List ℕ) → piece ≡ eaten ++ rest → script ++ piece ≡ (script ++ eaten) ++ rest
all_bytes script piece eaten rest is = ap (λ (h : List ℕ). script ++ h) is ∙ sym (append_assoc script eaten rest)

rest_of_line : (rest front behind : List ℕ) → rest ≡ front ++ FEED ∷ behind → rest ≡ (front ++ FEED ∷ []) ++ behind
rest_of_line rest front behind is = is ∙ sym (append_assoc front (FEED ∷ []) behind)

-- a line of what is left was answered
pub goes_line : (before mid now : Option (List ℕ)) (replies still : List ℕ)
    (session current after : CountedSession) (held kept new : HeldLine) (number next eaten : ℕ)
    (piece rest behind text : List ℕ) →
    GoesTo before mid replies session current held kept number next piece rest →
    (takes : TakesLine kept rest eaten new) → behind ≡ takes.rest →
    IsReplyText current (without_returns new.bytes) after text →
    HoldsReplies mid now still (replies ++ text) → GoesTo before now still session after held nothing_held number (next + 1) piece behind
goes_line before mid now replies still session current after held kept new number next eaten piece rest behind text so takes is by more =
    let one : next + 1 ≡ suc next = omega arith in
    let line = takes.front ++ FEED ∷ [] in
    let cut : rest ≡ line ++ behind = rest_of_line rest takes.front takes.rest takes.is_cut ∙ ap (λ (h : List ℕ). line ++ h) (sym is) in
    record {
      eaten = so.eaten ++ line;
      is_cut = so.is_cut ∙ ap (λ (h : List ℕ). so.eaten ++ h) cut ∙ sym (append_assoc so.eaten line behind);
      goes = λ old script first so_far. rw (one, sym (append_assoc script so.eaten line))
          (takes_line (HoldsReplies old mid replies) (HoldsReplies old now still) first current after (script ++ so.eaten) kept new next rest text eaten
          (so.goes old script first so_far) takes by (λ out w. holds_more old mid now replies still text out w more));
    }

-- the bytes of a piece up to some of what is left, and those after them
up_to : (script piece eaten rest front behind : List ℕ) → piece ≡ eaten ++ rest → rest ≡ front ++ behind → script ++ piece ≡ ((script ++ eaten) ++ front) ++ behind
up_to script piece eaten rest front behind is cut =
    all_bytes script piece eaten rest is ∙ ap (λ (h : List ℕ). (script ++ eaten) ++ h) cut ∙ sym (append_assoc (script ++ eaten) front behind)

fits_front : (script piece eaten rest front behind : List ℕ) → piece ≡ eaten ++ rest → rest ≡ front ++ behind → length script + length piece ≤ MAX_SCRIPT_BYTES →
    length ((script ++ eaten) ++ front) ≤ MAX_SCRIPT_BYTES
fits_front script piece eaten rest front behind is cut within =
    let size : length rest ≡ length front + length behind = ap length cut ∙ length-append front behind in
    omega (arith, size, fits script piece eaten rest is within, length-append (script ++ eaten) front)

-- a line of what is left ended the session
pub goes_quit : (before mid now : Option (List ℕ)) (replies still : List ℕ) (session current : CountedSession) (checked : ℕ) (held kept new : HeldLine) (number next eaten : ℕ) (piece rest : List ℕ) →
    GoesTo before mid replies session current held kept number next piece rest →
    TakesLine kept rest eaten new → SpellsCommand (without_returns new.bytes) Quit →
    checked ≡ current.checked → HoldsReplies mid now still (replies ++ []) →
    (old : Option (List ℕ)) (script : List ℕ) (first : CountedSession) → length script + length piece ≤ MAX_SCRIPT_BYTES → Conversed (Appends old before) first script session held number →
    EndedWith first checked (script ++ piece) false all_told (HoldsReplies old now still)
goes_quit before mid now replies still session current checked held kept new number next eaten piece rest so takes quits same more old script first within so_far =
    let line = takes.front ++ FEED ∷ [] in
    let cut = rest_of_line rest takes.front takes.rest takes.is_cut in
    rw (up_to script piece so.eaten rest line takes.rest so.is_cut cut, same)
    (ended_on first current.checked ((script ++ so.eaten) ++ line) takes.rest all_told (HoldsReplies old now still) told_is_no_fault
    (takes_quit (HoldsReplies old mid replies) (HoldsReplies old now still) first current (script ++ so.eaten) kept new next rest eaten (so.goes old script first so_far) takes quits
    (λ out w. subst (λ (h : List ℕ). HoldsReplies old now still h) (append-nil out) (holds_more old mid now replies still [] out w more))
    (fits_front script piece so.eaten rest line takes.rest so.is_cut cut within)))

-- the output failed at a line of what is left
pub goes_failed : (before mid now : Option (List ℕ)) (replies : List ℕ) (session current after : CountedSession) (held kept new : HeldLine) (number next eaten : ℕ) (piece rest text : List ℕ) →
    GoesTo before mid replies session current held kept number next piece rest →
    TakesLine kept rest eaten new → IsReplyText current (without_returns new.bytes) after text →
    AppendsFront mid now (replies ++ text) →
    (old : Option (List ℕ)) (script : List ℕ) (first : CountedSession) → length script + length piece ≤ MAX_SCRIPT_BYTES → Conversed (Appends old before) first script session held number →
    EndedWith first after.checked (script ++ piece) false output_fault (AppendsFront old now)
goes_failed before mid now replies session current after held kept new number next eaten piece rest text so takes by front old script first within so_far =
    let line = takes.front ++ FEED ∷ [] in
    let cut = rest_of_line rest takes.front takes.rest takes.is_cut in
    rw (up_to script piece so.eaten rest line takes.rest so.is_cut cut)
    (ended_on first after.checked ((script ++ so.eaten) ++ line) takes.rest output_fault (AppendsFront old now) output_is_no_input
    (takes_failed (HoldsReplies old mid replies) (AppendsFront old now) first current after (script ++ so.eaten) kept new next rest text eaten (so.goes old script first so_far) takes by
    (λ out w. holds_failed old mid now replies text out w front) (fits_front script piece so.eaten rest line takes.rest so.is_cut cut within)))

-- what is left makes the line too long
pub goes_long : (before now : Option (List ℕ)) (replies : List ℕ) (session current : CountedSession) (held kept new : HeldLine) (number next : ℕ) (piece rest : List ℕ) →
    GoesTo before now replies session current held kept number next piece rest → IsTooLong kept rest new →
    (old : Option (List ℕ)) (script : List ℕ) (first : CountedSession) → length script + length piece ≤ MAX_SCRIPT_BYTES → Conversed (Appends old before) first script session held number →
    EndedWith first current.checked (script ++ piece) false (λ out. limited out (codes "limit line " ++ decimal next)) (HoldsReplies old now replies)
goes_long before now replies session current held kept new number next piece rest so long old script first within so_far =
    rw (up_to script piece so.eaten rest long.front long.rest so.is_cut long.is_cut)
    (ended_on first current.checked ((script ++ so.eaten) ++ long.front) long.rest (λ out. limited out (codes "limit line " ++ decimal next)) (HoldsReplies old now replies)
    (limit_is_no_fault (codes "limit line " ++ decimal next))
    (takes_long (HoldsReplies old now replies) first current (script ++ so.eaten) kept new next rest (so.goes old script first so_far) long
    (fits_front script piece so.eaten rest long.front long.rest so.is_cut long.is_cut within)))

-- what stands after a line, as the code says it
drop_line : (front behind : List ℕ) → drop (suc (length front)) (front ++ FEED ∷ behind) ≡ behind
drop_line [] behind = refl
drop_line (b ∷ bs) behind = drop_line bs behind

pub behind_line : (kept new : HeldLine) (rest : List ℕ) (eaten : ℕ) → (takes : TakesLine kept rest eaten new) → take (length rest - eaten) (drop eaten rest) ≡ takes.rest
behind_line kept new rest eaten takes =
    let dropped : drop eaten rest ≡ takes.rest =
    ap (λ n. drop n rest) takes.is_eaten ∙ ap (drop (suc (length takes.front))) takes.is_cut ∙ drop_line takes.front takes.rest in
    let whole : length rest ≡ length takes.front + suc (length takes.rest) = ap length takes.is_cut ∙ length-append takes.front (FEED ∷ takes.rest) in
    ap (take (length rest - eaten)) dropped ∙ take_all (length rest - eaten) takes.rest (omega (arith, whole, takes.is_eaten))

pub line_size : (kept new : HeldLine) (rest : List ℕ) (eaten : ℕ) → (takes : TakesLine kept rest eaten new) → length rest ≡ eaten + length takes.rest
line_size kept new rest eaten takes =
    let whole : length rest ≡ length takes.front + suc (length takes.rest) = ap length takes.is_cut ∙ length-append takes.front (FEED ∷ takes.rest) in
    omega (arith, whole, takes.is_eaten)

-- what didn't ask for more isn't changed by what follows
pub goes_on_whatever : (W : List ℕ → Type 0) (first : CountedSession) (script more : List ℕ) (current : CountedSession) (reading : Reading) (next : Next) →
    (next ≡ more_asked → ⊥) → ComesNext W first script current reading next → ComesNext W first (script ++ more) current reading next
goes_on_whatever W first script more current reading more_asked asks so = absurd (asks refl)
goes_on_whatever W first script more current reading quit asks so = ended_on first current.checked script more all_told W told_is_no_fault so
goes_on_whatever W first script more current reading line_limit asks so =
    ended_on first current.checked script more (λ out. limited out (codes "limit line " ++ decimal reading.number)) W (limit_is_no_fault (codes "limit line " ++ decimal reading.number)) so
goes_on_whatever W first script more current reading script_limit asks so =
    ended_on first current.checked script more (λ out. limited out (codes "limit script")) W (limit_is_no_fault (codes "limit script")) so

-- what was written so was written otherwise, or in part
pub goes_on_as : (W V : List ℕ → Type 0) (first : CountedSession) (script : List ℕ) (current : CountedSession) (reading : Reading) (next : Next) →
    ((out : List ℕ) → W out → V out) → ComesNext W first script current reading next → ComesNext V first script current reading next
goes_on_as W V first script current reading more_asked writes so = written_as W V first script current reading.lines reading.number writes so
goes_on_as W V first script current reading quit writes so = ended_as W V first current.checked script false all_told writes so
goes_on_as W V first script current reading line_limit writes so = ended_as W V first current.checked script false (λ out. limited out (codes "limit line " ++ decimal reading.number)) writes so
goes_on_as W V first script current reading script_limit writes so = ended_as W V first current.checked script false (λ out. limited out (codes "limit script")) writes so

ended_cut : (W V : List ℕ → Type 0) (first : CountedSession) (now : ℕ) (script : List ℕ) (ending : List ℕ → RunEnding) → ((out : List ℕ) → W out → V out) →
    EndedWith first now script false ending W → EndedWith first now script false output_fault V
ended_cut W V first now script ending writes so = record { silent = so.silent; out = so.out; ends = so.fails refl; fails = so.fails; counts = so.counts; written = writes so.out so.written }

pub goes_on_cut : (W V : List ℕ → Type 0) (first : CountedSession) (script : List ℕ) (current : CountedSession) (reading : Reading) (next : Next) →
    ((out : List ℕ) → W out → V out) → (next ≡ more_asked → length script ≤ MAX_SCRIPT_BYTES) → ComesNext W first script current reading next →
    EndedWith first current.checked script false output_fault V
goes_on_cut W V first script current reading more_asked writes within so =
    cut_off V first script current reading.lines reading.number (written_as W V first script current reading.lines reading.number writes so) (within refl)
goes_on_cut W V first script current reading quit writes within so = ended_cut W V first current.checked script all_told writes so
goes_on_cut W V first script current reading line_limit writes within so = ended_cut W V first current.checked script (λ out. limited out (codes "limit line " ++ decimal reading.number)) writes so
goes_on_cut W V first script current reading script_limit writes within so = ended_cut W V first current.checked script (λ out. limited out (codes "limit script")) writes so

-- the byte after the longest script
at_limit : (W : List ℕ → Type 0) (first : CountedSession) (script : List ℕ) (current : CountedSession) (reading : Reading) (b : ℕ) (next : Next) →
    IsNext reading.lines b next → length script ≡ MAX_SCRIPT_BYTES → Conversed W first script current reading.lines reading.number →
    ComesNext W first (script ++ b ∷ []) current reading next
at_limit W first script current reading b more_asked is full so_far = absurd is
at_limit W first script current reading b quit is full so_far = absurd is
at_limit W first script current reading b line_limit is full so_far =
    takes_past_line W first current script reading.lines reading.number b so_far full is.0 is.1
at_limit W first script current reading b script_limit (inl is) full so_far =
    takes_past_script W first current script reading.lines reading.number b so_far full (inl is)
at_limit W first script current reading b script_limit (inr not) full so_far =
    takes_past_script W first current script reading.lines reading.number b so_far full (inr (less (length reading.lines.bytes) so_far.is_begun.1 not))
  where
    less : (n : ℕ) → n ≤ MAX_LINE_BYTES → (n ≡ MAX_LINE_BYTES → ⊥) → n < MAX_LINE_BYTES
    less n within other = omega (arith, within, other)

limit_is_no_more : (held : HeldLine) (b : ℕ) (next : Next) → IsNext held b next → next ≡ more_asked → ⊥
limit_is_no_more held b more_asked is same = is
limit_is_no_more held b quit is same = cc
limit_is_no_more held b line_limit is same = cc
limit_is_no_more held b script_limit is same = cc

goes_beyond : (W : List ℕ → Type 0) (first : CountedSession) (script : List ℕ) (current : CountedSession) (reading : Reading) (b : ℕ) (more : List ℕ) (next after : Next) →
    IsBeyond reading.lines b next after → length script ≡ MAX_SCRIPT_BYTES → ComesNext W first script current reading next →
    ComesNext W first (script ++ b ∷ more) current reading after
goes_beyond W first script current reading b more more_asked after is full so =
    subst (λ (h : List ℕ). ComesNext W first h current reading after) (append_assoc script (b ∷ []) more)
    (goes_on_whatever W first (script ++ b ∷ []) more current reading after (limit_is_no_more reading.lines b after is)
    (at_limit W first script current reading b after is full so))
goes_beyond W first script current reading b more quit after is full so = rw is (goes_on_whatever W first script (b ∷ more) current reading quit (λ e. cc) so)
goes_beyond W first script current reading b more line_limit after is full so = rw is (goes_on_whatever W first script (b ∷ more) current reading line_limit (λ e. cc) so)
goes_beyond W first script current reading b more script_limit after is full so = rw is (goes_on_whatever W first script (b ∷ more) current reading script_limit (λ e. cc) so)

-- a piece cut at a byte
cut_piece : (piece : List ℕ) (n d : ℕ) → n < length piece → piece ≡ take n piece ++ get_or piece n d ∷ drop (suc n) piece
cut_piece [] n d within = absurd (omega arith)
cut_piece (b ∷ bs) zero d within = refl
cut_piece (b ∷ bs) (suc n) d within = ap (λ (h : List ℕ). b ∷ h) (cut_piece bs n d (omega arith))

pub piece_beyond : (W : List ℕ → Type 0) (first : CountedSession) (script : List ℕ) (current : CountedSession) (reading : Reading) (piece : List ℕ) (left d : ℕ) (next after : Next) →
    IsBeyond reading.lines (get_or piece left d) next after → left < length piece → length script + left ≡ MAX_SCRIPT_BYTES →
    ComesNext W first (script ++ take left piece) current reading next → ComesNext W first (script ++ piece) current reading after
piece_beyond W first script current reading piece left d next after is within full so =
    let front = take left piece in
    let b = get_or piece left d in
    let more = drop (suc left) piece in
    let whole : (script ++ front) ++ (b ∷ more) ≡ script ++ piece = append_assoc script front (b ∷ more) ∙ ap (λ (h : List ℕ). script ++ h) (sym (cut_piece piece left d within)) in
    let size : length (script ++ front) ≡ MAX_SCRIPT_BYTES = front_size script piece left within full in
    subst (λ (h : List ℕ). ComesNext W first h current reading after) whole (goes_beyond W first (script ++ front) current reading b more next after is size so)
  where
    front_size : (bytes more : List ℕ) (n : ℕ) → n < length more → length bytes + n ≡ MAX_SCRIPT_BYTES → length (bytes ++ take n more) ≡ MAX_SCRIPT_BYTES
    front_size bytes more n within full = let part = length-take n more in omega (arith, within, full, part, length-append bytes (take n more))

pub piece_failed : (W : List ℕ → Type 0) (first : CountedSession) (now : ℕ) (script piece : List ℕ) (left : ℕ) →
    EndedWith first now (script ++ take left piece) false output_fault W → EndedWith first now (script ++ piece) false output_fault W
piece_failed W first now script piece left so =
    let whole : (script ++ take left piece) ++ drop left piece ≡ script ++ piece =
    append_assoc script (take left piece) (drop left piece) ∙ ap (λ (h : List ℕ). script ++ h) (take-append-drop left piece) in
    subst (λ (h : List ℕ). EndedWith first now h false output_fault W) whole
    (ended_on first now (script ++ take left piece) (drop left piece) output_fault W output_is_no_input so)

-- a piece after which more is asked for lies within the limit on the script
pub fits_within : (script piece : List ℕ) (left : ℕ) (next : Next) → IsWithinScript (length piece) left next → length script + left ≡ MAX_SCRIPT_BYTES → next ≡ more_asked →
    length (script ++ piece) ≤ MAX_SCRIPT_BYTES
fits_within script piece left more_asked fit full is = omega (arith, fit, full, length-append script piece)
fits_within script piece left quit fit full is = cc
fits_within script piece left line_limit fit full is = cc
fits_within script piece left script_limit fit full is = cc

-- the reply to the last line
pub last_answered : (old mid now : Option (List ℕ)) (still : List ℕ) (first current after : CountedSession) (script line : List ℕ) (held : HeldLine) (number : ℕ) (goes : Bool) →
    line ≡ without_returns held.bytes → AnswersLine current line after (λ text. HoldsReplies mid now still text) goes → 0 < length held.bytes → length script ≤ MAX_SCRIPT_BYTES →
    Conversed (Appends old mid) first script current held number → EndedWith first after.checked script true all_told (HoldsReplies old now still)
last_answered old mid now still first current after script line held number true is answers some within so_far =
    ends_with_last (Appends old mid) (HoldsReplies old now still) first current after script held number answers.0 so_far within some
    (subst (λ (l : List ℕ). IsReplyText current l after answers.0) is answers.1)
    (λ out w. holds_more old mid now [] still answers.0 out (holds_none old mid out w) answers.2)
last_answered old mid now still first current after script line held number false is answers some within so_far =
    let ends = ends_with_quit (Appends old mid) (HoldsReplies old now still) first current script held number so_far within some (subst (λ (l : List ℕ). SpellsCommand l Quit) is answers.0)
    (λ out w. subst (λ (h : List ℕ). HoldsReplies old now still h) (append-nil out) (holds_more old mid now [] still [] out (holds_none old mid out w) answers.2)) in
    subst (λ (n : ℕ). EndedWith first n script true all_told (HoldsReplies old now still)) (sym answers.1) ends

pub last_failed : (old mid now : Option (List ℕ)) (first current after : CountedSession) (script line : List ℕ) (held : HeldLine) (number : ℕ) →
    line ≡ without_returns held.bytes → RepliesWith current line after (AppendsFront mid now) → 0 < length held.bytes → length script ≤ MAX_SCRIPT_BYTES →
    Conversed (Appends old mid) first script current held number → EndedWith first after.checked script true all_told (AppendsFront old now)
last_failed old mid now first current after script line held number is replies some within so_far =
    ends_with_last (Appends old mid) (AppendsFront old now) first current after script held number replies.0 so_far within some
    (subst (λ (l : List ℕ). IsReplyText current l after replies.0) is replies.1)
    (λ out w. front_behind old mid now out replies.0 w replies.2)

-- a conversation up to a piece: what it took, and what its devices counted; no reply is held, and the output may be asked
pub record Talks (old now : Option (List ℕ)) (first current : CountedSession) (held : HeldLine)
    (number : ℕ) (input_old input_now : Option (List ℕ)) (calls calls_now : Asked)
    (input_faults input_faults_now faults faults_now left room : ℕ) (replies : List ℕ)
    (ready : Bool) : Type 0 where
  pub script : List ℕ
  pub so_far : Conversed (Appends old now) first script current held number
  pub taken : Consumes input_old input_now script
  pub asked : AskedAtMost (length script) 0 calls calls_now
  pub within : length script + left ≡ MAX_SCRIPT_BYTES
  pub input_stays : CountStays input_faults input_faults_now
  pub stays : CountStays faults faults_now
  pub roomy : room ≡ 65536
  pub none : replies ≡ []
  pub is_ready : ready ≡ true
