-- A conversation, line by line.
use Rattle.std.proofs.Common.{◌≡◌, ◌≢◌, ◌⊎◌, ℕ, suc, ◌<◌, ◌≤◌, Bool, true, false, List, [], ◌∷◌, ◌++◌, map, length, codes, decimal, Option, refl, sym, ap, ◌∙◌, append_assoc, arith}
use Rattle.std.proofs.lemmas.List.{append-nil, length-append, map-append}
use Rattle.std.specs.Io.KnownBytes.{Appends}
use Rattle.pv_words.proofs.RawLines.{raw_lines_of-part}
use Rattle.pv_words.proofs.FirstWords.{Free-append}
use Rattle.pv_script.specs.Commands.{SpellsCommand}
use Rattle.pv_words.specs.Lines.{FEED, HasNoFeed, lines_of, raw_lines_of, with_feeds, without_returns}
use Rattle.pv_script.specs.TakenLines.{HeldLine, MAX_LINE_BYTES, nothing_held, begun_line}
use Rattle.pv_script.specs.TakenLines.{TakesWhole, TakesLine, IsTooLong}
use Rattle.pv_script.specs.declared.commands.Command.TheVariants.{Quit}
use Rattle.pv_session.specs.Sessions.{PlainSession}
use Rattle.pv_conversation.specs.CountedLines.{CountedSession}
use Rattle.pv_conversation.specs.Conversation.{Conversed, EndedWith, IsScriptLine, IsReplyText}
use Rattle.pv_opening.specs.Course.{RunEnding, input_fault, output_fault}
use Rattle.pv_conversation.specs.Script.{MAX_SCRIPT_BYTES, lines_within}
use Rattle.pv_conversation.specs.Session.{EndsSession, Place, Replies, finished, quitted, past_line, past_script, input_failed, output_failed, no_lines, at_line, at_quit, all_told, limited}
use Rattle.pv_conversation.proofs.LineCounts.{counts_all, counts_front}
use Rattle.pv_conversation.proofs.ContinuedScripts.{lines_on, more_changes_nothing}
use Rattle.pv_conversation.proofs.Limits.{IsReadAs, feeds_more, lines_more_are, past_lines}
use Rattle.pv_conversation.proofs.Limits.{past_long, past_short, read_all, read_lines}
use Rattle.pv_conversation.proofs.Limits.{read_long_line, read_within, true_is_no_false}
use Rattle.pv_conversation.proofs.Replies.{replies_more, replies_quit}
use Rattle.pv_io.proofs.Streams.{appends_none}

begun_is : (held : HeldLine) → held.whole ≡ false → begun_line held ≡ held.bytes
begun_is held is = rw is refl

-- the bytes so far are read as their lines and what is held
pub read_of : (W : List ℕ → Type 0) (first : CountedSession) (script : List ℕ) (current : CountedSession) (held : HeldLine) (number : ℕ) →
    (so_far : Conversed W first script current held number) → IsReadAs script so_far.lines held.bytes
read_of W first script current held number so_far =
    record { is_cut = so_far.is_cut; are_lines = so_far.are_lines; is_part = so_far.is_begun.0 }

cut_more : (script lines begun front : List ℕ) → script ≡ lines ++ begun → script ++ front ≡ lines ++ (begun ++ front)
cut_more script lines begun front is = ap (λ (h : List ℕ). h ++ front) is ∙ append_assoc lines begun front

-- nothing was answered so far
pub begins : (old : Option (List ℕ)) (first : CountedSession) → Conversed (Appends old old) first [] first nothing_held 1
begins old first = record {
  lines = [];
  is_cut = refl;
  are_lines = tt;
  is_begun = (tt, omega arith);
  goes_on = refl;
  counted = omega arith;
  silent = [];
  below = tt;
  out = [];
  replies = no_lines refl refl;
  counts = refl;
  written = appends_none old;
}

-- the output failed after these lines
cut_here : (first : PlainSession) (script silent out : List ℕ) (place : Place) → Replies silent 1 first (lines_within script) out place →
    EndsSession first script silent false (output_fault out)
cut_here first script silent out place replies = output_failed (lines_within script) [] out place (sym (append-nil (lines_within script))) replies refl

pub cut_off : (W : List ℕ → Type 0) (first : CountedSession) (script : List ℕ) (current : CountedSession) (held : HeldLine) (number : ℕ) →
    Conversed W first script current held number → length script ≤ MAX_SCRIPT_BYTES → EndedWith first current.checked script false output_fault W
cut_off W first script current held number so_far within =
    let lines = read_lines script so_far.lines held.bytes (read_of W first script current held number so_far) within in
    let ends = cut_here first.session script so_far.silent so_far.out (at_line number current.session) (rw lines so_far.replies) in
    let counts = counts_all so_far.silent _ _ _ _ lines so_far.counts in
    record { silent = so_far.silent; out = so_far.out; ends = ends; fails = λ _. ends; counts = counts; written = so_far.written }

-- what was written so was written otherwise
pub written_as : (W V : List ℕ → Type 0) (first : CountedSession) (script : List ℕ) (current : CountedSession) (held : HeldLine) (number : ℕ) →
    ((out : List ℕ) → W out → V out) → Conversed W first script current held number → Conversed V first script current held number
written_as W V first script current held number writes so_far = record {
  lines = so_far.lines;
  is_cut = so_far.is_cut;
  are_lines = so_far.are_lines;
  is_begun = so_far.is_begun;
  goes_on = so_far.goes_on;
  counted = so_far.counted;
  silent = so_far.silent;
  below = so_far.below;
  out = so_far.out;
  replies = so_far.replies;
  counts = so_far.counts;
  written = writes so_far.out so_far.written;
}

pub ended_as : (W V : List ℕ → Type 0) (first : CountedSession) (now : ℕ) (script : List ℕ) (at_end : Bool) (ending : List ℕ → RunEnding) →
    ((out : List ℕ) → W out → V out) → EndedWith first now script at_end ending W → EndedWith first now script at_end ending V
ended_as W V first now script at_end ending writes so =
    record { silent = so.silent; out = so.out; ends = so.ends; fails = so.fails; counts = so.counts; written = writes so.out so.written }

-- a piece without an LF
pub takes_all : (W : List ℕ → Type 0) (first : CountedSession) (script : List ℕ) (current : CountedSession) (held new : HeldLine) (number : ℕ) (piece : List ℕ) →
    Conversed W first script current held number → TakesWhole held piece new → Conversed W first (script ++ piece) current new number
takes_all W first script current held new number piece so_far takes =
    let begun = begun_is held so_far.goes_on in
    let bytes : new.bytes ≡ held.bytes ++ piece = ap (λ (h : HeldLine). h.bytes) takes.held ∙ ap (λ (h : List ℕ). h ++ piece) begun in
    record {
      lines = so_far.lines;
      is_cut = cut_more script (with_feeds so_far.lines) held.bytes piece so_far.is_cut ∙ ap (λ (h : List ℕ). with_feeds so_far.lines ++ h) (sym bytes);
      are_lines = so_far.are_lines;
      is_begun = rw bytes (Free-append 10 held.bytes piece so_far.is_begun.0 takes.no_feed, rw begun at takes.within);
      goes_on = ap (λ (h : HeldLine). h.whole) takes.held;
      counted = omega (arith, so_far.counted, length-append script piece);
      silent = so_far.silent;
      below = so_far.below;
      out = so_far.out;
      replies = so_far.replies;
      counts = so_far.counts;
      written = so_far.written;
    }

-- the line that a piece ends
record IsNextLine (script : List ℕ) (lines : List (List ℕ)) (held new : HeldLine) (front : List ℕ) : Type 0 where
  bytes : new.bytes ≡ held.bytes ++ front
  is_line : IsScriptLine (held.bytes ++ front)
  read : IsReadAs (script ++ (front ++ FEED ∷ [])) (lines ++ (held.bytes ++ front) ∷ []) []
  answered : map without_returns (lines ++ (held.bytes ++ front) ∷ []) ≡ map without_returns lines ++ without_returns new.bytes ∷ []

next_line : (W : List ℕ → Type 0) (first : CountedSession) (script : List ℕ) (current : CountedSession) (held new : HeldLine) (number : ℕ) (piece : List ℕ) (eaten : ℕ) →
    (so_far : Conversed W first script current held number) → (takes : TakesLine held piece eaten new) → IsNextLine script so_far.lines held new takes.front
next_line W first script current held new number piece eaten so_far takes =
    let begun = begun_is held so_far.goes_on in
    let lines = so_far.lines in
    let front = takes.front in
    let line = held.bytes ++ front in
    let bytes : new.bytes ≡ line = ap (λ (h : HeldLine). h.bytes) takes.held ∙ ap (λ (h : List ℕ). h ++ front) begun in
    let is_line : IsScriptLine line = (Free-append 10 held.bytes front so_far.is_begun.0 takes.no_feed, rw begun at takes.within) in
    record {
      bytes = bytes;
      is_line = is_line;
      read = record {
        is_cut = cut_more script (with_feeds lines) held.bytes (front ++ FEED ∷ []) so_far.is_cut
            ∙ ap (λ (h : List ℕ). with_feeds lines ++ h) (sym (append_assoc held.bytes front (FEED ∷ [])))
            ∙ feeds_more lines line ∙ sym (append-nil (with_feeds (lines ++ line ∷ [])));
        are_lines = lines_more_are lines line so_far.are_lines is_line;
        is_part = tt;
      };
      answered = map-append without_returns lines (line ∷ []) ∙ ap (λ (l : List ℕ). map without_returns lines ++ without_returns l ∷ []) (sym bytes);
    }

-- a line that was answered
pub takes_line : (W V : List ℕ → Type 0) (first current after : CountedSession) (script : List ℕ) (held new : HeldLine) (number : ℕ) (piece text : List ℕ) (eaten : ℕ) →
    Conversed W first script current held number → (takes : TakesLine held piece eaten new) → IsReplyText current (without_returns new.bytes) after text →
    ((out : List ℕ) → W out → V (out ++ text)) → Conversed V first (script ++ (takes.front ++ FEED ∷ [])) after nothing_held (suc number)
takes_line W V first current after script held new number piece text eaten so_far takes by writes =
    let line = next_line W first script current held new number piece eaten so_far takes in
    let more = replies_more so_far.silent number first current (map without_returns so_far.lines) (without_returns new.bytes) so_far.out text after so_far.below so_far.replies so_far.counts by in
    record {
      lines = so_far.lines ++ (held.bytes ++ takes.front) ∷ [];
      is_cut = line.read.is_cut;
      are_lines = line.read.are_lines;
      is_begun = (tt, omega arith);
      goes_on = refl;
      counted = omega (arith, so_far.counted, length-append script (takes.front ++ FEED ∷ []), length-append takes.front (FEED ∷ []));
      silent = more.silent;
      below = more.below;
      out = so_far.out ++ text;
      replies = rw line.answered more.replies;
      counts = rw line.answered more.counts;
      written = writes so_far.out so_far.written;
    }

-- a line that ends the session
pub takes_quit : (W V : List ℕ → Type 0) (first current : CountedSession) (script : List ℕ) (held new : HeldLine) (number : ℕ) (piece : List ℕ) (eaten : ℕ) →
    Conversed W first script current held number → (takes : TakesLine held piece eaten new) → SpellsCommand (without_returns new.bytes) Quit → ((out : List ℕ) → W out → V out) →
    length (script ++ (takes.front ++ FEED ∷ [])) ≤ MAX_SCRIPT_BYTES → EndedWith first current.checked (script ++ (takes.front ++ FEED ∷ [])) false all_told V
takes_quit W V first current script held new number piece eaten so_far takes quits writes within =
    let line = next_line W first script current held new number piece eaten so_far takes in
    let lines = read_lines _ _ _ line.read within ∙ line.answered in
    let replies = replies_quit so_far.silent number first.session current.session (map without_returns so_far.lines) (without_returns new.bytes) so_far.out so_far.below so_far.replies quits in
    record {
      silent = so_far.silent;
      out = so_far.out;
      ends = quitted so_far.out (rw lines replies) refl;
      fails = λ _. cut_here first.session _ so_far.silent so_far.out at_quit (rw lines replies);
      counts = counts_front so_far.silent _ _ _ _ _ lines so_far.counts;
      written = writes so_far.out so_far.written;
    }

-- a line whose reply failed
pub takes_failed : (W V : List ℕ → Type 0) (first current after : CountedSession) (script : List ℕ) (held new : HeldLine) (number : ℕ) (piece text : List ℕ) (eaten : ℕ) →
    Conversed W first script current held number → (takes : TakesLine held piece eaten new) → IsReplyText current (without_returns new.bytes) after text →
    ((out : List ℕ) → W out → V (out ++ text)) → length (script ++ (takes.front ++ FEED ∷ [])) ≤ MAX_SCRIPT_BYTES →
    EndedWith first after.checked (script ++ (takes.front ++ FEED ∷ [])) false output_fault V
takes_failed W V first current after script held new number piece text eaten so_far takes by writes within =
    cut_off V first _ after nothing_held (suc number) (takes_line W V first current after script held new number piece text eaten so_far takes by writes) within

-- a line that is too long
pub takes_long : (W : List ℕ → Type 0) (first current : CountedSession) (script : List ℕ) (held new : HeldLine) (number : ℕ) (piece : List ℕ) →
    Conversed W first script current held number → (long : IsTooLong held piece new) → length (script ++ long.front) ≤ MAX_SCRIPT_BYTES →
    EndedWith first current.checked (script ++ long.front) false (λ out. limited out (codes "limit line " ++ decimal number)) W
takes_long W first current script held new number piece so_far long within =
    let beyond = rw (begun_is held so_far.goes_on) at long.beyond in
    let read : IsReadAs (script ++ long.front) so_far.lines (held.bytes ++ long.front) = record {
      is_cut = cut_more script (with_feeds so_far.lines) held.bytes long.front so_far.is_cut;
      are_lines = so_far.are_lines;
      is_part = Free-append 10 held.bytes long.front so_far.is_begun.0 long.no_feed;
    } in
    let lines = read_lines _ _ _ read within in
    record {
      silent = so_far.silent;
      out = so_far.out;
      ends = past_line so_far.out number current.session (read_long_line _ _ _ read beyond (omega (arith, within))) (rw lines so_far.replies) refl;
      fails = λ _. cut_here first.session _ so_far.silent so_far.out (at_line number current.session) (rw lines so_far.replies);
      counts = counts_all so_far.silent _ _ _ _ lines so_far.counts;
      written = so_far.written;
    }

-- the byte past the limit on the script
pub takes_past_line : (W : List ℕ → Type 0) (first current : CountedSession) (script : List ℕ) (held : HeldLine) (number b : ℕ) →
    Conversed W first script current held number → length script ≡ MAX_SCRIPT_BYTES → b ≢ FEED → length held.bytes ≡ MAX_LINE_BYTES →
    EndedWith first current.checked (script ++ b ∷ []) false (λ out. limited out (codes "limit line " ++ decimal number)) W
takes_past_line W first current script held number b so_far full other no_room =
    let read = read_of W first script current held number so_far in
    let lines = past_lines script b so_far.lines held.bytes read full in
    record {
      silent = so_far.silent;
      out = so_far.out;
      ends = past_line so_far.out number current.session (past_long script b so_far.lines held.bytes read full other no_room) (rw lines so_far.replies) refl;
      fails = λ _. cut_here first.session _ so_far.silent so_far.out (at_line number current.session) (rw lines so_far.replies);
      counts = counts_all so_far.silent _ _ _ _ lines so_far.counts;
      written = so_far.written;
    }

pub takes_past_script : (W : List ℕ → Type 0) (first current : CountedSession) (script : List ℕ) (held : HeldLine) (number b : ℕ) →
    Conversed W first script current held number → length script ≡ MAX_SCRIPT_BYTES → (b ≡ FEED) ⊎ (length held.bytes < MAX_LINE_BYTES) →
    EndedWith first current.checked (script ++ b ∷ []) false (λ out. limited out (codes "limit script")) W
takes_past_script W first current script held number b so_far full room =
    let read = read_of W first script current held number so_far in
    let lines = past_lines script b so_far.lines held.bytes read full in
    record {
      silent = so_far.silent;
      out = so_far.out;
      ends = past_script so_far.out number current.session (past_short script b so_far.lines held.bytes read full so_far.is_begun.1 room)
          (omega (arith, full, length-append script (b ∷ []))) (rw lines so_far.replies) refl;
      fails = λ _. cut_here first.session _ so_far.silent so_far.out (at_line number current.session) (rw lines so_far.replies);
      counts = counts_all so_far.silent _ _ _ _ lines so_far.counts;
      written = so_far.written;
    }

-- the input failed
pub fails : (W : List ℕ → Type 0) (first current : CountedSession) (script : List ℕ) (held : HeldLine) (number : ℕ) →
    Conversed W first script current held number → length script ≤ MAX_SCRIPT_BYTES → EndedWith first current.checked script false input_fault W
fails W first current script held number so_far within =
    let read = read_of W first script current held number so_far in
    let lines = read_lines script so_far.lines held.bytes read within in
    record {
      silent = so_far.silent;
      out = so_far.out;
      ends = input_failed so_far.out number current.session (read_within script so_far.lines held.bytes read so_far.is_begun.1 within) (rw lines so_far.replies) refl;
      fails = λ _. cut_here first.session _ so_far.silent so_far.out (at_line number current.session) (rw lines so_far.replies);
      counts = counts_all so_far.silent _ _ _ _ lines so_far.counts;
      written = so_far.written;
    }

pub output_is_no_input : (out o : List ℕ) → output_fault out ≡ input_fault o → ⊥
output_is_no_input out o is = cc

-- bytes that stand after the end change nothing
pub ended_on : (first : CountedSession) (now : ℕ) (script more : List ℕ) (ending : List ℕ → RunEnding) (AreWritten : List ℕ → Type 0) →
    ((out o : List ℕ) → ending out ≡ input_fault o → ⊥) → EndedWith first now script false ending AreWritten → EndedWith first now (script ++ more) false ending AreWritten
ended_on first now script more ending AreWritten no_fault so = record {
  silent = so.silent;
  out = so.out;
  ends = more_changes_nothing first.session script more so.silent (ending so.out) (no_fault so.out) so.ends;
  fails = λ is. more_changes_nothing first.session script more so.silent (output_fault so.out) (output_is_no_input so.out) (so.fails is);
  counts =
      let on = lines_on script more in
      counts_front so.silent _ so.counts.first (so.counts.behind ++ on.0) _ _ (on.1
      ∙ ap (λ (l : List (List ℕ)). l ++ on.0) so.counts.is_cut
      ∙ append_assoc so.counts.first so.counts.behind on.0) so.counts.counts;
  written = so.written;
}

pub told_is_no_fault : (out o : List ℕ) → all_told out ≡ input_fault o → ⊥
told_is_no_fault out o is = cc

pub limit_is_no_fault : (text out o : List ℕ) → limited out text ≡ input_fault o → ⊥
limit_is_no_fault text out o is = cc

-- the last line, which no LF ends
last_line : (W : List ℕ → Type 0) (first : CountedSession) (script : List ℕ) (current : CountedSession) (held : HeldLine) (number : ℕ) →
    (so_far : Conversed W first script current held number) → 0 < length held.bytes → lines_of script ≡ map without_returns so_far.lines ++ without_returns held.bytes ∷ []
last_line W first script current held number so_far some =
    read_all script so_far.lines held.bytes (read_of W first script current held number so_far)
    ∙ ap (λ (ps : List (List ℕ)). map without_returns so_far.lines ++ map without_returns ps) (one held.bytes some so_far.is_begun.0)
  where
    one : (bytes : List ℕ) → 0 < length bytes → HasNoFeed bytes → raw_lines_of bytes ≡ bytes ∷ []
    one [] some free = absurd (omega arith)
    one (b ∷ bs) some free = raw_lines_of-part b bs free

pub ends_with_all : (W : List ℕ → Type 0) (first current : CountedSession) (script : List ℕ) (held : HeldLine) (number : ℕ) →
    Conversed W first script current held number → length script ≤ MAX_SCRIPT_BYTES → held.bytes ≡ [] → EndedWith first current.checked script true all_told W
ends_with_all W first current script held number so_far within none =
    let read = read_of W first script current held number so_far in
    let lines = read_all script so_far.lines held.bytes read ∙ ap (λ (h : List ℕ). map without_returns so_far.lines ++ lines_of h) none ∙ append-nil (map without_returns so_far.lines) in
    record {
      silent = so_far.silent;
      out = so_far.out;
      ends = finished so_far.out (at_line number current.session) refl (read_within script so_far.lines held.bytes read so_far.is_begun.1 within) (rw lines so_far.replies) refl;
      fails = λ is. absurd (true_is_no_false is);
      counts = counts_all so_far.silent _ _ _ _ lines so_far.counts;
      written = so_far.written;
    }

pub ends_with_last : (W V : List ℕ → Type 0) (first current after : CountedSession) (script : List ℕ) (held : HeldLine) (number : ℕ) (text : List ℕ) →
    Conversed W first script current held number → length script ≤ MAX_SCRIPT_BYTES → 0 < length held.bytes → IsReplyText current (without_returns held.bytes) after text →
    ((out : List ℕ) → W out → V (out ++ text)) → EndedWith first after.checked script true all_told V
ends_with_last W V first current after script held number text so_far within some by writes =
    let read = read_of W first script current held number so_far in
    let more = replies_more so_far.silent number first current (map without_returns so_far.lines) (without_returns held.bytes) so_far.out text after so_far.below so_far.replies so_far.counts by in
    record {
      silent = more.silent;
      out = so_far.out ++ text;
      ends = finished (so_far.out ++ text) (at_line (suc number) after.session) refl (read_within script so_far.lines held.bytes read so_far.is_begun.1 within)
          (rw (last_line W first script current held number so_far some) more.replies) refl;
      fails = λ is. absurd (true_is_no_false is);
      counts = counts_all more.silent _ _ _ _ (last_line W first script current held number so_far some) more.counts;
      written = writes so_far.out so_far.written;
    }

pub ends_with_quit : (W V : List ℕ → Type 0) (first current : CountedSession) (script : List ℕ) (held : HeldLine) (number : ℕ) →
    Conversed W first script current held number → length script ≤ MAX_SCRIPT_BYTES → 0 < length held.bytes → SpellsCommand (without_returns held.bytes) Quit →
    ((out : List ℕ) → W out → V out) → EndedWith first current.checked script true all_told V
ends_with_quit W V first current script held number so_far within some quits writes =
    let read = read_of W first script current held number so_far in
    record {
      silent = so_far.silent;
      out = so_far.out;
      ends = finished so_far.out at_quit refl (read_within script so_far.lines held.bytes read so_far.is_begun.1 within)
          (rw (last_line W first script current held number so_far some) (replies_quit so_far.silent
          number first.session current.session (map without_returns so_far.lines)
          (without_returns held.bytes) so_far.out so_far.below so_far.replies quits)) refl;
      fails = λ is. absurd (true_is_no_false is);
      counts = counts_front so_far.silent _ _ _ _ _ (last_line W first script current held number so_far some) so_far.counts;
      written = writes so_far.out so_far.written;
    }
