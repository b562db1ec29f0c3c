-- The replies to a script, line by line.
use Rattle.std.proofs.Common.{◌≡◌, ℕ, suc, ◌+◌, ◌<◌, ◌≤◌, Bool, true, false, List, [], ◌∷◌, ◌++◌}
use Rattle.std.proofs.Common.{refl, sym, ap, ◌∙◌, append_assoc, arith}
use Rattle.std.proofs.lemmas.Grind.{common_steps}
use Rattle.std.proofs.lemmas.List.{append-nil}
use Rattle.pv_script.specs.Commands.{SpellsCommand}
use Rattle.pv_script.specs.Replies.{reply_bytes}
use Rattle.pv_script.specs.declared.commands.Command.TheVariants.{Quit}
use Rattle.pv_script.specs.declared.replies.Reply.TheVariants.{NoMemory}
use Rattle.pv_session.specs.Sessions.{PlainSession}
use Rattle.pv_conversation.specs.Laws.{JoinsReplies, EndsAtQuit}
use Rattle.pv_conversation.specs.Session.{is_among, Place, at_line, at_quit, Replies, no_lines, without_memory, answered, ended}
use Rattle.pv_conversation.specs.Conversation.{AllBelow, IsReplyText, replied, without_memory as told_nothing}
use Rattle.pv_conversation.specs.CountedLines.{CountedSession, CountsLines, was_silent}
use Rattle.pv_conversation.proofs.LineCounts.{counts_silent, counts_then, number_behind, replied_goes}

joined : (silent : List ℕ) (number next : ℕ) (session middle : PlainSession) (lines more : List (List ℕ)) (out rest : List ℕ) (here place : Place) →
    here ≡ at_line next middle → Replies silent number session lines out here → Replies silent next middle more rest place →
    Replies silent number session (lines ++ more) (out ++ rest) place
joined silent number next session middle [] more out rest here place at (no_lines none is) behind =
    let line : number ≡ next = cc in
    let same : session ≡ middle = cc in
    rw (none, line, same) behind
joined silent number next session middle (line ∷ lines) more out rest here place at (without_memory {rest = below} is by whole) behind =
    without_memory is (joined silent (suc number) next session middle lines more below rest here place at by behind) (ap (λ h. h ++ rest) whole ∙ append_assoc (reply_bytes NoMemory) below rest)
joined silent number next session middle (line ∷ lines) more out rest here place at (answered {after = after} {told = told} {rest = below} is to by whole) behind =
    answered is to (joined silent (suc number) next after middle lines more below rest here place at by behind) (ap (λ h. h ++ rest) whole ∙ append_assoc (reply_bytes told) below rest)
joined silent number next session middle (line ∷ lines) more out rest here place at (ended is quits none ends) behind = cc

pub joins_replies : JoinsReplies
joins_replies silent number next session middle lines more out rest place replies behind =
    joined silent number next session middle lines more out rest (at_line next middle) place refl replies behind

ends : (silent : List ℕ) (number : ℕ) (session : PlainSession) (lines more : List (List ℕ)) (out : List ℕ) (here : Place) → here ≡ at_quit →
    Replies silent number session lines out here → Replies silent number session (lines ++ more) out at_quit
ends silent number session [] more out here at (no_lines none is) = cc
ends silent number session (line ∷ lines) more out here at (without_memory {rest = below} is by whole) =
    without_memory is (ends silent (suc number) session lines more below here at by) whole
ends silent number session (line ∷ lines) more out here at (answered {after = after} {rest = below} is to by whole) =
    answered is to (ends silent (suc number) after lines more below here at by) whole
ends silent number session (line ∷ lines) more out here at (ended is quits none quit_at) = ended is quits none refl

pub ends_at_quit : EndsAtQuit
ends_at_quit silent number session lines more out replies = ends silent number session lines more out at_quit refl replies

-- the number after the lines isn't below theirs
number_grows : (silent : List ℕ) (number next : ℕ) (session middle : PlainSession) (lines : List (List ℕ)) (out : List ℕ) (here : Place) → here ≡ at_line next middle →
    Replies silent number session lines out here → number ≤ next
number_grows silent number next session middle [] out here at (no_lines none is) = let same : number ≡ next = cc in omega arith
number_grows silent number next session middle (line ∷ lines) out here at (without_memory {rest = below} is by whole) =
    let more = number_grows silent (suc number) next session middle lines below here at by in omega arith
number_grows silent number next session middle (line ∷ lines) out here at (answered {after = after} {rest = below} is to by whole) =
    let more = number_grows silent (suc number) next after middle lines below here at by in omega arith
number_grows silent number next session middle (line ∷ lines) out here at (ended is quits none ends) = cc

pub not_among : (number : ℕ) (silent : List ℕ) → AllBelow number silent → is_among number silent ≡ false
not_among number [] below = refl
not_among number (n ∷ ns) below = grind (arith, common_steps, not_among number ns below.1)

pub all_below_next : (number : ℕ) (silent : List ℕ) → AllBelow number silent → AllBelow (suc number) silent
all_below_next number [] below = tt
all_below_next number (n ∷ ns) below = (omega (arith, below.0), all_below_next number ns below.1)

still_among : (number other : ℕ) (silent : List ℕ) (b : Bool) → number < other → is_among number silent ≡ b → is_among number (other ∷ silent) ≡ b
still_among number other silent b less is = grind (arith, common_steps)

among_first : (number : ℕ) (silent : List ℕ) → is_among number (number ∷ silent) ≡ true
among_first number silent = grind (arith, common_steps)

-- a number after those of the lines may be put to the silent ones
later_silent : (other : ℕ) (silent : List ℕ) (number next : ℕ) (session middle : PlainSession) (lines : List (List ℕ)) (out : List ℕ) (here : Place) →
    next ≤ other → here ≡ at_line next middle → Replies silent number session lines out here → Replies (other ∷ silent) number session lines out here
later_silent other silent number next session middle [] out here less at (no_lines none is) = no_lines none is
later_silent other silent number next session middle (line ∷ lines) out here less at (without_memory {rest = below} is by whole) =
    let more = number_grows silent (suc number) next session middle lines below here at by in
    without_memory (still_among number other silent true (omega arith) is) (later_silent other silent (suc number) next session middle lines below here less at by) whole
later_silent other silent number next session middle (line ∷ lines) out here less at (answered {after = after} {rest = below} is to by whole) =
    let more = number_grows silent (suc number) next after middle lines below here at by in
    answered (still_among number other silent false (omega arith) is) to (later_silent other silent (suc number) next after middle lines below here less at by) whole
later_silent other silent number next session middle (line ∷ lines) out here less at (ended is quits none ends) = cc

-- lines and the next: its reply after theirs
pub record RepliesMore (number : ℕ) (first : CountedSession) (lines : List (List ℕ)) (line : List ℕ) (out text : List ℕ) (after : CountedSession) : Type 0 where
  pub silent : List ℕ
  pub below : AllBelow (suc number) silent
  pub replies : Replies silent 1 first.session (lines ++ line ∷ []) (out ++ text) (at_line (suc number) after.session)
  pub counts : CountsLines silent 1 (lines ++ line ∷ []) first.checked after.checked

pub replies_more : (silent : List ℕ) (number : ℕ) (first current : CountedSession) (lines : List (List ℕ)) (line : List ℕ) (out text : List ℕ) (after : CountedSession) →
    AllBelow number silent → Replies silent 1 first.session lines out
    (at_line number current.session) →
    CountsLines silent 1 lines first.checked current.checked → IsReplyText current line after text →
    RepliesMore number first lines line out text after
replies_more silent number first current lines line out text after below replies counts (replied told by is one) =
    let next = number_behind silent 1 number first.session current.session lines out (at_line number current.session) refl replies in
    record {
      silent = silent;
      below = all_below_next number silent below;
      replies = joins_replies silent 1 number first.session current.session lines (line ∷ []) out text (at_line (suc number) after.session) replies
          (answered (not_among number silent below) by (no_lines refl refl)
          (is ∙ sym (append-nil (reply_bytes told))));
      counts = counts_then silent 1 number lines line first.checked current.checked after.checked next counts (replied_goes current.session after.session line told (is_among number silent) by) one;
    }
replies_more silent number first current lines line out text after below replies counts (told_nothing stays is one) =
    let next = number_behind silent 1 number first.session current.session lines out (at_line number current.session) refl replies in
    record {
      silent = number ∷ silent;
      below = (omega arith, all_below_next number silent below);
      replies = joins_replies (number ∷ silent) 1 number first.session current.session lines (line ∷ []) out text (at_line (suc number) after.session)
          (later_silent number silent 1 number first.session current.session lines out (at_line number current.session) (omega arith) refl replies)
          (without_memory (among_first number silent)
          (no_lines refl (ap (at_line (suc number)) stays))
          (is ∙ sym (append-nil (reply_bytes NoMemory))));
      counts = counts_then (number ∷ silent) 1 number lines line first.checked current.checked after.checked next
          (counts_silent number silent 1 lines first.checked current.checked counts) (was_silent (among_first number silent)) one;
    }

pub replies_quit : (silent : List ℕ) (number : ℕ) (first current : PlainSession) (lines : List (List ℕ)) (line : List ℕ) (out : List ℕ) →
    AllBelow number silent → Replies silent 1 first lines out (at_line number current) → SpellsCommand line Quit →
    Replies silent 1 first (lines ++ line ∷ []) out at_quit
replies_quit silent number first current lines line out below replies is =
    let both = joins_replies silent 1 number first current lines (line ∷ []) out [] at_quit replies (ended (not_among number silent below) is refl refl) in
    rw (append-nil out) at both
