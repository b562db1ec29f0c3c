-- What the lines of a session count.
use Rattle.std.proofs.Common.{◌≡◌, ◌∙◌, ◌+◌, ℕ, suc, Bool, true, false, List, [], ◌∷◌, ◌++◌, length, refl, sym, subst, arith}
use Rattle.std.proofs.lemmas.Grind.{common_steps}
use Rattle.std.proofs.lemmas.List.{append-nil}
use Rattle.pv_script.specs.declared.commands.Command.{Command}
use Rattle.pv_script.specs.declared.commands.Command.TheVariants.{Edit, Undo, Redo, History, Show, Verdicts, Need, Complete, Offer, Quit}
use Rattle.pv_script.specs.declared.replies.Reply.{Reply}
use Rattle.pv_session.specs.Sessions.{PlainSession}
use Rattle.pv_conversation.specs.CountedLines.{CountsFirst, CountsOneLine, CountsLines, GoesBehind}
use Rattle.pv_conversation.specs.CountedLines.{is_quit, no_command, no_quit, was_silent}
use Rattle.pv_conversation.specs.Session.{Place, Replies, RepliesBy, RepliesTo, answered, at_line, ended, is_among, known, no_lines, unknown, without_memory}

-- the number after the lines
pub number_behind : (silent : List ℕ) (number next : ℕ) (session middle : PlainSession) (lines : List (List ℕ)) (out : List ℕ) (here : Place) → here ≡ at_line next middle →
    Replies silent number session lines out here → next ≡ number + length lines
number_behind silent number next session middle [] out here at (no_lines none is) = let same : number ≡ next = cc in omega (arith, same)
number_behind silent number next session middle (line ∷ lines) out here at (without_memory {rest = below} is by whole) =
    let size : length (line ∷ lines) ≡ suc (length lines) = refl in
    omega (arith, size, number_behind silent (suc number) next session middle lines below here at by)
number_behind silent number next session middle (line ∷ lines) out here at (answered {after = after} {rest = below} is to by whole) =
    let size : length (line ∷ lines) ≡ suc (length lines) = refl in
    omega (arith, size, number_behind silent (suc number) next after middle lines below here at by)
number_behind silent number next session middle (line ∷ lines) out here at (ended is quits none ends) = cc

-- one more line that there was no memory for
more_among : (number other : ℕ) (silent : List ℕ) → is_among number silent ≡ true → is_among number (other ∷ silent) ≡ true
more_among number other silent is = grind (arith, common_steps)

behind_more : (number other : ℕ) (silent line : List ℕ) → GoesBehind (is_among number silent) line → GoesBehind (is_among number (other ∷ silent)) line
behind_more number other silent line (was_silent is) = was_silent (more_among number other silent is)
behind_more number other silent line (no_command none) = no_command none
behind_more number other silent line (no_quit c spells is) = no_quit c spells is

pub counts_silent : (other : ℕ) (silent : List ℕ) (number : ℕ) (lines : List (List ℕ))
    (before after : ℕ) → CountsLines silent number lines before after →
    CountsLines (other ∷ silent) number lines before after
counts_silent other silent number [] before after same = same
counts_silent other silent number (line ∷ lines) before after (middle, behind, here, rest) =
    (middle, behind_more number other silent line behind, here, counts_silent other silent (suc number) lines middle after rest)

-- lines, and the next
pub counts_then : (silent : List ℕ) (number next : ℕ) (lines : List (List ℕ)) (line : List ℕ) (before middle after : ℕ) → next ≡ number + length lines → CountsLines silent number lines before middle →
    GoesBehind (is_among next silent) line → CountsOneLine line middle after → CountsLines silent number (lines ++ line ∷ []) before after
counts_then silent number next [] line before middle after is same behind here =
    let first : next ≡ number = omega (arith, is) in
    (after, subst (λ (n : ℕ). GoesBehind (is_among n silent) line) first behind, subst (λ (n : ℕ). CountsOneLine line n after) same here, refl)
counts_then silent number next (l ∷ ls) line before middle after is (between, goes, one, rest) behind here =
    let size : length (l ∷ ls) ≡ suc (length ls) = refl in
    let later : next ≡ suc number + length ls = omega (arith, is, size) in
    (between, goes, one, counts_then silent (suc number) next ls line between middle after later rest behind here)

-- a line that has a reply doesn't end the session
not_quit : (before : PlainSession) (c : Command) (told : Reply) (after : PlainSession) → RepliesBy before c told after → is_quit c ≡ false
not_quit before (Edit e) told after by = refl
not_quit before Undo told after by = refl
not_quit before Redo told after by = refl
not_quit before History told after by = refl
not_quit before Show told after by = refl
not_quit before Verdicts told after by = refl
not_quit before Need told after by = refl
not_quit before Complete told after by = refl
not_quit before (Offer ask) told after by = refl
not_quit before Quit told after by = absurd by

pub replied_goes : (before after : PlainSession) (line : List ℕ) (told : Reply) (silent : Bool) → RepliesTo before line told after → GoesBehind silent line
replied_goes before after line told silent (unknown none is stays) = no_command none
replied_goes before after line told silent (known c spells by) = no_quit c spells (not_quit before c told after by)

-- lines that were all answered, and more after them
pub counts_all : (silent : List ℕ) (all lines : List (List ℕ)) (before after : ℕ) → all ≡ lines → CountsLines silent 1 lines before after → CountsFirst silent all before after
counts_all silent all lines before after is counts = record { first = lines; behind = []; is_cut = is ∙ sym (append-nil lines); counts = counts }

pub counts_front : (silent : List ℕ) (all lines more : List (List ℕ)) (before after : ℕ) → all ≡ lines ++ more → CountsLines silent 1 lines before after → CountsFirst silent all before after
counts_front silent all lines more before after is counts = record { first = lines; behind = more; is_cut = is; counts = counts }
