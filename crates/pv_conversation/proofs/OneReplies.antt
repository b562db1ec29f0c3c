-- Lines have the same replies where there was no memory for the same of them, but for the documents of completions.
use Rattle.std.proofs.Common.{◌≡◌, ℕ, suc, List, [], ◌∷◌, sym, ap, refl, ◌∙◌, subst}
use Rattle.pv_script.specs.Commands.{SpellsCommand}
use Rattle.pv_script.specs.Laws.{OneCommand}
use Rattle.pv_script.specs.declared.commands.Command.{Command}
use Rattle.pv_script.specs.declared.commands.Command.TheVariants.{Edit, Undo, Redo, History, Show, Verdicts, Need, Complete, Offer, Quit}
use Rattle.pv_script.specs.declared.replies.Reply.{Reply}
use Rattle.pv_script.specs.declared.replies.Reply.TheVariants.{NoMemory}
use Rattle.pv_script.specs.declared.replies.Reply.TheVariants.{Verdicts as tells}
use Rattle.pv_cache.proofs.OneRows.{one_rows}
use Rattle.pv_session.specs.Laws.{StepsHaveOneAnswer}
use Rattle.pv_session.specs.Sessions.{PlainSession, stamped_document}
use Rattle.pv_session.specs.Steps.{PlainAnswer, IsEditStep, IsUndoStep, IsRedoStep}
use Rattle.pv_conversation.specs.Session.{RepliesBy, RepliesByStep, RepliesTo, unknown, known, reply_to, Replies, no_lines, without_memory, answered, ended}
use Rattle.pv_conversation.specs.Alike.{RepliesAlike, are_one, begins_alike, ends_alike}
use Rattle.pv_conversation.specs.Laws.{HasOneReply, HasOneOutput}
use Rattle.pv_conversation.proofs.OneNeed.{one_completion, one_told}
use Rattle.pv_conversation.proofs.OneOffer.{OffersOnce, one_told_offer}

-- a line spells one command, each move of a session has one answer, and there is one offer
pub record AnswersOnce : Type 0 where
  pub commands : OneCommand
  pub steps : StepsHaveOneAnswer
  pub offers : OffersOnce

by_step : (IsStep : PlainAnswer → PlainSession → Type 0) → ((s t : PlainSession) (a b : PlainAnswer) → IsStep a s → IsStep b t → (a ≡ b) × (s ≡ t)) →
    (told also : Reply) (after later : PlainSession) → RepliesByStep IsStep told after → RepliesByStep IsStep also later →
    RepliesAlike told also × (after ≡ later)
by_step IsStep one told also after later here there =
    let same = one after later here.0 there.0 here.1 there.1 in
    (are_one (here.2 ∙ ap reply_to same.0 ∙ sym there.2), same.1)

one_by : AnswersOnce → (session : PlainSession) (command : Command) (told also : Reply) (after later : PlainSession) →
    RepliesBy session command told after → RepliesBy session command also later → RepliesAlike told also × (after ≡ later)
one_by once session (Edit e) told also after later here there =
    by_step (λ answer later. IsEditStep session e answer later) (once.steps.edit e session) told also after later here there
one_by once session Undo told also after later here there =
    by_step (λ answer later. IsUndoStep session answer later) (once.steps.undo session) told also after later here there
one_by once session Redo told also after later here there =
    by_step (λ answer later. IsRedoStep session answer later) (once.steps.redo session) told also after later here there
one_by once session History told also after later here there = (are_one (here.0 ∙ sym there.0), here.1 ∙ sym there.1)
one_by once session Show told also after later here there = (are_one (here.0 ∙ sym there.0), here.1 ∙ sym there.1)
one_by once session Verdicts told also after later here there =
    (are_one (here.1 ∙ ap tells (one_rows (stamped_document session) here.0 there.0 here.2 there.2) ∙ sym there.1), here.3 ∙ sym there.3)
one_by once session Need told also after later here there = (are_one (one_told session told also here.0 there.0), here.1 ∙ sym there.1)
one_by once session Complete told also after later here there = (one_completion session told also here.0 there.0, here.1 ∙ sym there.1)
one_by once session (Offer ask) told also after later here there = (are_one (one_told_offer once.offers session ask told also here.0 there.0), here.1 ∙ sym there.1)
one_by once session Quit told also after later here there = absurd here

pub one_reply : AnswersOnce → HasOneReply
one_reply once session line told also after later (unknown none is stays) (unknown never are keeps) = (are_one (is ∙ sym are), stays ∙ sym keeps)
one_reply once session line told also after later (unknown none is stays) (known command spells by) = absurd (none command spells)
one_reply once session line told also after later (known command spells by) (unknown none are keeps) = absurd (none command spells)
one_reply once session line told also after later (known command spells by) (known other reads of) =
    let same = once.commands line command other spells reads in
    one_by once session command told also after later by (subst (λ (c : Command). RepliesBy session c also later) (sym same) of)

no_quit : AnswersOnce → (session : PlainSession) (line : List ℕ) (told : Reply) (after : PlainSession) → RepliesTo session line told after →
    SpellsCommand line Quit → ⊥
no_quit once session line told after (unknown none is stays) ends = none Quit ends
no_quit once session line told after (known command spells by) ends =
    subst (λ (c : Command). RepliesBy session c told after) (once.commands line command Quit spells ends) by

pub one_replies : AnswersOnce → HasOneOutput
one_replies once silent number session [] out also place spot (no_lines e at) (no_lines f on) = (ends_alike (e ∙ sym f), at ∙ sym on)
one_replies once silent number session (line ∷ lines) out also place spot (without_memory {rest = rest} is r e) (without_memory {rest = more} are s f) =
    let below = one_replies once silent (suc number) session lines rest more place spot r s in
    (begins_alike NoMemory NoMemory rest more (are_one refl) below.0 e f, below.1)
one_replies once silent number session (line ∷ lines) out also place spot (without_memory is r e) (answered p a s f) = cc
one_replies once silent number session (line ∷ lines) out also place spot (without_memory is r e) (ended p ends f at) = cc
one_replies once silent number session (line ∷ lines) out also place spot (answered p a r e) (without_memory is s f) = cc
one_replies once silent number session (line ∷ lines) out also place spot (answered {after = after} {told = told} {rest = rest} p a r e)
    (answered {after = later} {told = other} {rest = more} q b s f) =
    let here = one_reply once session line told other after later a b in
    let same = subst (λ (m : PlainSession). Replies silent (suc number) m lines more spot) (sym here.1) s in
    let below = one_replies once silent (suc number) after lines rest more place spot r same in
    (begins_alike told other rest more here.0 below.0 e f, below.1)
one_replies once silent number session (line ∷ lines) out also place spot (answered p a r e) (ended q ends f at) =
    absurd (no_quit once session line _ _ a ends)
one_replies once silent number session (line ∷ lines) out also place spot (ended p ends e at) (without_memory is s f) = cc
one_replies once silent number session (line ∷ lines) out also place spot (ended p ends e at) (answered q b s f) =
    absurd (no_quit once session line _ _ b ends)
one_replies once silent number session (line ∷ lines) out also place spot (ended p ends e at) (ended q also_ends f on) = (ends_alike (e ∙ sym f), at ∙ sym on)
