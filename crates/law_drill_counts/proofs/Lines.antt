-- What the lines of a drill spell.
use Rattle.std.specs.Prelude.{codes, decimal}
use Rattle.std.proofs.Common.{List, append-nil, arith, refl, ℕ, ◌++◌, ◌≡◌, ◌≤◌}
use Rattle.std.proofs.lemmas.Fmt.{decimal_digit}
use Rattle.pv_drill.specs.Drill.{section_line}
use Rattle.law_drill_tree.specs.Sections.{section_wrap}
use Rattle.pv_script.specs.Commands.{SpellsCommand, command_text}
use Rattle.pv_script.specs.Laws.{OneCommand}
use Rattle.pv_script.specs.declared.commands.Command.{Command}
use Rattle.pv_script.specs.declared.commands.Command.TheVariants as command
use Rattle.pv_script.specs.declared.replies.Reply.{Reply}
use Rattle.pv_session.specs.Sessions.{PlainSession}
use Rattle.pv_conversation.specs.Session.{RepliesBy, RepliesTo, known, unknown}

wrap_text : (k : ℕ) (name : List ℕ) → codes "wrap 0." ++ (decimal k ++ (codes " 0 1 " ++ name)) ≡ command_text (command.Edit (section_wrap k name))
wrap_text k name =
    let none : decimal 0 ≡ codes "0" = decimal_digit 0 (omega arith) in
    let one : decimal 1 ≡ codes "1" = decimal_digit 1 (omega arith) in
    rw (none, one, append-nil (decimal k)) refl

wrap_spelled : (k : ℕ) (name : List ℕ) → k ≤ 20000 → SpellsCommand (codes "wrap 0." ++ (decimal k ++ (codes " 0 1 " ++ name))) (command.Edit (section_wrap k name))
wrap_spelled k name most = record { text = wrap_text k name; numbers = (omega arith, (omega arith, (omega arith, (omega arith, tt)))) }

-- the reply to a line is that to the command that it spells
replies_known : OneCommand → (before after : PlainSession) (line : List ℕ) (c : Command) (told : Reply) → SpellsCommand line c → RepliesTo before line told after → RepliesBy before c told after
replies_known one before after line c told spells (unknown none r s) = absurd (none c spells)
replies_known one before after line c told spells (known other also by) = rw (one line c other spells also) by

pub replies_wrap_br : OneCommand → (before after : PlainSession) (k : ℕ) (told : Reply) →
    k ≤ 20000 → RepliesTo before (section_line k 0) told after →
    RepliesBy before (command.Edit (section_wrap k (codes "br"))) told after
replies_wrap_br one before after k told most r = replies_known one before after (section_line k 0) (command.Edit (section_wrap k (codes "br"))) told (wrap_spelled k (codes "br") most) r

pub replies_wrap_p : OneCommand → (before after : PlainSession) (k : ℕ) (told : Reply) → k ≤ 20000 →
    RepliesTo before (section_line k 1) told after →
    RepliesBy before (command.Edit (section_wrap k (codes "p"))) told after
replies_wrap_p one before after k told most r = replies_known one before after (section_line k 1) (command.Edit (section_wrap k (codes "p"))) told (wrap_spelled k (codes "p") most) r

pub replies_undo : OneCommand → (before after : PlainSession) (k : ℕ) (told : Reply) → RepliesTo before (section_line k 2) told after → RepliesBy before command.Undo told after
replies_undo one before after k told r = replies_known one before after (section_line k 2) command.Undo told (record { text = refl; numbers = tt }) r
