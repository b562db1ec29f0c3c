use Rattle.std.proofs.Common.{◌∙◌, sym}
use Rattle.pv_chars.proofs.InstructionLemmas.{behind_target_where}
use Rattle.pv_chars.proofs.markup.is_behind_target.Goals as goal

pub returns-then-is_space : goal.returns-then-is_space
returns-then-is_space c = behind_target_where c.args.bytes.now c.are_chars.result c.in-len1-up.len_at_least (sym c.is_space.ensures ∙ c.if-is_space.true) c.are_chars.ensures
