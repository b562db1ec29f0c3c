use Rattle.std.proofs.Common.{refl}
use Rattle.pv_dtd.specs.Items.{text_declaration, skipped, comment, instruction}
use Rattle.pv_dtd.proofs.BrokenRules.{silent_keeps}
use Rattle.pv_dtd.proofs.rules.broken_rule.Goals as goal

pub returns-in-TextDeclaration : goal.returns-in-TextDeclaration
returns-in-TextDeclaration c = rw c.in-TextDeclaration.is (silent_keeps _ _ c.requires.types c.requires.parts text_declaration refl refl refl refl)

pub returns-in-Skipped : goal.returns-in-Skipped
returns-in-Skipped c = rw c.in-Skipped.is (silent_keeps _ _ c.requires.types c.requires.parts skipped refl refl refl refl)

pub returns-in-Comment : goal.returns-in-Comment
returns-in-Comment c = rw c.in-Comment.is (silent_keeps _ _ c.requires.types c.requires.parts comment refl refl refl refl)

pub returns-in-Instruction : goal.returns-in-Instruction
returns-in-Instruction c = rw c.in-Instruction.is (silent_keeps _ _ c.requires.types c.requires.parts instruction refl refl refl refl)
