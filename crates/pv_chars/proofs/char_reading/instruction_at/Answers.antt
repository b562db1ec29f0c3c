use Rattle.std.proofs.Common.{codes}
use Rattle.pv_chars.specs.Markup.{IsInstruction}
use Rattle.pv_chars.proofs.InstructionLemmas.{one_instruction}
use Rattle.pv_chars.specs.CharReading.{instruction_at}
use Rattle.pv_chars.proofs.OneFront.{answer_is_read}
use Rattle.pv_chars.proofs.CharFacts.{tells_instruction, instruction_opens, item_shorter}
use Rattle.pv_chars.proofs.char_reading.instruction_at.Goals as goal

pub returns-clause-read : goal.returns-clause-read
returns-clause-read c = answer_is_read IsInstruction instruction_at tells_instruction one_instruction (λ r. r.now) c.args.bytes.now _ c.after_instruction.ensures

pub returns-clause-within : goal.returns-clause-within
returns-clause-within c = item_shorter IsInstruction 60 (codes "?") instruction_opens (λ r. r.now) c.args.bytes.now _ c.after_instruction.ensures
