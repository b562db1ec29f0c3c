use Rattle.pv_chars.proofs.MarkupLemmas.{one_comment, one_cdata}
use Rattle.pv_chars.proofs.InstructionLemmas.{one_instruction}
use Rattle.pv_chars.proofs.laws.one_item_law.Goals as goal

pub returns-clause-comment : goal.returns-clause-comment
returns-clause-comment c = one_comment

pub returns-clause-instruction : goal.returns-clause-instruction
returns-clause-instruction c = one_instruction

pub returns-clause-cdata : goal.returns-clause-cdata
returns-clause-cdata c = one_cdata
