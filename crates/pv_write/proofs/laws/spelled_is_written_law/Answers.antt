use Rattle.pv_write.proofs.WrittenTexts.{doc_text-spelled}
use Rattle.pv_write.proofs.laws.spelled_is_written_law.Goals as goal

pub returns : goal.returns
returns c = doc_text-spelled
