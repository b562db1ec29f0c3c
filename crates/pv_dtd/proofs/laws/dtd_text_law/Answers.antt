use Rattle.pv_dtd.proofs.DtdTextLaw.{means_dtd}
use Rattle.pv_dtd.proofs.laws.dtd_text_law.Goals as goal

pub returns : goal.returns
returns c = means_dtd
