use Rattle.pv_standoff.proofs.TextLemmas.{texts_have_no_close_mark}
use Rattle.pv_standoff.proofs.laws.text_law.Goals as goal

pub returns : goal.returns
returns c = texts_have_no_close_mark
