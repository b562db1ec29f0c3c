use Rattle.std.proofs.lemmas.Bool.{iff_false}
use Rattle.pv_read.proofs.RunLemmas.{no_run}
use Rattle.pv_read.proofs.forms.texts.text_run_at.Goals as goal

pub returns-then-not-is_character_data : goal.returns-then-not-is_character_data
returns-then-not-is_character_data c =
    no_run c.args.bytes.now c.run_at.result.0.now c.run_at.result.1.now c.run_at.ensures.whole
    c.run_at.ensures.free c.run_at.ensures.ends (iff_false c.is_character_data.ensures
    c.if-not-is_character_data.true)
