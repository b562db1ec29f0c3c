use Rattle.pv_read.proofs.TextLaw.{texts_are_runs, units_are_character_data, character_data_is_units}
use Rattle.pv_read.proofs.laws.text_law.Goals as goal

pub returns : goal.returns
returns c = record { run = texts_are_runs; units = units_are_character_data; back = character_data_is_units }
