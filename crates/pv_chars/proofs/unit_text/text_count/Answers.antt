use Rattle.std.proofs.Common.{sym, ◌∙◌}
use Rattle.pv_chars.proofs.MeansLemmas.{simple_units}
use Rattle.pv_chars.proofs.unit_text.text_count.Goals as goal

pub returns-then-are_simple : goal.returns-then-are_simple
returns-then-are_simple c = simple_units c.args.bytes.now (sym c.are_simple.ensures ∙ c.if-are_simple.true)
