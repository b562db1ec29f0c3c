use Rattle.std.proofs.Common.{refl, inr, sym, ◌∙◌}
use Rattle.pv_chars.specs.Characters.{is_char}
use Rattle.pv_chars.proofs.CharacterLemmas.{ends_at_other}
use Rattle.pv_chars.proofs.unit_text.after_any_unit.Goals as goal

pub returns-then-not-is_char : goal.returns-then-not-is_char
returns-then-not-is_char c = (refl, inr (c.requires, ends_at_other is_char c.args.bytes.now c.in-Some.rest.now c.in-Some.c c.in-Some.ensures.found (sym c.is_char.ensures ∙ c.if-not-is_char.true)))
