use Rattle.pv_chars.specs.Characters.{is_char}
use Rattle.pv_chars.proofs.CharacterLemmas.{all_where_empty, where_ascii_chars}
use Rattle.pv_chars.proofs.characters.are_chars.Goals as goal

pub returns-then-are_ascii_chars : goal.returns-then-are_ascii_chars
returns-then-are_ascii_chars c = ((λ t. where_ascii_chars c.args.bytes.now c.are_ascii_chars.result c.are_ascii_chars.ensures c.if-are_ascii_chars.true), (λ all. c.if-are_ascii_chars.true))

pub returns-else-are_ascii_chars : goal.returns-else-are_ascii_chars
returns-else-are_ascii_chars c = all_where_empty is_char c.args.bytes.now c.after_chars.result.now c.is_empty.result c.after_chars.ensures c.is_empty.ensures
