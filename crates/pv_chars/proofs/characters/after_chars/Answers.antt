use Rattle.std.proofs.Common.{◌∙◌, sym}
use Rattle.pv_chars.specs.Characters.{is_char}
use Rattle.pv_chars.proofs.CharacterLemmas.{one_more, ends_at_other, ends_at_none}
use Rattle.pv_chars.proofs.Ranges.{char_is_scalar}
use Rattle.pv_chars.proofs.characters.after_chars.Goals as goal

pub returns-then-not-is_char : goal.returns-then-not-is_char
returns-then-not-is_char c =
    let taken = c.chars.invariant in
    let other = sym c.is_char.ensures ∙ c.if-not-is_char.true in
    record { front = taken.0; are_all = taken.1; whole = taken.2; ends = ends_at_other is_char c.chars.rest.now c.in-Some.more.now c.in-Some.c c.in-Some.ensures.found other }

pub chars-preserved : goal.chars-preserved
chars-preserved c =
    let taken = c.chars.invariant in
    one_more is_char c.args.bytes.now taken.0 c.chars.rest.now c.in-Some.more.now c.in-Some.c taken.1 taken.2 c.in-Some.ensures.found (sym c.is_char.ensures ∙ c.if-not-is_char.false)

pub returns : goal.returns
returns c =
    let taken = c.chars.invariant in
    record { front = taken.0; are_all = taken.1; whole = taken.2; ends = ends_at_none is_char c.chars.rest.now char_is_scalar c.in_default.ensures.found }
