use Rattle.std.proofs.Common.{get_or, sym, ◌∙◌, ap}
use Rattle.pv_chars.specs.Texts.{joined}
use Rattle.pv_chars.proofs.Arms.{cons_of}
use Rattle.pv_chars.proofs.UnitPlaceLemmas.{continued, begun_whole, none_whole}
use Rattle.pv_chars.proofs.unit_places.after_character.Goals as goal

pub returns-then-not-continues : goal.returns-then-not-continues
returns-then-not-continues c =
    let rest = c.bytes.rest.now in
    begun_whole rest (get_or rest 0 0) _ (cons_of rest c.in-len1-up.len_at_least) (sym c.continues.ensures ∙ c.if-not-continues.true) ∙ ap joined c.bytes.invariant

pub bytes-preserved : goal.bytes-preserved
bytes-preserved c =
    let rest = c.bytes.rest.now in
    continued rest (get_or rest 0 0) _ (cons_of rest c.in-len1-up.len_at_least) (sym c.continues.ensures ∙ c.if-not-continues.false) ∙ c.bytes.invariant

pub returns : goal.returns
returns c = none_whole c.bytes.rest.now c.in_default.len_below ∙ ap joined c.bytes.invariant
