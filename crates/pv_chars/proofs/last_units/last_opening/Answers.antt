use Rattle.std.proofs.Common.{◌-◌, ◌∙◌, length, take, get_or, sym}
use Rattle.pv_chars.specs.Utf8.{continues}
use Rattle.pv_chars.proofs.LastUnits.{snoc_of, passed_none, passed_one, opening_found, no_opening}
use Rattle.pv_chars.proofs.last_units.last_opening.Goals as goal

pub bytes-init : goal.bytes-init
bytes-init c = passed_none continues c.args.bytes.now

pub returns-then-not-continues : goal.returns-then-not-continues
returns-then-not-continues c =
    let rest = c.bytes.rest.now in
    opening_found c.args.bytes.now rest (take (length rest - 1) rest)
    (get_or rest (length rest - 1) 0) (snoc_of rest c.in-len1-up.len_at_least)
    (sym c.continues.ensures ∙ c.if-not-continues.true) c.bytes.invariant

pub bytes-preserved : goal.bytes-preserved
bytes-preserved c =
    let rest = c.bytes.rest.now in
    passed_one continues c.args.bytes.now rest (take (length rest - 1) rest)
    (get_or rest (length rest - 1) 0) (snoc_of rest c.in-len1-up.len_at_least)
    (sym c.continues.ensures ∙ c.if-not-continues.false) c.bytes.invariant

pub unreachable-requires : goal.unreachable-requires
unreachable-requires c = no_opening c.args.bytes.now c.bytes.rest.now c.requires.some
    c.requires.begins_character c.in_default.len_below c.bytes.invariant
