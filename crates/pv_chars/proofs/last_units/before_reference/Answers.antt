use Rattle.std.proofs.Common.{◌-◌, length, take, get_or}
use Rattle.pv_chars.proofs.LastUnits.{snoc_of, passed_none, passed_one, is_other, is_one_other}
use Rattle.pv_chars.proofs.LastUnits.{open_found, closed_before, none_open}
use Rattle.pv_chars.proofs.last_units.before_reference.Goals as goal

pub bytes-init : goal.bytes-init
bytes-init c = passed_none is_other c.args.bytes.now

pub returns-then-b-eq38 : goal.returns-then-b-eq38
returns-then-b-eq38 c =
    let rest = c.bytes.rest.now in
    open_found c.args.bytes.now rest (take (length rest - 1) rest) (get_or rest (length rest - 1) 0)
    (snoc_of rest c.in-len1-up.len_at_least) c.if-b-eq38.true c.bytes.invariant

pub returns-then-b-eq59 : goal.returns-then-b-eq59
returns-then-b-eq59 c =
    let rest = c.bytes.rest.now in
    closed_before c.args.bytes.now rest (take (length rest - 1) rest)
    (get_or rest (length rest - 1) 0) (snoc_of rest c.in-len1-up.len_at_least) c.if-b-eq59.true
    c.bytes.invariant

pub bytes-preserved : goal.bytes-preserved
bytes-preserved c =
    let rest = c.bytes.rest.now in
    let b = get_or rest (length rest - 1) 0 in
    passed_one is_other c.args.bytes.now rest (take (length rest - 1) rest) b
    (snoc_of rest c.in-len1-up.len_at_least)
    (is_one_other b c.if-b-eq38.false c.if-b-eq59.false) c.bytes.invariant

pub returns : goal.returns
returns c = none_open c.args.bytes.now c.bytes.rest.now c.in_default.len_below c.bytes.invariant
