use Rattle.std.proofs.Common.{◌∙◌, length, ap, inl, inr, arith, length-append}
use Rattle.pv_chars.proofs.MeansLemmas.{is_nothing}
use Rattle.pv_chars.proofs.LastUnits.{reached_none, reached_more, reached_end}
use Rattle.pv_chars.proofs.last_units.last_units.Goals as goal
use Rattle.pv_chars.proofs.last_units.last_units.Goals.{then-units-test+else-not-is_empty}
use Rattle.pv_chars.proofs.last_units.last_units.Goals.{else-units-test}

pub units-init : goal.units-init
units-init c = reached_none c.args.bytes.now c.args.all c.args.count c.requires.units

pub before_unit-front-requires-clause-begins_character :
    goal.before_unit-front-requires-clause-begins_character
before_unit-front-requires-clause-begins_character c = c.units.invariant.begins

pub before_unit-front-requires-clause-closed : goal.before_unit-front-requires-clause-closed
before_unit-front-requires-clause-closed c = c.units.invariant.closed

pub before_unit-front-requires-clause-nests_none :
    goal.before_unit-front-requires-clause-nests_none
before_unit-front-requires-clause-nests_none c = c.units.invariant.nests

pub units-preserved : goal.units-preserved
units-preserved c = reached_more c.args.bytes.now c.units.front.now c.before_unit-front.result.now
    c.units.left c.args.count (omega (arith, c.units-test.true)) c.units.invariant
    c.before_unit-front.ensures

pub split_at-requires : goal.split_at-requires
split_at-requires c = omega (
  arith,
  ap length c.units.invariant.whole,
  length-append c.units.front.now c.units.invariant.rest,
)

pub returns : goal.returns
returns c =
    let bytes = c.args.bytes.now in
    let front = c.units.front.now in
    c.split_at.ensures.back ∙ reached_end bytes front c.args.all c.args.count c.units.left
    c.requires.units c.requires.within c.units.invariant (elim c.units-test.branch [
      | then-units-test+else-not-is_empty w ↦ inr
          (is_nothing front w.is_empty.result w.is_empty.ensures w.if-not-is_empty.false)
      | else-units-test w ↦ inl w.units-test.false
    ])
