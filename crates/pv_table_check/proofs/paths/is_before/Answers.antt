use Rattle.std.proofs.Common.{arith, inl, inr, length}
use Rattle.std.proofs.lemmas.Bool.{cases_lt, lt-ltb, ltb-true}
use Rattle.pv_table_check.proofs.PathSteps.{both_end, one_ends, other_ends}
use Rattle.pv_table_check.proofs.paths.is_before.Goals as goal

pub returns-in_default : goal.returns-in_default
returns-in_default c =
    let past = c.in_default.ensures.lookup.3 in
    (λ t. absurd cc, λ h. absurd (other_ends c.args.one.now c.args.other.now c.loop-place.place c.loop-place.invariant c.loop-place-test.true (omega arith) h))

pub returns : goal.returns
returns c =
    let one = c.args.one.now in
    let other = c.args.other.now in
    let end = c.loop-place-test.false in
    let within = c.loop-place.auto.place-end in (
      λ t. let lt = ltb-true (length one) (length other) t in one_ends one other c.loop-place.place c.loop-place.invariant (omega arith) (omega arith),
      λ h. elim (cases_lt (length one) (length other)) [
        | inl lt ↦ lt-ltb (length one) (length other) lt
        | inr le ↦ absurd (both_end one other c.loop-place.place c.loop-place.invariant (omega arith) (omega arith) h)
      ],
    )
