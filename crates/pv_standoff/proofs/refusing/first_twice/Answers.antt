use Rattle.std.proofs.Common.{◌+◌, ◌-◌, take, drop, sym, ◌∙◌, subst, arith}
use Rattle.std.proofs.lemmas.List.{get_or_default}
use Rattle.std.proofs.lemmas.Bool.{true≢false}
use Rattle.pv_standoff.specs.Ranges.{HaveSamePlace, AreSorted, NoneTwice}
use Rattle.pv_standoff.specs.PlainForms.{seen}
use Rattle.pv_standoff.proofs.BuiltDocuments.{prev_next}
use Rattle.pv_standoff.proofs.FirstCrossing.{once_push}
use Rattle.pv_standoff.proofs.refusing.first_twice.Goals as goal

pub returns-then-have_same_place : goal.returns-then-have_same_place
returns-then-have_same_place c =
    let s = prev_next c.args.sorted.now c.loop-i.i c.index-sorted-i-then-have_same_place.result c.index-sorted-i-in-loop-i.result c.loop-i.invariant.1 c.loop-i-test.true
    c.index-sorted-i-then-have_same_place.is c.index-sorted-i-in-loop-i.is in
    record {
      before = take (c.loop-i.i - 1) (seen c.args.sorted.now);
      second = c.index-sorted-i-in-loop-i.result.now;
      after = drop (c.loop-i.i + 1) (seen c.args.sorted.now);
      is_split = s.0;
      once = subst NoneTwice s.1 c.loop-i.invariant.0;
      same =
          let e = c.index-sorted-i.is ∙ get_or_default c.args.sorted.now (c.loop-i.i - 1) c.index-sorted-i.result c.index-sorted-i-then-have_same_place.result
          (let t = c.loop-i-test.true in omega (arith, t)) ∙ sym c.index-sorted-i-then-have_same_place.is in
          subst (λ z. HaveSamePlace z.now c.index-sorted-i-in-loop-i.result.now) e (c.have_same_place.ensures.0 c.if-have_same_place.true);
    }

pub loop-i-preserved : goal.loop-i-preserved
loop-i-preserved c =
    let s = prev_next c.args.sorted.now c.loop-i.i c.index-sorted-i.result c.index-sorted-i-in-loop-i.result c.loop-i.invariant.1 c.loop-i-test.true
    c.index-sorted-i.is c.index-sorted-i-in-loop-i.is in (
      subst NoneTwice (sym s.2) (once_push (take (c.loop-i.i - 1) (seen c.args.sorted.now)) c.index-sorted-i.result.now c.index-sorted-i-in-loop-i.result.now
          (drop (c.loop-i.i + 1) (seen c.args.sorted.now)) (subst AreSorted s.0 c.requires) (subst NoneTwice s.1 c.loop-i.invariant.0)
          (λ h. true≢false (sym (c.have_same_place.ensures.1 h) ∙ c.if-have_same_place.false))),
      omega arith,
    )
