use Rattle.std.proofs.Common.{◌≡◌, inr, length, sym, ◌∙◌, subst, arith}
use Rattle.pv_standoff.specs.Lines.{IsFirstNoRange}
use Rattle.pv_standoff.specs.Ranges.{AreNamed}
use Rattle.pv_standoff.proofs.ReadingLemmas.{HasRead, read-fault, read-more, read-named, read-too_many}
use Rattle.pv_standoff.proofs.reading.read_ranges.Goals as goal

pub returns-then-len-eq-MAX_RANGES-clause-read : goal.returns-then-len-eq-MAX_RANGES-clause-read
returns-then-len-eq-MAX_RANGES-clause-read c =
    inr (read-too_many c.args.bytes.now c.lines.ranges.items c.lines.rest.now c.in-Some.line.now c.in-Some.more.now c.lines.invariant c.in-Some.ensures.lines
    (let e = c.len.ensures in let k = c.lines.ranges.ok in let t = c.if-len-eq-MAX_RANGES.true in omega (arith, e, k, t)))

pub returns-in_default-2-clause-read : goal.returns-in_default-2-clause-read
returns-in_default-2-clause-read c =
    let e : length c.lines.ranges.items ≡ c.len-in_default-2.result = (let e = c.len-in_default-2.ensures in let k = c.lines.ranges.ok in omega (arith, e, k)) in
    inr (subst (IsFirstNoRange c.args.bytes.now) e (read-fault c.args.bytes.now c.lines.ranges.items c.lines.rest.now c.in-Some.line.now c.in-Some.more.now c.lines.invariant c.in-Some.ensures.lines
    (c.in_ok-range.ensures ∙ c.in_default-2.is)
    (λ full. let e = c.len.ensures in let k = c.lines.ranges.ok in let f = c.if-len-eq-MAX_RANGES.false in f (omega (arith, e, k, full)))))

pub lines-preserved : goal.lines-preserved
lines-preserved c =
    subst (λ z. HasRead c.args.bytes.now z c.in-Some.more.now) (sym c.in_ok-push.ensures.items)
    (read-more c.args.bytes.now c.lines.ranges.items c.lines.rest.now c.in-Some.line.now c.in-Some.more.now c.in-Some-2.range c.lines.invariant c.in-Some.ensures.lines
    (c.in_ok-range.ensures ∙ c.in-Some-2.is)
    (λ full. let e = c.len.ensures in let k = c.lines.ranges.ok in let f = c.if-len-eq-MAX_RANGES.false in f (omega (arith, e, k, full))))

pub returns-clause-named : goal.returns-clause-named
returns-clause-named c = subst AreNamed (sym c.of.ensures) (read-named c.args.bytes.now c.lines.ranges.items c.lines.rest.now c.lines.invariant)
