use Rattle.std.proofs.Common.{◌+◌, take, drop, sym, ◌∙◌, arith}
use Rattle.std.proofs.lemmas.Bool.{true≢false}
use Rattle.std.proofs.lemmas.List.{length-take-le}
use Rattle.pv_standoff.proofs.BuiltDocuments.{split_index}
use Rattle.pv_standoff.proofs.refusing.first_outside.Goals as goal

pub returns-then-not-is_inside : goal.returns-then-not-is_inside
returns-then-not-is_inside c = record {
  before = take c.loop-k.k c.args.ranges.now;
  range = c.index-ranges-k.result;
  after = drop (c.loop-k.k + 1) c.args.ranges.now;
  is_split = split_index c.args.ranges.now c.loop-k.k c.index-ranges-k.result c.loop-k-test.true c.index-ranges-k.is;
  is_number = sym (length-take-le c.loop-k.k c.args.ranges.now (let t = c.loop-k-test.true in omega (arith, t)));
  inside = c.loop-k.invariant;
  outside = λ h. let f = c.if-not-is_inside.true in true≢false (sym (c.is_inside.ensures.1 h) ∙ f);
}
