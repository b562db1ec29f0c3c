use Rattle.std.proofs.Common.{◌≡◌, map, rules, sym, subst, ap, is_lt}
use Rattle.std.specs.Prelude.{IsPermutation}
use Rattle.std.proofs.lemmas.List.Sorted.{answers_always, IsPermutation-map}
use Rattle.std.proofs.lemmas.Result.{IfOk-weaker}
use Rattle.pv_standoff.specs.RangeOrder.{place_cmp, is_before}
use Rattle.pv_standoff.specs.Ranges.{IsSortedFrom}
use Rattle.pv_standoff.proofs.SortedOrder.{in_order-sorted, order_of}
use Rattle.pv_standoff.proofs.sorting.in_order.Goals as goal

pub returns : goal.returns
returns c =
    let places = c.sort_unstable_by.new.self.items in
    let sorted : IsSortedFrom c.args.ranges.now (map (λ p. p.range.now) places) = record {
      permutation = subst (λ z. IsPermutation z (map (λ p. p.range.now) places)) c.in_ok-places.ensures
          (IsPermutation-map (λ p. p.range.now) c.in_ok-places.places.items places c.sort_unstable_by.ensures.permutation);
      in_order = in_order-sorted (λ p. p.range.now) places (order_of (λ p. p.range.now))
          (c.sort_unstable_by.ensures.sorted (λ x y. is_before x.range.now y.range.now) (order_of (λ p. p.range.now))
          (answers_always _ _ _ (λ f a r g h. let e : r ≡ place_cmp a.0.now.range.now a.1.0.now.range.now = search rules in ap is_lt e)));
    } in
    IfOk-weaker c.references.result _ _ (λ v same. subst (IsSortedFrom c.args.ranges.now) (sym same)
    (subst (λ z. IsSortedFrom c.args.ranges.now (map (λ p. p.range.now) z))
    (sym c.as_slice.ensures.value) sorted)) c.references.ensures
