use Rattle.std.proofs.Common.{◌∙◌, ap, sym, ltb, take, drop, rules}
use Rattle.std.proofs.lemmas.List.{take_at, drop_at}
use Rattle.std.proofs.lemmas.List.Sorted.{IsPartitionPoint-from_clause}
use Rattle.pv_model.proofs.SplitPlaces.{IsPartitionedBy-joined, point-joined}
use Rattle.pv_model.proofs.reach.split.Goals as goal

pub returns : goal.returns
returns c = λ xs ys e before from.
    let point = IsPartitionPoint-from_clause (λ k. ltb k c.args.middle) _ _ c.partition_point.ensures.partitioned
    (rw e (IsPartitionedBy-joined c.args.middle xs ys before from)) (λ a r q k. search rules) in
    let at = point-joined c.args.middle xs ys c.partition_point.result before from (rw e at c.partition_point.ensures.bound) (rw e at point) in (
      c.split_at.ensures.front ∙ ap (take c.partition_point.result) e ∙ take_at xs ys c.partition_point.result (sym at),
      c.split_at.ensures.back ∙ ap (drop c.partition_point.result) e ∙ drop_at xs ys c.partition_point.result (sym at),
    )
