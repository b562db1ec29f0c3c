use Rattle.std.proofs.Common.{get_or, inl, inr, ◌%◌, ◌^◌, ◌∙◌, ◌≡◌, ap}
use Rattle.std.specs.Prelude.{bit_or}
use Rattle.pv_columns.proofs.EdgesAndSeeds.{put_grow, put_has, put_only}
use Rattle.pv_columns.proofs.rows.put.Goals as goal

pub returns-then-number-layer_number-clause-grow : goal.returns-then-number-layer_number-clause-grow
returns-then-number-layer_number-clause-grow c =
    let v : c.union.result ≡ bit_or (get_or c.args.layer.now c.args.column 0)
    (2 ^ (c.args.number % 64)) = c.union.ensures.value
    ∙ ap (λ x. bit_or (get_or c.args.layer.now c.args.column 0) x) c.power.ensures in
    rw v (put_grow c.args.layer.now c.args.column (c.args.number % 64) c.requires)

pub returns-then-number-layer_number-clause-only : goal.returns-then-number-layer_number-clause-only
returns-then-number-layer_number-clause-only c =
    let v : c.union.result ≡ bit_or (get_or c.args.layer.now c.args.column 0)
    (2 ^ (c.args.number % 64)) = c.union.ensures.value
    ∙ ap (λ x. bit_or (get_or c.args.layer.now c.args.column 0) x) c.power.ensures in
    rw v (λ d k h. elim (put_only c.args.layer.now c.args.column (c.args.number % 64) c.requires d k h) [
      | inl o ↦ inl o
      | inr o ↦ inr (o.0, c.if-number-layer_number.true, o.1)
    ])

pub returns-then-number-layer_number-clause-has : goal.returns-then-number-layer_number-clause-has
returns-then-number-layer_number-clause-has c =
    let v : c.union.result ≡ bit_or (get_or c.args.layer.now c.args.column 0)
    (2 ^ (c.args.number % 64)) = c.union.ensures.value
    ∙ ap (λ x. bit_or (get_or c.args.layer.now c.args.column 0) x) c.power.ensures in
    rw v (λ _. put_has c.args.layer.now c.args.column (c.args.number % 64) c.requires)
