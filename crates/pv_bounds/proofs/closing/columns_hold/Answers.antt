use Rattle.pv_bounds.proofs.closing.columns_hold.Goals as goal

pub returns : goal.returns
returns c = λ t k i lt within. (
  c.places_hold.ensures c.if-not-places_hold.false k i lt within,
  c.in_ok-hold.ensures t k i lt within,
)
