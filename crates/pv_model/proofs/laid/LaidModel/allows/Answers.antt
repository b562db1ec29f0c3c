use Rattle.pv_model.specs.PlainForms.{plain_model, plain_layout}
use Rattle.pv_model.specs.Forms.{HasPairs}
use Rattle.pv_model.proofs.LongAnswer.{children-means}
use Rattle.pv_model.proofs.laid.LaidModel.allows.Goals as goal

pub returns-in-Ok : goal.returns-in-Ok
returns-in-Ok c =
    let form : HasPairs (plain_model c.self.inside.model) (plain_layout c.in-Pairs.layout) c.in-Pairs.places c.in-Pairs.may_be_empty = rw c.in-Pairs.is at c.self.invariant in
    let found = rw c.in-Ok.is at c.has_tokens.ensures in
    rw (← c.self.view_is, form.is) (children-means form.particle _ form.words _ _ found)

pub returns-in-Err-TooMany : goal.returns-in-Err-TooMany
returns-in-Err-TooMany c = rw (← c.self.view_is) c.matches_by_walk.ensures
