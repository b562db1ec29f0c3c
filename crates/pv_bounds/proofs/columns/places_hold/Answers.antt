use Rattle.std.proofs.Common.{arith, length, map, ℕ, ◌<◌}
use Rattle.pv_model.specs.PlainForms.{plain_token}
use Rattle.pv_layout.specs.FormForms.{plain_all}
use Rattle.pv_layout.specs.Forms.{form_at}
use Rattle.pv_bounds.specs.Fronts.{cost_from, empty_cost}
use Rattle.pv_bounds.specs.HoldingForms.{ColumnHolds}
use Rattle.pv_bounds.proofs.LevelCuts.{below_one_more}
use Rattle.pv_bounds.proofs.columns.places_hold.Goals as goal

pub loop-place-preserved : goal.loop-place-preserved
loop-place-preserved c = λ i k lt within.
    let claim = c.args.claim.now in
    let forms = c.args.forms.now in
    let holds = c.columns_hold.ensures c.if-not-columns_hold.false in
    below_one_more (λ p. (m : ℕ) → m < length forms →
    ColumnHolds (map plain_token claim.word.now) (empty_cost claim.fronts.now.empty.items)
    (cost_from claim.fronts.now) m p (form_at (plain_all forms) m)) c.loop-place.place
    (λ p l m q. c.loop-place.invariant p m l q) holds i lt k within

pub returns : goal.returns
returns c = λ t k i within lt.
    c.loop-place.invariant i k (let e = c.loop-place-test.false in omega arith) within
