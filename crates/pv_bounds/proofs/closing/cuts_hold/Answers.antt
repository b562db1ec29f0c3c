use Rattle.std.proofs.Common.{ap, arith, map, sym, ℕ, ◌<◌, ◌∙◌, ◌≡◌}
use Rattle.std.proofs.lemmas.List.{get_or-map}
use Rattle.pv_model.specs.PlainForms.{plain_token}
use Rattle.pv_layout.specs.FormForms.{plain_all, plain_form}
use Rattle.pv_layout.specs.Forms.{form_at, of_none}
use Rattle.pv_bounds.specs.Fronts.{cost_from, empty_cost}
use Rattle.pv_bounds.specs.HoldingForms.{FormCutsHold}
use Rattle.pv_bounds.proofs.LevelCuts.{below_one_more}
use Rattle.pv_bounds.proofs.closing.cuts_hold.Goals as goal

pub loop-number-preserved : goal.loop-number-preserved
loop-number-preserved c = λ k i lt within.
    let claim = c.args.claim.now in
    let forms = c.args.forms.now in
    let n = c.loop-number.number in
    let read = c.index-forms-number in
    let at : form_at (plain_all forms) n ≡ plain_form read.result =
    get_or-map plain_form forms n read.result of_none c.loop-number-test.true ∙
    ap plain_form (sym read.is) in
    let holds = c.in_ok-form_cuts_hold.ensures c.if-not-branch.false in
    below_one_more (λ m. (p : ℕ) → p < claim.tokens →
    FormCutsHold (map plain_token claim.word.now) (empty_cost claim.fronts.now.empty.items)
    (cost_from claim.fronts.now) m p (form_at (plain_all forms) m)) n
    (λ m l p q. c.loop-number.invariant m p l q) (rw at holds) k lt i within

pub returns : goal.returns
returns c = λ t k i lt within.
    c.loop-number.invariant k i (let e = c.loop-number-test.false in omega arith) within
