use Rattle.std.proofs.Common.{◌-◌, drop, sym, ap, ◌∙◌, inl, inr, arith}
use Rattle.std.proofs.lemmas.List.{drop-drop}
use Rattle.pv_chars.specs.Units.{units_in}
use Rattle.pv_chars.proofs.MeansLemmas.{is_nothing}
use Rattle.pv_chars.proofs.UnitPlaceLemmas.{walked}
use Rattle.pv_chars.proofs.unit_places.walk.Goals as goal
use Rattle.pv_chars.proofs.unit_places.walk.Goals.{then-runs-test+else-not-is_empty, else-runs-test}

pub runs-preserved : goal.runs-preserved
runs-preserved c =
    let us = units_in c.runs.rest.now in
    let passed = c.after_run-passed.result.0 in
    let more = c.runs.left - passed in
    ap (drop more) (sym c.after_run-passed.ensures.passed) ∙ drop-drop more passed us ∙ ap (λ n. drop n us) (omega (arith, c.after_run-passed.ensures.within)) ∙ c.runs.invariant

pub returns : goal.returns
returns c =
    let bytes = c.args.bytes.now in
    let rest = c.runs.rest.now in
    c.after_character.ensures ∙ walked bytes rest c.runs.left c.args.count c.runs.invariant (elim c.runs-test.branch [
      | then-runs-test+else-not-is_empty w ↦ inr (is_nothing rest w.is_empty.result w.is_empty.ensures w.if-not-is_empty.false)
      | else-runs-test w ↦ inl w.runs-test.false
    ])
