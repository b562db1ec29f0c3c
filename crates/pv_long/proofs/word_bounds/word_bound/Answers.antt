use Rattle.std.proofs.Common.{length, map, ◌≡◌}
use Rattle.std.proofs.lemmas.List.{length-map}
use Rattle.pv_model.specs.PlainForms.{plain_token}
use Rattle.pv_dtd.proofs.ProperDtds.{proper}
use Rattle.pv_productive.specs.PlainForms.{dtd_of}
use Rattle.pv_missing.specs.PlainForms.{plain_of}
use Rattle.pv_bounds.specs.Fronts.{front_value}
use Rattle.pv_long.proofs.BoundSums.{bound_told}
use Rattle.pv_long.proofs.word_bounds.word_bound.Goals as goal

pub returns-then-branch : goal.returns-then-branch
returns-then-branch c = λ root list words site.
    let g = dtd_of c.args.layout.now.grammar.now in
    let w = map plain_token c.args.word.now in
    let n : length c.args.word.now ≡ length w = simp length-map in
    bound_told g root list w (plain_of c.args.of) (front_value c.args.layout.now c.args.fronts.now) c.bound.result c.below_sites_law.ensures
    (proper c.args.layout.now.grammar.now.layout.dtd) words site (c.in_ok-are_closed.ensures c.if-branch.true)
    (rw (c.site_at.ensures, n) at c.bound.ensures)
