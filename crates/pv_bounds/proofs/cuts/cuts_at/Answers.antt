use Rattle.std.proofs.Common.{List, ap, arith, suc}
use Rattle.std.proofs.lemmas.List.{length-map}
use Rattle.pv_model.specs.PlainForms.{plain_token}
use Rattle.pv_bounds.specs.Fronts.{front_list, least_to}
use Rattle.pv_bounds.specs.declared.fronts.Reach.{Reach}
use Rattle.pv_bounds.proofs.LevelCuts.{window_cuts}
use Rattle.pv_bounds.proofs.cuts.cuts_at.Goals as goal

pub returns : goal.returns
returns c = λ t e window k j a b.
    let claim = c.args.claim.now in
    let ones = front_list c.at-front.result in
    let firsts = front_list c.at.result in
    let m = length-map claim.word.now plain_token in
    let s = claim.long in
    let w = window_cuts claim.fronts.now e c.args.place (suc c.args.place) claim.tokens
    c.args.levels.now ones firsts (c.all_levels_hold.ensures t) window (omega arith) k j a
    (omega arith) in
    let p = ap (λ (xs : List Reach). least_to j xs) c.at-front.ensures.reaches in
    let q = ap (λ (xs : List Reach). least_to k xs) c.at.ensures.reaches in omega arith
