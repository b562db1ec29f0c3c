use Rattle.std.proofs.Common.{List, ap, arith}
use Rattle.pv_bounds.specs.Fronts.{least_to, reaches_at}
use Rattle.pv_bounds.specs.declared.fronts.Reach.{Reach}
use Rattle.pv_bounds.proofs.LeastCosts.{least_light}
use Rattle.pv_bounds.proofs.cuts.is_alike.Goals as goal

pub returns-then-ends_by : goal.returns-then-ends_by
returns-then-ends_by c = λ t k j m after le.
    let fronts = c.args.claim.now.fronts.now in
    let e = c.ends_by.ensures c.if-ends_by.true k after in
    let l = least_light j (reaches_at fronts c.args.pair.column c.args.place) in omega arith

pub returns : goal.returns
returns c = λ t k j m after le.
    let fronts = c.args.claim.now.fronts.now in
    let a = c.covers.ensures c.if-not-covers.false j in
    let b = c.covers_after.ensures t k after in
    let p = ap (λ (xs : List Reach). least_to j xs) c.at-here.ensures.reaches in
    let q = ap (λ (xs : List Reach). least_to j xs) c.at-there.ensures.reaches in
    let r = ap (λ (xs : List Reach). least_to k xs) c.at-first_there.ensures.reaches in
    let s = ap (λ (xs : List Reach). least_to k xs) c.at-first_here.ensures.reaches in
    let l = least_light j (reaches_at fronts c.args.pair.column c.args.place) in omega arith
