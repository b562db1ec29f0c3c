use Rattle.std.proofs.Common.{ap, arith, sym, ◌∙◌, ◌≡◌}
use Rattle.pv_bounds.specs.declared.windows.Level.{Level}
use Rattle.pv_bounds.proofs.ChangedLevels.{set_keeps, set_tells}
use Rattle.pv_bounds.proofs.windows.tell_at.Goals as goal

pub returns-clause-told : goal.returns-clause-told
returns-clause-told c =
    let old = c.index-levels-index.result in
    let is = c.index-levels-index.is in
    let f = ap (λ (y : Level). y.cost) is in
    let same : c.tell.new.self.cost ≡ old.cost = c.tell.ensures.cost ∙ sym f in
    let q = c.requires.cost old in
    set_tells c.args.levels.now c.args.index old c.tell.new.self c.requires.within is same
    c.args.place c.args.reach (omega arith) c.in_ok-tell.ensures.told

pub returns-clause-kept : goal.returns-clause-kept
returns-clause-kept c =
    let old = c.index-levels-index.result in
    let is = c.index-levels-index.is in
    let same : c.tell.new.self.cost ≡ old.cost =
    c.tell.ensures.cost ∙ sym (ap (λ (y : Level). y.cost) is) in
    set_keeps c.args.levels.now c.args.index old c.tell.new.self c.requires.within is same
    (rw (← is) at c.in_ok-tell.ensures.kept)
