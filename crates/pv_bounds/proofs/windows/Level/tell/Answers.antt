use Rattle.std.proofs.Common.{ap, arith, ◌++◌, ◌∙◌, ◌∷◌, ◌≡◌, List, [], take}
use Rattle.pv_bounds.specs.declared.windows.Stretch.{Stretch}
use Rattle.pv_bounds.proofs.Stretches.{added_falls, added_keeps, added_tells}
use Rattle.pv_bounds.proofs.windows.Level.tell.Goals as goal

pub returns-clause-falling : goal.returns-clause-falling
returns-clause-falling c =
    let rs = c.args.self.now.records.items in
    let kept = c.ending_behind-kept.result in
    let new : Stretch = record { place = c.nearest-near.result; end = c.args.end } in
    let near = rw c.deref.ensures.value at c.nearest-near.ensures.all in
    let within = rw c.deref-2.ensures.value at c.ending_behind-kept.ensures.within in
    let last = rw c.deref-2.ensures.value at c.ending_behind-kept.ensures.last in
    let others = rw c.deref-2.ensures.value at c.ending_behind-kept.ensures.others in
    let e : c.push.new.self.items ≡ take kept rs ++ new ∷ [] =
    c.in_ok-push.ensures.items ∙ ap (λ (ys : List Stretch). ys ++ new ∷ []) c.truncate.ensures.items in
    rw e (added_falls rs c.requires kept within new near last others)

pub returns-clause-told : goal.returns-clause-told
returns-clause-told c =
    let rs = c.args.self.now.records.items in
    let kept = c.ending_behind-kept.result in
    let new : Stretch = record { place = c.nearest-near.result; end = c.args.end } in
    let near = rw c.deref.ensures.value at c.nearest-near.ensures.all in
    let within = rw c.deref-2.ensures.value at c.ending_behind-kept.ensures.within in
    let last = rw c.deref-2.ensures.value at c.ending_behind-kept.ensures.last in
    let others = rw c.deref-2.ensures.value at c.ending_behind-kept.ensures.others in
    let e : c.push.new.self.items ≡ take kept rs ++ new ∷ [] =
    c.in_ok-push.ensures.items ∙ ap (λ (ys : List Stretch). ys ++ new ∷ []) c.truncate.ensures.items in
    rw e (added_tells rs c.requires kept within new near last others c.args.place c.args.end c.nearest-near.ensures.other (omega arith))

pub returns-clause-kept : goal.returns-clause-kept
returns-clause-kept c =
    let rs = c.args.self.now.records.items in
    let kept = c.ending_behind-kept.result in
    let new : Stretch = record { place = c.nearest-near.result; end = c.args.end } in
    let near = rw c.deref.ensures.value at c.nearest-near.ensures.all in
    let within = rw c.deref-2.ensures.value at c.ending_behind-kept.ensures.within in
    let last = rw c.deref-2.ensures.value at c.ending_behind-kept.ensures.last in
    let others = rw c.deref-2.ensures.value at c.ending_behind-kept.ensures.others in
    let e : c.push.new.self.items ≡ take kept rs ++ new ∷ [] =
    c.in_ok-push.ensures.items ∙ ap (λ (ys : List Stretch). ys ++ new ∷ []) c.truncate.ensures.items in
    rw e (added_keeps rs c.requires kept within new near last others)
