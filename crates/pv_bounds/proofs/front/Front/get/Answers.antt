use Rattle.std.proofs.Common.{ap, arith, get_or, length, sym, ◌+◌, ◌-◌, ◌∙◌, ◌≡◌}
use Rattle.pv_bounds.specs.Fronts.{front_list}
use Rattle.pv_bounds.proofs.SharedEnds.{far_at, front_length}
use Rattle.pv_bounds.proofs.front.Front.get.Goals as goal

pub overflow_cast-index : goal.overflow_cast-index
overflow_cast-index c =
    let f = c.args.self.now in
    let l = front_length f f.within in
    let fits = f.fits in
    let r = c.requires in
    let p = c.if-index-near.false in omega arith

pub shared-requires : goal.shared-requires
shared-requires c =
    let f = c.args.self.now in
    let l = front_length f f.within in
    let r = c.requires in
    let p = c.if-index-near.false in omega arith

pub returns-else-index-near : goal.returns-else-index-near
returns-else-index-near c = λ d.
    let f = c.args.self.now in
    let l = front_length f f.within in
    let r = c.requires in
    let p = c.if-index-near.false in
    let n = c.args.index - length f.near.now in
    let s : c.args.index ≡ length f.near.now + n = omega arith in
    ap (λ k. get_or (front_list f) k d) s ∙ far_at f f.within n d (omega arith)
    ∙ sym c.shared.ensures
