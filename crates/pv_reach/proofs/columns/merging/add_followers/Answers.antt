use Rattle.std.proofs.Common.{Bool, List, ap, get_or, subst, ℕ, ◌∙◌, ◌≡◌}
use Rattle.pv_columns.specs.Marks.{AreMarked}
use Rattle.pv_columns.proofs.ClosedMarks.{marked_at}
use Rattle.pv_reach.specs.Merging.{column_head}
use Rattle.pv_reach.proofs.StandInColumns.{behind_own}
use Rattle.pv_reach.proofs.columns.merging.add_followers.Goals as goal

pub add_behind-requires-clause-may : goal.add_behind-requires-clause-may
add_behind-requires-clause-may c =
    let m = c.args.merging.now in let r = c.index-rules-number.result in let place = c.in-Some-own_place.place in
    let f = c.in-Some.ensures in
    let H : List ℕ → Type 0 = λ v. column_head v (get_or r.columns.items place 0) ≡ column_head v r.left in
    let e : c.column_head.result ≡ column_head m.heads.items r.left = c.column_head.ensures ∙ ap (λ v. column_head v r.left) c.deref.ensures.value in
    behind_own c.args.rules.now m c.args.number c.requires.number r c.index-rules-number.is c.requires.merging place c.in-Some.further (c.is_open.ensures.token c.if-is_open.true)
    (marked_at m.bare.items r.columns.items
    (let B : List Bool → Type 0 = λ v. AreMarked v r.columns.items in subst B
    c.deref-3.ensures.value (c.is_open.ensures.marked c.if-is_open.true))) c.in-Some-own_place.ensures.0
    (subst H c.deref-2.ensures.value c.in-Some-own_place.ensures.1) f.0 f.1 f.2 (f.3 ∙ e)
