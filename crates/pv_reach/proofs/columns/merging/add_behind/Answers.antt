use Rattle.std.proofs.Common.{None, [], ap, arith, get_or, inr, length, subst, sym, ℕ, ◌<◌, ◌∙◌, ◌∷◌, ◌≡◌}
use Rattle.std.proofs.lemmas.List.{get_or_default}
use Rattle.pv_reach.specs.Merging.{IsFurtherRule, column_head}
use Rattle.pv_reach.proofs.StandInColumns.{adds_one, adds_twice}
use Rattle.pv_reach.proofs.columns.merging.add_behind.Goals as goal

pub loop-i-preserved : goal.loop-i-preserved
loop-i-preserved c =
    let rules = c.args.rules.now in let m = c.args.merging.now in let r = c.index-rules-number.result in let i = c.loop-i.i in
    let lt : i < length r.columns.items = omega (arith, c.loop-i-test.true, c.len-i-end.ensures, r.columns.ok.0) in
    let e : c.column_head-follower.result ≡ column_head m.heads.items (get_or r.columns.items i 0) =
    c.column_head-follower.ensures ∙ ap (λ v. column_head v c.index.result.now)
    c.deref.ensures.value ∙ ap (λ v. column_head m.heads.items v) (c.index.ensures
    ∙ get_or_default r.columns.items i c.index.result.now 0 lt) in
    let P : ℕ → Type 0 = λ v. IsFurtherRule rules (length m.heads.items) m.led.items c.args.further None (v ∷ c.args.further ∷ []) in
    adds_twice rules m c.args.new.now.items c.loop-i.new.items c.add.new.rules.items c.loop-i.invariant
    (adds_one rules m c.loop-i.new.items c.add.new.rules.items c.args.further None (c.column_head-follower.result ∷ c.args.further ∷ [])
    (inr (subst P (sym e) (c.requires.may r c.index-rules-number.is i c.loop-i.auto.i lt))) c.in_ok-add.ensures)
