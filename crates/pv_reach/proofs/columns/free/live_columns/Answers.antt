use Rattle.std.proofs.Common.{Bool, List, ap, arith, false, length, replicate, subst, sym, ℕ, ◌<◌, ◌∙◌, ◌≡◌}
use Rattle.std.proofs.lemmas.Grind.{common_steps}
use Rattle.pv_columns.specs.ColumnRules.{InRange}
use Rattle.pv_columns.specs.Marks.{IsMarked}
use Rattle.pv_reach.specs.Merging.{column_head}
use Rattle.pv_reach.proofs.LiveColumns.{head_more, none_bare}
use Rattle.pv_reach.proofs.columns.free.live_columns.Goals.{then-is_marked, else-is_marked}
use Rattle.pv_reach.proofs.columns.free.live_columns.Goals as goal

pub loop-column-init : goal.loop-column-init
loop-column-init c =
    let e : c.in_ok-live.live.items ≡ replicate c.args.wider false = c.in_ok-live.ensures.items_if_clones_equal (λ y e. e) in
    record {
      long = grind (arith, common_steps, ap length e);
      bare = none_bare c.args.merged.now c.in_ok-live.live.items c.args.wider e;
    }

pub loop-column-preserved : goal.loop-column-preserved
loop-column-preserved c =
    let m = c.args.merging.now in let x = c.loop-column.column in let before = c.loop-column.invariant in
    elim c.if-is_marked.branch [
      | then-is_marked w ↦
          let lt : x < length m.heads.items = omega (arith, c.loop-column-test.true, c.len-column-end.ensures, m.heads.ok.0) in
          let P : List Bool → Type 0 = λ v. IsMarked v x in
          let marked : IsMarked m.bare.items x = subst P c.deref.ensures.value (sym c.is_marked.ensures ∙ w.if-is_marked.true) in
          let e : w.column_head.result ≡ column_head m.heads.items x = w.column_head.ensures ∙ ap (λ v. column_head v x) w.deref-then-is_marked.ensures.value in
          rw w.live-is record {
            long = w.set_flag.ensures.long ∙ before.long;
            bare = head_more c.args.merged.now c.loop-column.live.items w.set_flag.new.flags.items
                w.column_head.result (column_head m.heads.items x) e (c.requires.heads x marked lt)
                before.bare w.set_flag.ensures.set;
          }
      | else-is_marked w ↦ rw w.live-is before
    ]

pub close_marks-requires : goal.close_marks-requires
close_marks-requires c =
    let P : ℕ → Type 0 = λ v. InRange v c.args.merged.now in
    subst P (sym (ap length c.deref_mut.ensures.value ∙ c.loop-column.invariant.long)) c.requires.in_range
