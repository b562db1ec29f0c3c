use Rattle.std.proofs.Common.{List, Some, [], ap, arith, length, slice_get, subst, sym, ℕ, ◌∷◌, ◌≡◌}
use Rattle.std.proofs.lemmas.List.{length-append}
use Rattle.pv_productive.specs.PlainForms.{dtd_of}
use Rattle.pv_denial.specs.RowForms.{IsMost}
use Rattle.pv_denial.proofs.MostOfNames.{mosts_more}
use Rattle.pv_denial.proofs.names.most_of_names.Goals as goal

pub loop-place-preserved : goal.loop-place-preserved
loop-place-preserved c =
    let l = c.loop-place in let g = dtd_of c.args.grammar.now in let rows = c.args.barrier.now in
    let P : List ℕ → Type 0 = λ v. (i m : ℕ) → slice_get v i ≡ Some m → IsMost g rows i m in
    record {
      long = let n = ap length c.in_ok-push.ensures.items in let m = length-append l.all.items (c.most_at.result ∷ []) in let a = l.invariant.long in omega arith;
      each = subst P (sym c.in_ok-push.ensures.items) (mosts_more g rows l.all.items c.most_at.result l.place l.invariant.long c.most_at.ensures l.invariant.each);
    }
