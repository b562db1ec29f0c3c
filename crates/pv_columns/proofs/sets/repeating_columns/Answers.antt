use Rattle.std.proofs.Common.{Bool, List, arith, drop, length, subst, sym, take, ℕ, ◌++◌, ◌≡◌}
use Rattle.std.proofs.lemmas.Grind.{common_steps}
use Rattle.pv_columns.specs.Marks.{IsMarked}
use Rattle.pv_columns.specs.Bits.{HasIn}
use Rattle.pv_columns.specs.Frees.{RepeatBefore}
use Rattle.pv_columns.specs.Rows.{IsLayer}
use Rattle.pv_columns.specs.declared.sets.Layer.{Layer}
use Rattle.pv_columns.proofs.FreeColumns.{all_free, one_layer}
use Rattle.pv_columns.proofs.sets.repeating_columns.Goals as goal

pub loop-number-preserved : goal.loop-number-preserved
loop-number-preserved c =
    let rules = c.args.rules.now in let live = c.args.live.now in let m = c.loop-number.number in
    let old = c.loop-number.frees.items in let new = c.keep_repeating.new.frees in
    let v = c.deref_mut.ensures.value in
    let P : List Bool → Type 0 = λ x. length new ≡ length x in
    let long : length new ≡ length old = subst P v c.keep_repeating.ensures.long in
    let same : take c.loop-number.frees.len (new ++ drop (length new) old) ≡ new = grind (arith, common_steps) in
    let found : Layer = c.index-layers-number.result in
    let L : Layer → Type 0 = λ x. IsLayer rules live m x.words.items in
    let is : IsLayer rules live m found.words.items = subst L (sym c.index-layers-number.is) (c.requires.layers m found c.loop-number-test.true) in
    let repeats = c.in_ok-repeats.repeats.items in
    let Q : List ℕ → List ℕ → List Bool → Type 0 = λ x y z. (d : ℕ) → IsMarked new d → IsMarked z d × ((k : ℕ) → HasIn x d k → HasIn y d k) in
    let A : List ℕ → Type 0 = λ x. Q x c.as_slice-in-loop-number-2.result.now c.deref_mut.result.now in
    let B : List ℕ → Type 0 = λ x. Q found.words.items x c.deref_mut.result.now in
    let C : List Bool → Type 0 = λ x. Q found.words.items repeats x in
    let kept : Q found.words.items repeats old = subst C v (subst B c.as_slice-in-loop-number-2.ensures.value (subst A c.as_slice-in-loop-number.ensures.value c.keep_repeating.ensures.kept)) in
    rw same (one_layer rules live m found.words.items repeats old new is c.in_ok-repeats.ensures kept c.loop-number.invariant)

pub returns : goal.returns
returns c =
    let P : ℕ → Type 0 = λ x. RepeatBefore c.args.rules.now c.args.live.now x c.loop-number.frees.items in
    let end : c.loop-number.number ≡ length c.args.layers.now = let z = c.loop-number-test.false in omega arith in
    all_free c.args.rules.now c.args.live.now (length c.args.layers.now) c.loop-number.frees.items c.requires.tokens (subst P end c.loop-number.invariant)
