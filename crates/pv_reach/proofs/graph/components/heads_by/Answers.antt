use Rattle.std.proofs.Common.{Err, Global, List, Ok, Result, Vec, get_or, length, subst, sym, ℕ, ◌<◌, ◌∙◌, ◌≡◌}
use Rattle.std.specs.Prelude.{IfOk}
use Rattle.pv_columns.specs.declared.layers.Edge.{Edge}
use Rattle.pv_reach.specs.LeadingColumns.{AreHeads, AreLed, IsHead}
use Rattle.pv_reach.proofs.graph.components.heads_by.Goals as goal

heads_are : {E : Type 0} (turned : List Edge) (above below first second : List ℕ) (r : Result (Vec ℕ Global) E) → first ≡ above → second ≡ below → length below ≡ length above → AreLed turned below →
    IfOk r (λ heads. (length heads.items ≡ length first) × ((x : ℕ) → x < length first → IsHead first second x (get_or heads.items x 0))) → IfOk r (λ heads. AreHeads turned above heads.items)
heads_are turned above below first second (Ok heads) e f long led h =
    let A : List ℕ → Type 0 = λ v. (length heads.items ≡ length v) × ((x : ℕ) → x < length v → IsHead v second x (get_or heads.items x 0)) in
    let B : List ℕ → Type 0 = λ v. (length heads.items ≡ length above) × ((x : ℕ) → x < length above → IsHead above v x (get_or heads.items x 0)) in
    let k = subst B f (subst A e h) in
    record { below = below; long = k.0; as_long = long; led = led; are = k.1 }
heads_are turned above below first second (Err error) e f long led h = tt

pub returns : goal.returns
returns c =
    let below = c.in_ok-below in
    heads_are c.args.turned.now c.args.above.now.table.items below.below.table.items _ _
    c.common_ends.result c.deref-3.ensures.value c.deref-4.ensures.value (below.ensures.0
    ∙ sym c.requires) below.ensures.1
    c.common_ends.ensures
