use Rattle.std.proofs.Common.{◌≡◌, ◌<◌, ◌+◌, ℕ, List, [], ◌∷◌, true, refl, sym, ◌∙◌, arith}
use Rattle.std.proofs.lemmas.Bool.{lt-ltb}
use Rattle.std.specs.Prelude.{nat_lt}
use Rattle.pv_dtd.specs.Facts.{MAX_NESTING}
use Rattle.pv_dtd.specs.ItemReading.{opens_too_many}
use Rattle.pv_dtd.proofs.faults.opens_too_many.Goals as goal

deep : (opened closed : ℕ) (bytes : List ℕ) → MAX_NESTING + closed < opened → opens_too_many opened closed bytes ≡ true
deep opened closed [] less = lt-ltb (MAX_NESTING + closed) opened less
deep opened closed (b ∷ bs) less = let is : nat_lt (MAX_NESTING + closed) opened ≡ true = lt-ltb (MAX_NESTING + closed) opened less in rw is refl

pub returns-then-opened-closed : goal.returns-then-opened-closed
returns-then-opened-closed c = sym (sym c.loop-b.invariant.same ∙ deep c.loop-b.opened c.loop-b.closed _ (omega arith))
