-- What is remembered of a grammar from one `need` to the next.
use Rattle.std.specs.Prelude.{IfSome}
use Rattle.pv_dtd.specs.Plain.{PlainDtd}
use Rattle.pv_layout.specs.KeptColumns.{AreColumnsOf}
use Rattle.pv_complete.specs.KnownWeights.{AreKnown}
use Rattle.pv_complete.specs.declared.missing.remembering.Remembered.{Remembered}

-- The columns, where they are laid out, are those of the DTD, and the weights are right by it.
pub record Remembers (g : PlainDtd) (r : Remembered) : Type 0 where
  pub columns : IfSome r.columns (λ columns. ∥ AreColumnsOf g columns ∥₁)
  pub weights : AreKnown g r.weights
