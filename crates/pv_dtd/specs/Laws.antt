-- Laws of DTDs and their texts, each a statement.
use Rattle.std.specs.Prelude.{◌≡◌, ◌↔◌, ℕ, List}
use Rattle.pv_dtd.specs.Plain.{PlainDtd}
use Rattle.pv_dtd.specs.Hedge.{AreGood, Hedge, done, elem}
use Rattle.pv_dtd.specs.Productive.{IsProductiveName}
use Rattle.pv_dtd.specs.Meaning.{Outcome, is_dtd, DtdTextMeans}
use Rattle.pv_dtd.specs.DtdTexts.{IsDtdText, KeepsLimits}

-- a text has exactly one meaning
pub record HasOneMeaning (bytes : List ℕ) : Type 0 where
  pub outcome : Outcome
  pub means : DtdTextMeans bytes outcome
  pub only : (other : Outcome) → DtdTextMeans bytes other → other ≡ outcome

abbrev pub OneMeaning : Type 0
OneMeaning = (bytes : List ℕ) → HasOneMeaning bytes

-- a text means a DTD exactly where it is a text of this DTD and keeps the limits
abbrev pub MeansDtd : Type 0
MeansDtd = (bytes : List ℕ) (g : PlainDtd) →
    DtdTextMeans bytes (is_dtd g) ↔ (IsDtdText bytes g × KeepsLimits bytes g)

-- a name is productive exactly where some hedge of one element of this name is good
abbrev pub ProductiveNames : Type 0
ProductiveNames = (g : PlainDtd) (x : List ℕ) →
    IsProductiveName g x ↔ ((attrs : List ℕ) × (kids : Hedge) × AreGood g (elem x attrs kids done))
