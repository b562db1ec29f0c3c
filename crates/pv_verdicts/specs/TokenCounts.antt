-- How many tokens keep a word from being possible.
use Rattle.std.specs.Prelude.{IfSome, List, ℕ}
use Rattle.pv_model.specs.Plain.{PlainToken}
use Rattle.pv_rematch.specs.Counts.{AreWithout}
use Rattle.pv_dtd.specs.Plain.{PlainDtd}
use Rattle.pv_missing.specs.LiveWords.{IsProductiveToken}
use Rattle.pv_reach.specs.TokensTaken.{ContentTakes, IsFreeContent}
use Rattle.pv_verdicts.specs.declared.counts.Counts.{Counts}

-- the token stands for no element whose name isn't productive, and the content of the name takes it
abbrev pub IsTakenToken : PlainDtd → ℕ → PlainToken → Type 0
IsTakenToken g x t = IsProductiveToken g t × ContentTakes g x t

-- So many tokens of the word stand for elements whose names aren't productive; and where the
-- content of the name is known to be free, so many aren't taken by it.
pub record AreCounts (g : PlainDtd) (x : ℕ) (w : List PlainToken) (counts : Counts) : Type 0 where
  pub unproductive : AreWithout (IsProductiveToken g) w counts.unproductive
  pub untaken : IfSome counts.untaken (λ n. IsFreeContent g x × AreWithout (IsTakenToken g x) w n)
