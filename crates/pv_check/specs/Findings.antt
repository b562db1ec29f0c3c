-- What was found of lists.
use Rattle.std.specs.Prelude.{◌≡◌, ◌≤◌, ℕ, List, length, None}
use Rattle.pv_dtd.specs.Plain.{PlainDtd}
use Rattle.pv_tree.specs.Lists.{Listed}
use Rattle.pv_tree.specs.declared.nodes.Mark.{Mark}
use Rattle.pv_missing.specs.Verdicts.{HavePossible}
use Rattle.pv_lists.specs.Judgements.{Judgement}
use Rattle.pv_lists.specs.WholeLists.{TellsFirst, TellsWhether}
use Rattle.pv_check.specs.KnownVerdicts.{IsRightlyKept}
use Rattle.pv_check.specs.ListJudgements.{IsListWithin, IsNarrowAndLive}
use Rattle.pv_check.specs.declared.findings.Findings.{Findings}
use Rattle.pv_check.specs.declared.findings.Noted.{Noted}
use Rattle.pv_check.specs.declared.widths.Widths.{Widths}

-- The first of these lists that is too wide was found, and the first that is too wide or
-- impossible, and the lists were counted. Where none is too wide or impossible, the Possible ones
-- were counted. What is kept is right by this grammar.
pub record HasFound (s : Widths) (g : PlainDtd) (root : List ℕ) (lists : List (Listed Mark))
    (found : Findings) : Type 0 where
  pub first_wide : TellsFirst (IsListWithin s g) lists found.wide
  pub first : TellsFirst (IsNarrowAndLive s g root) lists found.first
  pub possible : found.first ≡ None → HavePossible g root lists found.possible
  pub few_possible : found.possible ≤ found.lists
  pub count : found.lists ≡ length lists
  pub kept : IsRightlyKept s g found.kept

-- It is noted whether one of these lists is too wide, and whether one is too wide or impossible.
pub record HasNoted (s : Widths) (g : PlainDtd) (root : List ℕ) (lists : List (Listed Mark))
    (noted : Noted) : Type 0 where
  pub wide : TellsWhether (IsListWithin s g) lists noted.wide
  pub any : TellsWhether (IsNarrowAndLive s g root) lists noted.any

-- what is found and noted of lists by this DTD
abbrev pub verdicts_by : Widths → PlainDtd → Judgement Noted Findings
verdicts_by s g = record { dtd = g; finds = HasFound s g; notes = HasNoted s g }
