-- Rules that are laid out for all words.
use Rattle.std.specs.Prelude.{List, length, ℕ, ◌<◌, ◌^◌, ◌≡◌}
use Rattle.pv_dtd.specs.Plain.{PlainDtd}
use Rattle.pv_reach.specs.Columns.{AreRules, width_of}
use Rattle.pv_reach.specs.Cuts.{AreCuts, AreOwnSets, AreRanges}
use Rattle.pv_reach.specs.Merging.{AreHeadsBare, Replaces}
use Rattle.pv_reach.specs.declared.columns.merging.Merging.{Merging}
use Rattle.pv_reach.specs.declared.plan.Plan.{Plan}
use Rattle.pv_columns.specs.Marks.{ReadAlone}
use Rattle.pv_columns.specs.declared.rules.ColumnRule.{ColumnRule}

-- Rules over the columns that stand for those of the DTD, and over further ones, reach what its own
-- rules do.
pub record IsReplacement (g : PlainDtd) (rules : List ColumnRule) (m : Merging)
    (merged : List ColumnRule) (wider : ℕ) : Type 0 where
  pub long : length m.heads.items ≡ width_of g
  pub replaces : Replaces rules merged (width_of g) wider m.heads.items
  pub narrow : wider < 2 ^ 26
  pub heads : AreHeadsBare merged m.bare.items m.heads.items
  pub alone : ReadAlone merged

-- Each column of the DTD has one that stands for it. By the plan's rules the columns that stand for
-- those of the DTD reach what these reach by the DTD's own; columns that have a set in the plan are
-- free, over that set; the rules of each column stand in its range; and the cuts are cuts of the
-- plan's rules.
pub record IsPlan (g : PlainDtd) (plan : Plan) : Type 0 where
  pub rules : List ColumnRule
  pub are_rules : AreRules g rules
  pub replaces : Replaces rules plan.rules.items (width_of g) plan.width plan.heads.items
  pub long : length plan.heads.items ≡ width_of g
  pub narrow : plan.width < 2 ^ 26
  pub free : AreOwnSets plan.rules.items plan.width plan.free
  pub ranges : AreRanges plan.rules.items plan.ranges
  pub cuts : AreCuts plan.rules.items plan.width plan.cuts
