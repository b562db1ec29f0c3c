-- Rules over few columns, with numbers of their own: those that a column needs before it comes to
-- free ones.
use Rattle.std.specs.Prelude.{All, Contains, List, None, Option, Some, [], get_or, length}
use Rattle.std.specs.Prelude.{slice_get, ℕ, ◌<◌, ◌∷◌, ◌≡◌, ◌≤◌, ◌⊎◌}
use Rattle.pv_model.specs.declared.models.Token.{Token}
use Rattle.pv_columns.specs.FreeSets.{AreFreeSets, IsFreeOver}
use Rattle.pv_columns.specs.Tokens.{IsInRow}
use Rattle.pv_columns.specs.declared.free_sets.FreeSets.{FreeSets}
use Rattle.pv_columns.specs.declared.rules.ColumnRule.{ColumnRule}
use Rattle.pv_reach.specs.AddedRules.{RulesGrow}
use Rattle.pv_reach.specs.Columns.{Has}
use Rattle.pv_reach.specs.Merging.{column_head, column_heads}
use Rattle.pv_reach.specs.declared.columns.ranges.RuleRanges.{RuleRanges}
use Rattle.pv_reach.specs.declared.tables.cut.Cut.{Cut}
use Rattle.pv_reach.specs.declared.tables.kept.Cuts.{Cuts}

-- the sets of columns below a number, each at the column's own place
pub record AreOwnSets (rules : List ColumnRule) (width : ℕ) (free : FreeSets) : Type 0 where
  pub columns : List ℕ
  pub own : (c : ℕ) → c < width → get_or columns c 0 ≡ c
  pub sets : AreFreeSets rules columns free

-- a rule stands in the range of its column
abbrev pub AreRanges : List ColumnRule → RuleRanges → Type 0
AreRanges rules ranges = (k : ℕ) (d : ColumnRule) → k < length rules →
    (get_or ranges.first.items (get_or rules k d).left 0 ≤ k) ×
    (k < get_or ranges.end.items (get_or rules k d).left 0)

abbrev pub AreColumnNumbers : List ℕ → List ℕ → Type 0
AreColumnNumbers names ls = All (λ l. l < length names) ls

-- The number of a column that isn't free has the column's rules, over numbers of columns. That of
-- a free one reaches no tokens, and each token of the column's set in front of itself.
pub data IsCutRule (rules : List ColumnRule) (names : List ℕ) (l : ℕ) (o : Option Token)
    (ls : List ℕ) : Type 0 where
  of_rule : (r : ColumnRule) → Contains rules r → column_head names l ≡ r.left → o ≡ r.token →
      column_heads names ls ≡ r.columns.items → IsCutRule rules names l o ls
  of_none : (row : List ℕ) → IsFreeOver rules row (column_head names l) → o ≡ None → ls ≡ [] →
      IsCutRule rules names l o ls
  of_token : (row : List ℕ) (t : Token) → IsFreeOver rules row (column_head names l) →
      IsInRow row t →
      o ≡ Some t → ls ≡ l ∷ [] → IsCutRule rules names l o ls

-- there are no other rules, and these are over numbers of columns
pub record AreCutRules (rules : List ColumnRule) (names : List ℕ) (few : List ColumnRule)
    : Type 0 where
  pub only : (l : ℕ) (o : Option Token) (ls : List ℕ) → Has few l o ls →
      IsCutRule rules names l o ls × (l < length names) × AreColumnNumbers names ls

pub record HasNumbered (names : List ℕ) (few : List ColumnRule) (l : ℕ) (r : ColumnRule)
    : Type 0 where
  pub numbers : List ℕ
  pub has : Has few l r.token numbers
  pub are : column_heads names numbers ≡ r.columns.items
  pub within : AreColumnNumbers names numbers

-- the number of a column has all its rules, for words of these tokens
pub data HasCut (rules : List ColumnRule) (names : List ℕ) (few : List ColumnRule)
    (tokens : List Token) (l : ℕ) : Type 0 where
  by_set : (row : List ℕ) → IsFreeOver rules row (column_head names l) → Has few l None [] →
      ((t : Token) → Contains tokens t → IsInRow row t → Has few l (Some t) (l ∷ [])) →
      HasCut rules names few tokens l
  by_rules : ((r : ColumnRule) → Contains rules r → r.left ≡ column_head names l →
      HasNumbered names few l r) → HasCut rules names few tokens l

-- the number of a column has all its rules, over numbers of columns
abbrev pub HasAllNumbered : List ColumnRule → List ℕ → List ColumnRule → ℕ → Type 0
HasAllNumbered rules names few l = (r : ColumnRule) → Contains rules r →
    r.left ≡ column_head names l → HasNumbered names few l r

-- each column that has a number has its rules, or is one of those told as free; and there are no
-- other rules
pub record AreRulesKept (rules : List ColumnRule) (names frees : List ℕ) (few : List ColumnRule)
    : Type 0 where
  pub cut : AreCutRules rules names few
  pub has : (l : ℕ) → l < length names → Contains frees l ⊎ HasAllNumbered rules names few l

-- a cut of these rules, over no more columns than they have
pub record IsCutOf (rules : List ColumnRule) (width : ℕ) (cut : Cut) : Type 0 where
  pub kept : AreRulesKept rules cut.names.items cut.frees.items cut.rules.items
  pub number : cut.number < length cut.names.items
  pub narrow : length cut.names.items ≤ width

-- cuts of these rules
pub record AreCuts (rules : List ColumnRule) (width : ℕ) (cuts : Cuts) : Type 0 where
  pub each : (cut : Cut) → Contains cuts.cuts.items cut → IsCutOf rules width cut

-- rules were added to a list
pub record AddsCut (rules : List ColumnRule) (names : List ℕ) (old new : List ColumnRule)
    : Type 0 where
  pub grow : RulesGrow old new
  pub cut : AreCutRules rules names old → AreCutRules rules names new

-- each column that has a number has its rules, and there are no others
pub record AreRulesCut (rules : List ColumnRule) (names : List ℕ) (tokens : List Token)
    (few : List ColumnRule) : Type 0 where
  pub cut : AreCutRules rules names few
  pub has : (l : ℕ) → l < length names → HasCut rules names few tokens l

-- the list has each token of the word
abbrev pub AreTokensOf : List Token → List Token → Type 0
AreTokensOf word tokens = (k : ℕ) (t : Token) → slice_get word k ≡ Some t → Contains tokens t
