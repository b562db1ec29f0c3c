-- Rules over the columns that stand for others, and over further columns for what may stand after
-- those.
use Rattle.std.specs.Prelude.{All, Bool, List, None, Option, [], get_or, length, map, ℕ, ◌+◌}
use Rattle.std.specs.Prelude.{◌<◌, ◌^◌, ◌∷◌, ◌≡◌, ◌≤◌, ◌⊎◌, ◌↔◌}
use Rattle.pv_model.specs.declared.models.Token.{Token}
use Rattle.pv_reach.specs.AddedRules.{RulesGrow}
use Rattle.pv_columns.specs.ColumnRules.{InRange, ReadThrough, TokensMayBeMissing}
use Rattle.pv_reach.specs.Columns.{Has}
use Rattle.pv_columns.specs.Marks.{AreNullable, IsMarked}
use Rattle.pv_reach.specs.LeadingColumns.{AreAlike, LeadsOnTo}
use Rattle.pv_reach.specs.declared.columns.merging.Merging.{Merging}
use Rattle.pv_columns.specs.declared.rules.ColumnRule.{ColumnRule}

-- the column that stands for another
abbrev pub column_head : List ℕ → ℕ → ℕ
column_head heads c = get_or heads c 0

-- the columns that stand for these
abbrev pub column_heads : List ℕ → List ℕ → List ℕ
column_heads heads cs = map (λ c. get_or heads c 0) cs

-- a rule of the list, over the columns that stand for its own
pub record IsMergedRule (rules : List ColumnRule) (heads : List ℕ) (l : ℕ) (o : Option Token)
    (cs : List ℕ) : Type 0 where
  pub left : ℕ
  pub columns : List ℕ
  pub has : Has rules left o columns
  pub is_left : l ≡ column_head heads left
  pub are_columns : cs ≡ column_heads heads columns

-- the rules of the further column of the k-th column that has one, and the rule by which it stands
-- after that one
pub data IsFurtherRule (rules : List ColumnRule) (width : ℕ) (led : List ℕ) (l : ℕ)
    (o : Option Token) (cs : List ℕ) : Type 0 where
  none : (k : ℕ) → k < length led → l ≡ width + k → o ≡ None → cs ≡ [] →
      IsFurtherRule rules width led l o cs
  one : (k q : ℕ) → k < length led → q < width → LeadsOnTo rules (get_or led k 0) q →
      l ≡ width + k → o ≡ None →
      cs ≡ q ∷ (width + k) ∷ [] → IsFurtherRule rules width led l o cs
  behind : (k : ℕ) → k < length led → l ≡ get_or led k 0 → o ≡ None →
      cs ≡ get_or led k 0 ∷ (width + k) ∷ [] →
      IsFurtherRule rules width led l o cs

-- the list has no other rules
pub record AreMerged (rules : List ColumnRule) (m : Merging) (new : List ColumnRule) : Type 0 where
  pub only : (l : ℕ) (o : Option Token) (cs : List ℕ) → Has new l o cs →
      IsMergedRule rules m.heads.items l o cs ⊎
      IsFurtherRule rules (length m.heads.items) m.led.items l o cs

-- such rules were added to a list
pub record AddsMerged (rules : List ColumnRule) (m : Merging) (old new : List ColumnRule)
    : Type 0 where
  pub grow : RulesGrow old new
  pub merged : AreMerged rules m old → AreMerged rules m new

-- the list has the rule of this number, over the columns that stand for its own
abbrev pub HasMerged : List ColumnRule → Merging → List ColumnRule → ℕ → Type 0
HasMerged rules m new i = (r : ColumnRule) → r ≡ get_or rules i r →
    Has new (column_head m.heads.items r.left) r.token (column_heads m.heads.items r.columns.items)

-- what rules are merged by: which columns reach over no tokens, which stand for others, and which
-- have further ones
pub record IsMerging (rules : List ColumnRule) (m : Merging) : Type 0 where
  pub bare : AreNullable rules m.bare.items
  pub alike : AreAlike rules m.heads.items
  pub range : InRange (length m.heads.items) rules
  pub led : All (λ a. a < length m.heads.items) m.led.items
  pub narrow : length m.heads.items + length m.led.items < 2 ^ 26

-- Over columns that stand for those that were there, the rules reach what these reached; and tokens
-- may still be missing.
pub record Replaces (old new : List ColumnRule) (width wider : ℕ) (heads : List ℕ) : Type 0 where
  pub in_range : InRange wider new
  pub columns : (c : ℕ) → c < width → column_head heads c < wider
  pub same : (word : List Token) (c i j : ℕ) → c < width →
      ReadThrough new word (column_head heads c ∷ []) i j ↔ ReadThrough old word (c ∷ []) i j
  pub missing : (word : List Token) → TokensMayBeMissing old word → TokensMayBeMissing new word

-- what stands from this place of the rule on may follow the column that has this further one
abbrev pub MayStandBehind : List ColumnRule → Merging → ℕ → ℕ → ℕ → Type 0
MayStandBehind rules m number first further = (r : ColumnRule) → r ≡ get_or rules number r →
    (i : ℕ) → first ≤ i →
    i < length r.columns.items → IsFurtherRule rules (length m.heads.items) m.led.items further None
    (column_head m.heads.items (get_or r.columns.items i 0) ∷ further ∷ [])

-- the columns that stand for columns that are marked reach over no tokens
abbrev pub AreHeadsBare : List ColumnRule → List Bool → List ℕ → Type 0
AreHeadsBare new bare heads = (c : ℕ) → IsMarked bare c → c < length heads → (word : List Token)
    (p : ℕ) → ReadThrough new word (column_head heads c ∷ []) p p
