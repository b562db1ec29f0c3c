-- Adding rules to a list.
use Rattle.std.specs.Prelude.{List, None, Option, Some, [], ℕ, ◌+◌, ◌<◌, ◌∷◌, ◌≡◌, ◌≤◌, ◌⊎◌}
use Rattle.pv_model.specs.Plain.{PlainModel, PlainPart, any}
use Rattle.pv_model.specs.declared.models.Token.{Token}
use Rattle.pv_dtd.specs.Plain.{PlainDtd, model_of, parts_in_model}
use Rattle.pv_rules.specs.Numbering.{first_part, part_at}
use Rattle.pv_reach.specs.Columns.{Has, IsAnyRule, IsContentRule, IsPartRule, IsRule, RightSide}
use Rattle.pv_reach.specs.Columns.{any_column, part_column, token_of}
use Rattle.pv_columns.specs.declared.rules.ColumnRule.{ColumnRule}

-- the right sides of the rules of a part, and of a name's content
abbrev pub IsRuleOfPart : PlainDtd → ℕ → RightSide
IsRuleOfPart g q o cs = (p : PlainPart) × (part_at g q ≡ Some p) × IsPartRule g q p o cs

abbrev pub IsRuleOfContent : PlainDtd → ℕ → RightSide
IsRuleOfContent g x o cs = (m : PlainModel) × (model_of g x ≡ Some m) × IsContentRule g x m o cs

abbrev pub IsRuleOfAny : PlainDtd → RightSide
IsRuleOfAny g o cs = (x : ℕ) × (model_of g x ≡ Some any) × IsAnyRule g o cs

pub record AreSoundRules (g : PlainDtd) (rules : List ColumnRule) : Type 0 where
  pub holds : (l : ℕ) (o : Option Token) (cs : List ℕ) → Has rules l o cs → IsRule g l o cs

pub record RulesGrow (old new : List ColumnRule) : Type 0 where
  pub keeps : (l : ℕ) (o : Option Token) (cs : List ℕ) → Has old l o cs → Has new l o cs

-- the list has this rule too now, and no other is new
pub record AddsRule (old new : List ColumnRule) (left : ℕ) (token : Option Token) (columns : List ℕ)
    : Type 0 where
  pub has : Has new left token columns
  pub grow : RulesGrow old new
  pub only : (l : ℕ) (o : Option Token) (cs : List ℕ) → Has new l o cs →
      Has old l o cs ⊎ ((l ≡ left) × (o ≡ token) × (cs ≡ columns))

-- the list has all these rules of this column now, and no rule is new that isn't the DTD's
pub record LaysOut (g : PlainDtd) (old new : List ColumnRule) (column : ℕ) (S : RightSide)
    : Type 0 where
  pub sound : AreSoundRules g old → AreSoundRules g new
  pub grow : RulesGrow old new
  pub complete : (o : Option Token) (cs : List ℕ) → S o cs → Has new column o cs

abbrev pub IsListedRule : PlainDtd → ℕ → ℕ → ℕ → ℕ → Option Token → List ℕ → Type 0
IsListedRule g name first end l o cs =
    (q : ℕ) × (first ≤ q) × (q < end) × (l ≡ name) × (o ≡ None) × (cs ≡ part_column g q ∷ name ∷ [])

-- mixed content of this name has a rule for each part from one number up to another now, and no
-- other rule is new
pub record AddsListed (g : PlainDtd) (old new : List ColumnRule) (name first end : ℕ) : Type 0 where
  pub grow : RulesGrow old new
  pub only : (l : ℕ) (o : Option Token) (cs : List ℕ) → Has new l o cs → Has old l o cs ⊎
      IsListedRule g name first end l o cs
  pub listed : (q : ℕ) → first ≤ q → q < end → Has new name None (part_column g q ∷ name ∷ [])

-- where a name's content has a model, the numbers of the parts of that model
abbrev pub IsWithinWidth : PlainDtd → ℕ → ℕ → Type 0
IsWithinWidth g x q = (m : PlainModel) × (model_of g x ≡ Some m) × (first_part g x ≤ q) ×
    (q < first_part g x + parts_in_model m)

-- the list has all rules of the parts from one number up to another now, and no rule is new that
-- isn't the DTD's
pub record LaysOutParts (g : PlainDtd) (old new : List ColumnRule) (first end : ℕ) : Type 0 where
  pub sound : AreSoundRules g old → AreSoundRules g new
  pub grow : RulesGrow old new
  pub parts : (q : ℕ) → first ≤ q → q < end → (o : Option Token) (cs : List ℕ) →
      IsRuleOfPart g q o cs → Has new (part_column g q) o cs

-- the list has all rules of the contents of these names, and of the parts in them, and no rule is
-- new that isn't the DTD's
pub record LaysOutNames (g : PlainDtd) (old new : List ColumnRule) (These : ℕ → Type 0)
    : Type 0 where
  pub sound : AreSoundRules g old → AreSoundRules g new
  pub grow : RulesGrow old new
  pub contents : (x : ℕ) → These x → (o : Option Token) (cs : List ℕ) → IsRuleOfContent g x o cs →
      Has new x o cs
  pub parts : (x q : ℕ) → These x → IsWithinWidth g x q → (o : Option Token) (cs : List ℕ) →
      IsRuleOfPart g q o cs → Has new (part_column g q) o cs

abbrev pub IsDeclaredRule : PlainDtd → ℕ → ℕ → Option Token → List ℕ → Type 0
IsDeclaredRule g end l o cs =
    (y : ℕ) × (y < end) × (l ≡ any_column g) × (((o ≡ Some (token_of y)) ×
    (cs ≡ any_column g ∷ [])) ⊎ ((o ≡ None) × (cs ≡ y ∷ any_column g ∷ [])))

-- any content has the rules of the names below a number now, and no other rule is new
pub record AddsDeclared (g : PlainDtd) (old new : List ColumnRule) (end : ℕ) : Type 0 where
  pub grow : RulesGrow old new
  pub only : (l : ℕ) (o : Option Token) (cs : List ℕ) → Has new l o cs → Has old l o cs ⊎
      IsDeclaredRule g end l o cs
  pub kept : (y : ℕ) → y < end → Has new (any_column g) (Some (token_of y)) (any_column g ∷ [])
  pub missing : (y : ℕ) → y < end → Has new (any_column g) None (y ∷ any_column g ∷ [])
