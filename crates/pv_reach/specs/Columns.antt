-- The columns of a DTD, first the contents of its names, then its parts, and at last any content;
-- and the rules of each.
use Rattle.std.specs.Prelude.{Contains, List, None, Option, Some, [], length, suc, ℕ, ◌+◌, ◌<◌, ◌∷◌}
use Rattle.std.specs.Prelude.{◌≡◌, ◌⊎◌}
use Rattle.pv_model.specs.Plain.{PlainModel, PlainPart, PlainParts, any, children, choice, empty}
use Rattle.pv_model.specs.Plain.{mixed, name, no_parts, opt, part, plus, seq, star}
use Rattle.pv_model.specs.declared.models.Token.{Token}
use Rattle.pv_model.specs.declared.models.Token.TheVariants.{Name, Text}
use Rattle.pv_dtd.specs.Plain.{IsDeclared, PlainDtd, model_of, parts_in, parts_in_models}
use Rattle.pv_rules.specs.Numbering.{IsMemberAt, first_part, part_at}
use Rattle.pv_columns.specs.declared.rules.ColumnRule.{ColumnRule}

-- the content of a name has the name's number for its column
abbrev pub part_column : PlainDtd → ℕ → ℕ
part_column g q = length g.names + q

-- what ANY allows, whatever the name
abbrev pub any_column : PlainDtd → ℕ
any_column g = length g.names + parts_in_models g.models

-- how many columns there are
abbrev pub width_of : PlainDtd → ℕ
width_of g = suc (any_column g)

-- the columns of members side by side, the first of which has number q
abbrev pub member_columns : PlainDtd → ℕ → PlainParts → List ℕ
member_columns g q no_parts = []
member_columns g q (part p ps) = part_column g q ∷ member_columns g (q + parts_in p) ps

-- what a rule has on its right, for a token that it reads and the columns after it
abbrev pub RightSide : Type 1
RightSide = Option Token → List ℕ → Type 0

abbrev pub token_of : ℕ → Token
token_of y = Name (record { 0 = y })

abbrev pub IsContentRule : PlainDtd → ℕ → PlainModel → RightSide
IsContentRule g x empty o cs = (o ≡ None) × (cs ≡ [])
IsContentRule g x any o cs = (o ≡ None) × (cs ≡ any_column g ∷ [])
IsContentRule g x (mixed ys) o cs =
    ((o ≡ None) × (cs ≡ [])) ⊎ (((o ≡ Some Text) × (cs ≡ x ∷ [])) ⊎
    ((e : ℕ) × (e < length ys) × (o ≡ None) × (cs ≡ part_column g (first_part g x + e) ∷ x ∷ [])))
IsContentRule g x (children p) o cs = (o ≡ None) × (cs ≡ part_column g (first_part g x) ∷ [])

-- an element that is there, or one that is missing round its content
abbrev pub IsPartRule : PlainDtd → ℕ → PlainPart → RightSide
IsPartRule g q (name y) o cs =
    ((o ≡ Some (token_of y)) × (cs ≡ [])) ⊎ (IsDeclared g y × (o ≡ None) × (cs ≡ y ∷ []))
IsPartRule g q (seq ps) o cs = (o ≡ None) × (cs ≡ member_columns g (suc q) ps)
IsPartRule g q (choice ps) o cs =
    (p : PlainPart) × (r : ℕ) × IsMemberAt p r (suc q) ps × (o ≡ None) × (cs ≡ part_column g r ∷ [])
IsPartRule g q (opt p) o cs =
    (o ≡ None) × ((cs ≡ []) ⊎ (cs ≡ part_column g (suc q) ∷ []))
IsPartRule g q (star p) o cs =
    (o ≡ None) × ((cs ≡ []) ⊎ (cs ≡ part_column g (suc q) ∷ part_column g q ∷ []))
IsPartRule g q (plus p) o cs =
    (o ≡ None) × ((cs ≡ part_column g (suc q) ∷ []) ⊎
    (cs ≡ part_column g (suc q) ∷ part_column g q ∷ []))

abbrev pub IsAnyRule : PlainDtd → RightSide
IsAnyRule g o cs =
    ((o ≡ None) × (cs ≡ [])) ⊎ (((o ≡ Some Text) × (cs ≡ any_column g ∷ [])) ⊎
    ((y : ℕ) × IsDeclared g y ×
    (((o ≡ Some (token_of y)) × (cs ≡ any_column g ∷ [])) ⊎
    ((o ≡ None) × (cs ≡ y ∷ any_column g ∷ [])))))

-- the rules of a DTD; those of any content, where some name has it
pub data IsRule (g : PlainDtd) (l : ℕ) (o : Option Token) (cs : List ℕ) : Type 0 where
  of_content : (x : ℕ) (m : PlainModel) → model_of g x ≡ Some m → l ≡ x → IsContentRule g x m o cs →
      IsRule g l o cs
  of_part : (q : ℕ) (p : PlainPart) → part_at g q ≡ Some p → l ≡ part_column g q →
      IsPartRule g q p o cs → IsRule g l o cs
  of_any : (x : ℕ) → model_of g x ≡ Some any → l ≡ any_column g → IsAnyRule g o cs → IsRule g l o cs

-- a rule of the list that has this column, token and columns
pub record Has (rules : List ColumnRule) (l : ℕ) (o : Option Token) (cs : List ℕ) : Type 0 where
  pub rule : ColumnRule
  pub is_in : Contains rules rule
  pub is_left : rule.left ≡ l
  pub is_token : rule.token ≡ o
  pub are_columns : rule.columns.items ≡ cs

-- the list has the DTD's rules and no others
pub record AreRules (g : PlainDtd) (rules : List ColumnRule) : Type 0 where
  pub sound : (r : ColumnRule) → Contains rules r → IsRule g r.left r.token r.columns.items
  pub complete : (l : ℕ) (o : Option Token) (cs : List ℕ) → IsRule g l o cs → Has rules l o cs
