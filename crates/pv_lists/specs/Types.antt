-- Element types that were found by their names.
use Rattle.std.specs.Prelude.{◌≡◌, ℕ, List, IsTrue}
use Rattle.std.specs.List.{All}
use Rattle.pv_chars.specs.Names.{IsName}
use Rattle.pv_model.specs.PlainForms.{plain_token}
use Rattle.pv_dtd.specs.Plain.{PlainDtd, number_of}
use Rattle.pv_dtd.specs.Hedge.{token}
use Rattle.pv_lists.specs.declared.types.ElementType.{ElementType}
use Rattle.pv_lists.specs.declared.types.FoundTypes.{FoundTypes}

-- This is the type of elements of this name, where it may be known to be a Name: their token.
pub record IsTypeOf (g : PlainDtd) (name : List ℕ) (t : ElementType) : Type 0 where
  pub is_bytes : t.name.now ≡ name
  pub is_name : IsTrue t.is_name → IsName name
  pub is_token : plain_token t.token ≡ token (number_of g name)

-- each type that was found is of a Name where it is known to be of one
abbrev pub AreTypesNamed : FoundTypes → Type 0
AreTypesNamed found = All (λ (t : ElementType). IsTrue t.is_name → IsName t.name.now)
    found.types.items

-- each type that was found is that of its name
abbrev pub AreTypes : PlainDtd → FoundTypes → Type 0
AreTypes g found = All (λ (t : ElementType). IsTypeOf g t.name.now t) found.types.items
