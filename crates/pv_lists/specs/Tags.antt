-- Types of tags that open elements.
use Rattle.std.specs.Prelude.{[], ◌≡◌, ◌⊎◌, ℕ, List}
use Rattle.pv_dtd.specs.Plain.{PlainDtd}
use Rattle.pv_read.specs.Items.{Item, start_tag, empty_tag}
use Rattle.pv_lists.specs.Types.{IsTypeOf}
use Rattle.pv_lists.specs.declared.types.ElementType.{ElementType}

-- the item is a start tag or an empty-element tag of this name, without attributes
abbrev pub IsBareTag : List ℕ → Item → Type 0
IsBareTag name item = (item ≡ start_tag name []) ⊎ (item ≡ empty_tag name [])

-- The item is such a tag, of an element of this type.
pub record IsTypeOfTag (g : PlainDtd) (item : Item) (kind : ElementType) : Type 0 where
  pub is_tag : IsBareTag kind.name.now item
  pub is_type : IsTypeOf g kind.name.now kind
