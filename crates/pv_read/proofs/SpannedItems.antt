-- The variants of an item that was read.
use Rattle.std.proofs.Common.{◌≡◌, false, refl}
use Rattle.pv_read.specs.Kinds.{opens_element}
use Rattle.pv_read.specs.PlainItems.{plain_item}
use Rattle.pv_read.specs.declared.forms.items.Item.{Item as SpannedItem}
use Rattle.pv_read.specs.declared.forms.items.Item.TheVariants as item
use Rattle.pv_read.specs.declared.forms.items.Tag.{Tag}

pub opens_nothing : (i : SpannedItem) → ((tag : Tag) → i ≡ item.StartTag tag → ⊥) → ((tag : Tag) → i ≡ item.EmptyTag tag → ⊥) → opens_element (plain_item i) ≡ false
opens_nothing (item.XmlDeclaration bytes) no_start no_empty = refl
opens_nothing (item.Doctype name bytes) no_start no_empty = refl
opens_nothing (item.CommentOrInstruction bytes) no_start no_empty = refl
opens_nothing (item.CdataSection bytes) no_start no_empty = refl
opens_nothing (item.StartTag tag) no_start no_empty = absurd (no_start tag refl)
opens_nothing (item.EmptyTag tag) no_start no_empty = absurd (no_empty tag refl)
opens_nothing (item.EndTag name gap) no_start no_empty = refl
opens_nothing (item.TextRun bytes) no_start no_empty = refl
