-- The items that are read as plain ones, and what begins no item.
use Rattle.std.specs.Prelude.{◌≡◌, ℕ, List}
use Rattle.pv_read.specs.Items.{Item, xml_declaration, doctype, comment_or_instruction}
use Rattle.pv_read.specs.Items.{cdata_section, start_tag, empty_tag, end_tag, text_run, BeginsItem}
use Rattle.pv_read.specs.Sorts.{sort}
use Rattle.pv_read.specs.declared.forms.items.Item.{Item as SpannedItem}
use Rattle.pv_read.specs.declared.forms.items.Item.TheVariants as item
use Rattle.pv_read.specs.declared.forms.sorts.Sort.{Sort}

-- an item by the bytes of its parts
abbrev pub plain_item : SpannedItem → Item
plain_item (item.XmlDeclaration bytes) = xml_declaration bytes.now
plain_item (item.Doctype name bytes) = doctype name.now bytes.now
plain_item (item.CommentOrInstruction bytes) = comment_or_instruction bytes.now
plain_item (item.CdataSection bytes) = cdata_section bytes.now
plain_item (item.StartTag tag) = start_tag tag.name.now tag.attrs.now
plain_item (item.EmptyTag tag) = empty_tag tag.name.now tag.attrs.now
plain_item (item.EndTag name gap) = end_tag name.now gap.now
plain_item (item.TextRun bytes) = text_run bytes.now

-- no item stands at the front
abbrev pub BeginsNoItem : List ℕ → Type 0
BeginsNoItem bytes = (i : Item) (rest : List ℕ) → BeginsItem i bytes rest → ⊥

-- no item of this sort stands at the front
abbrev pub BeginsNoneOf : Sort → List ℕ → Type 0
BeginsNoneOf s bytes = (i : Item) (rest : List ℕ) → sort i ≡ s → BeginsItem i bytes rest → ⊥
