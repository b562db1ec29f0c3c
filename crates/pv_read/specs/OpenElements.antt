-- The plain form of the open elements.
use Rattle.std.specs.Prelude.{ℕ, Bool, true, false, List, [], map, reverse, Option, Some, None}
use Rattle.pv_tree.specs.PlainForms.{plain, plain_all}
use Rattle.pv_tree.specs.declared.nodes.Mark.{Mark}
use Rattle.pv_tree.specs.declared.nodes.Node.{Node}
use Rattle.pv_read.specs.Items.{Item, xml_declaration, doctype, comment_or_instruction}
use Rattle.pv_read.specs.Items.{cdata_section, start_tag, empty_tag, end_tag, text_run}
use Rattle.pv_read.specs.Left.{Left, Open, in_content, in_epilog}
use Rattle.pv_read.specs.declared.open.OpenElement.{OpenElement}
use Rattle.pv_read.specs.declared.open.OpenElements.{OpenElements}

abbrev pub plain_open : OpenElement → Open Mark
plain_open e = record { name = e.name.now; attrs = e.attrs.now; kids = plain_all e.kids.items }

-- innermost first, where the outermost stands first
abbrev pub opens_of : List OpenElement → List (Open Mark)
opens_of elements = reverse (map plain_open elements)

-- what is left in these elements, after this prolog
abbrev pub left_in : List ℕ → OpenElements → Left Mark
left_in before e = in_content before (plain_open e.inner) (opens_of e.outer.items)

-- what is left in these elements, or after the root, where it is whole
abbrev pub left_after : List ℕ → OpenElements → Option Node → Left Mark
left_after before e None = left_in before e
left_after before e (Some root) = in_epilog before (plain root) []

-- a tag, a comment, a processing instruction or a CDATA section
abbrev pub is_markup : Item → Bool
is_markup (xml_declaration bytes) = false
is_markup (doctype name bytes) = false
is_markup (comment_or_instruction bytes) = true
is_markup (cdata_section bytes) = true
is_markup (start_tag name attrs) = true
is_markup (empty_tag name attrs) = true
is_markup (end_tag name gap) = true
is_markup (text_run bytes) = false
