-- The sort of an item: what alone it may be, by its first bytes.
use Rattle.std.specs.Prelude.{ℕ, List, [], ◌∷◌, ◌==◌, if◌then◌else◌}
use Rattle.pv_read.specs.Items.{Item, xml_declaration, doctype, comment_or_instruction}
use Rattle.pv_read.specs.Items.{cdata_section, start_tag, empty_tag, end_tag, text_run}
use Rattle.pv_read.specs.declared.forms.sorts.Sort.{Sort}
use Rattle.pv_read.specs.declared.forms.sorts.Sort.TheVariants.{Text, Tag, EndTag, Misc, Section}
use Rattle.pv_read.specs.declared.forms.sorts.Sort.TheVariants.{Doctype}

-- by what stands after `<!`
abbrev pub sort_behind_mark : List ℕ → Sort
sort_behind_mark [] = Doctype
sort_behind_mark (b ∷ bs) = if b == 45 then Misc else (if b == 91 then Section else Doctype)

-- by what stands after `<`
abbrev pub sort_behind_less : List ℕ → Sort
sort_behind_less [] = Tag
sort_behind_less (b ∷ bs) = if b == 47 then EndTag
    else (if b == 33 then sort_behind_mark bs else (if b == 63 then Misc else Tag))

-- that of an item at the front of these bytes
abbrev pub sort_of : List ℕ → Sort
sort_of [] = Text
sort_of (b ∷ bs) = if b == 60 then sort_behind_less bs else Text

-- that of this item
abbrev pub sort : Item → Sort
sort (xml_declaration bytes) = Misc
sort (doctype name bytes) = Doctype
sort (comment_or_instruction bytes) = Misc
sort (cdata_section bytes) = Section
sort (start_tag name attrs) = Tag
sort (empty_tag name attrs) = Tag
sort (end_tag name gap) = EndTag
sort (text_run bytes) = Text
