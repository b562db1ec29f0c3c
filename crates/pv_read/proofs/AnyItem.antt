-- Any item at the front of some bytes, by its sort.
use Rattle.std.proofs.Common.{◌≡◌, ℕ, ◌<◌, inl, inr, List, [], ◌∷◌, ◌++◌, length, refl, sym, ap, ◌∙◌, arith, length-append}
use Rattle.pv_chars.specs.Fronts.{BeginsNone}
use Rattle.pv_chars.specs.Markup.{IsComment, IsInstruction, IsCdata}
use Rattle.pv_chars.specs.Declarations.{IsXmlDecl}
use Rattle.pv_tree.specs.Prolog.{IsCommentOrInstruction}
use Rattle.pv_read.specs.Items.{Item, xml_declaration, doctype, comment_or_instruction, cdata_section, start_tag, empty_tag, end_tag, text_run, bytes_of, HasForm, BeginsItem}
use Rattle.pv_read.specs.PlainItems.{BeginsNoItem, BeginsNoneOf}
use Rattle.pv_read.specs.Sorts.{sort_of, sort}
use Rattle.pv_read.specs.declared.forms.sorts.Sort.{Sort}
use Rattle.pv_read.specs.declared.forms.sorts.Sort.TheVariants.{Misc, Section}
use Rattle.pv_read.proofs.OneItem.{sort_is}

-- ---- no item where none of its sort is
module _ (bytes : List ℕ) where
  pub none_of_sort : (s : Sort) → sort_of bytes ≡ s → BeginsNoneOf s bytes → BeginsNoItem bytes
  none_of_sort s e none i rest b = none i rest (sym (sort_is i bytes rest b) ∙ e) b

  pub no_section : sort_of bytes ≡ Section → BeginsNone IsCdata bytes → BeginsNoItem bytes
  no_section e none i rest b = by i b (sym (sort_is i bytes rest b) ∙ e)
    where
      by : (i : Item) → BeginsItem i bytes rest → sort i ≡ Section → ⊥
      by (cdata_section own) b f = none rest record { item = own; is_item = b.has_form; whole = b.whole }
      by i b f = cc

  pub no_misc : sort_of bytes ≡ Misc → BeginsNone IsComment bytes × BeginsNone IsInstruction bytes × BeginsNone IsXmlDecl bytes → BeginsNoItem bytes
  no_misc e none i rest b = by i b (sym (sort_is i bytes rest b) ∙ e)
    where
      misc : (own : List ℕ) → bytes ≡ own ++ rest → IsCommentOrInstruction own → ⊥
      misc own whole (inl is) = none.0 rest record { item = own; is_item = is; whole = whole }
      misc own whole (inr is) = none.1 rest record { item = own; is_item = is; whole = whole }

      by : (i : Item) → BeginsItem i bytes rest → sort i ≡ Misc → ⊥
      by (xml_declaration own) b f = none.2 rest record { item = own; is_item = b.has_form; whole = b.whole }
      by (comment_or_instruction own) b f = misc own b.whole b.has_form
      by i b f = cc

-- ---- an item isn't nothing
some_bytes : (i : Item) → HasForm i → 0 < length (bytes_of i)
some_bytes (xml_declaration bytes) is = omega (arith, ap length is.whole)
some_bytes (doctype name bytes) is = omega (arith, ap length is.whole, length-append is.front (62 ∷ []))
some_bytes (comment_or_instruction bytes) (inl is) = omega (arith, ap length is.whole)
some_bytes (comment_or_instruction bytes) (inr is) = omega (arith, ap length is.whole)
some_bytes (cdata_section bytes) is = omega (arith, ap length is.whole)
some_bytes (start_tag name attrs) is = omega arith
some_bytes (empty_tag name attrs) is = omega arith
some_bytes (end_tag name gap) is = omega arith
some_bytes (text_run []) is = absurd (is.some refl)
some_bytes (text_run (b ∷ bs)) is = omega arith

pub item_shorter : (i : Item) (bytes rest : List ℕ) → BeginsItem i bytes rest → length rest < length bytes
item_shorter i bytes rest b = omega (arith, ap length b.whole, length-append (bytes_of i) rest, some_bytes i b.has_form)
