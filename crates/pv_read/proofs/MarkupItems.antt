-- Items of fixed marks, cut off by what stands after them.
use Rattle.std.proofs.Common.{◌≡◌, ℕ, ◌-◌, List, length, take, inl, inr, ◌∙◌}
use Rattle.pv_chars.specs.Fronts.{Begins}
use Rattle.pv_chars.specs.Markup.{IsComment, IsInstruction, IsCdata}
use Rattle.pv_chars.specs.Declarations.{IsXmlDecl}
use Rattle.pv_chars.proofs.CharacterLemmas.{cut_at}
use Rattle.pv_read.specs.Items.{xml_declaration, comment_or_instruction, cdata_section, BeginsItem}

module _ (bytes rest item : List ℕ) (e : item ≡ take (length bytes - length rest) bytes) where
  own : (IsItem : List ℕ → Type 0) → (b : Begins IsItem bytes rest) → item ≡ b.item
  own IsItem b = e ∙ (cut_at bytes b.item rest b.whole).0

  pub comment_item : Begins IsComment bytes rest → BeginsItem (comment_or_instruction item) bytes rest
  comment_item b = rw (own IsComment b) record { has_form = inl b.is_item; whole = b.whole; ends_well = tt }

  pub instruction_item : Begins IsInstruction bytes rest → BeginsItem (comment_or_instruction item) bytes rest
  instruction_item b = rw (own IsInstruction b) record { has_form = inr b.is_item; whole = b.whole; ends_well = tt }

  pub cdata_item : Begins IsCdata bytes rest → BeginsItem (cdata_section item) bytes rest
  cdata_item b = rw (own IsCdata b) record { has_form = b.is_item; whole = b.whole; ends_well = tt }

  pub declaration_item : Begins IsXmlDecl bytes rest → BeginsItem (xml_declaration item) bytes rest
  declaration_item b = rw (own IsXmlDecl b) record { has_form = b.is_item; whole = b.whole; ends_well = tt }
