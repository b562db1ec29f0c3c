-- What the items that are read are seen as.
use Rattle.std.specs.Prelude.{List, map}
use Rattle.pv_dtd.specs.Items.{NamedPart, name, seq, choice, opt, star, plus, NamedParts}
use Rattle.pv_dtd.specs.Items.{named_parts_of, NamedModel, empty, any, mixed, children, DtdItem}
use Rattle.pv_dtd.specs.Items.{text_declaration, element, skipped, comment, instruction}
use Rattle.pv_dtd.specs.declared.items.SpelledPart.{SpelledPart, fold-SpelledPart}
use Rattle.pv_dtd.specs.declared.items.SpelledPart.TheOpen.{SpelledPart-F}
use Rattle.pv_dtd.specs.declared.items.SpelledModel.{SpelledModel}
use Rattle.pv_dtd.specs.declared.items.SpelledModel.TheVariants as model
use Rattle.pv_dtd.specs.declared.items.SpelledItem.{SpelledItem}
use Rattle.pv_dtd.specs.declared.items.SpelledItem.TheVariants as item

-- one level of a particle, its members already read
abbrev pub part_step : SpelledPart-F NamedPart → NamedPart
part_step (SpelledPart-F.Name n) = name n.now
part_step (SpelledPart-F.Seq ps) = seq (named_parts_of ps.items)
part_step (SpelledPart-F.Choice ps) = choice (named_parts_of ps.items)
part_step (SpelledPart-F.Opt p) = opt p.value
part_step (SpelledPart-F.Star p) = star p.value
part_step (SpelledPart-F.Plus p) = plus p.value

abbrev pub named_part : SpelledPart → NamedPart
named_part = fold-SpelledPart NamedPart part_step

abbrev pub named_parts : List SpelledPart → NamedParts
named_parts ps = named_parts_of (map named_part ps)

abbrev pub named_model : SpelledModel → NamedModel
named_model model.Empty = empty
named_model model.Any = any
named_model (model.Mixed names) = mixed (map (λ n. n.now) names.items)
named_model (model.Children p) = children (named_part p.value)

abbrev pub named_item : SpelledItem → DtdItem
named_item item.TextDeclaration = text_declaration
named_item (item.Element n m) = element n.now (named_model m)
named_item item.Skipped = skipped
named_item item.Comment = comment
named_item item.Instruction = instruction
