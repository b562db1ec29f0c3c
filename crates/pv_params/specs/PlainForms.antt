-- Plain data as they are read off values of the program.
use Rattle.std.specs.Prelude.{ℕ, List, [], ◌∷◌}
use Rattle.std.specs.Prelude.{encode_utf8}
use Rattle.std.specs.Borrow.{Bor}
use Rattle.pv_params.specs.Items.{puts, reference, parameter, declaration, file, between, inside}
use Rattle.pv_params.specs.Items.{value}
use Rattle.pv_params.specs.Items.{TextItem, Mode}
use Rattle.pv_params.specs.declared.items.SpelledItem.{SpelledItem}
use Rattle.pv_params.specs.declared.items.SpelledItem.TheVariants.{Byte, Text, Character, Reference}
use Rattle.pv_params.specs.declared.items.SpelledItem.TheVariants.{Parameter, Declaration}
use Rattle.pv_params.specs.declared.text_mode.TextMode.{TextMode}
use Rattle.pv_params.specs.declared.text_mode.TextMode.TheVariants.{File, Between, Inside, Value}

abbrev pub plain_item : SpelledItem → TextItem
plain_item (Byte b) = puts (b ∷ [])
plain_item (Text bytes) = puts bytes.now
plain_item (Character c) = puts (encode_utf8 c)
plain_item (Reference name) = reference name.now
plain_item (Parameter name given) = parameter name.now given.now
plain_item (Declaration word held) = declaration word.now held.now

-- an item, and what stands after it
abbrev pub plain_item_found : SpelledItem × Bor (List ℕ) → TextItem × List ℕ
plain_item_found found = (plain_item found.0, found.1.now)

abbrev pub plain_mode : TextMode → Mode
plain_mode (File after_parameter) = file after_parameter
plain_mode Between = between
plain_mode Inside = inside
plain_mode Value = value
