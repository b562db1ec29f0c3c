-- Changes of a word.
use Rattle.std.specs.Prelude.{◌+◌, List}
use Rattle.std.specs.List.{splice}
use Rattle.pv_model.specs.declared.models.Token.{Token}
use Rattle.pv_rematch.specs.declared.changes.WordChange.{WordChange}

-- the word before a change: those that are gone stand in place of those that came
abbrev pub word_before : WordChange → List Token
word_before c = splice c.word.now c.from (c.from + c.came) c.gone.now
