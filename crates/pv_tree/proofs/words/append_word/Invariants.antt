use Rattle.std.proofs.Common.{◌≡◌, ◌++◌, drop, map}
use Rattle.pv_model.specs.PlainForms.{plain_token}
use Rattle.pv_dtd.specs.PlainForms.{plain_dtd}
use Rattle.pv_tree.specs.Words.{word_of}
use Rattle.pv_tree.specs.PlainForms.{forest}
use Rattle.pv_tree.proofs.words.append_word.Given as goal

abbrev pub invariant-loop-kid : goal.invariant-loop-kid
invariant-loop-kid l = map plain_token l.tokens.items ++ word_of (plain_dtd l.dtd) (forest (drop l.kid-index l.kids)) ≡ map plain_token l.fn.tokens.items ++ word_of (plain_dtd l.dtd) (forest l.kids)
