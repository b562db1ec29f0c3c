-- Questions of which names may be put somewhere, as lines of a script.
use Rattle.std.specs.Prelude.{ℕ, List, [], ◌∷◌, codes, decimal}
use Rattle.pv_edit.specs.declared.asks.Ask.{Ask}
use Rattle.pv_edit.specs.declared.asks.Ask.TheVariants.{Wrap, Rename}
use Rattle.pv_words.specs.Paths.{path_text}
use Rattle.pv_words.specs.Words.{words}

-- The line of a question: `offer`, the path, and, where a new element is asked of, from which kid
-- up to which it is to hold. Numbers are written as in the line of an edit.
abbrev pub ask_text : Ask → List ℕ
ask_text (Wrap path from to) =
    words (codes "offer" ∷ path_text path ∷ decimal from ∷ decimal to ∷ [])
ask_text (Rename path) = words (codes "offer" ∷ path_text path ∷ [])

-- the numbers in it
abbrev pub numbers_asked : Ask → List ℕ
numbers_asked (Wrap path from to) = from ∷ to ∷ path
numbers_asked (Rename path) = path
