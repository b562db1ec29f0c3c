-- Tokens of mixed content whose names' numbers are in a set.
use Rattle.std.specs.Prelude.{ℕ, IsTrue, nat_eq}
use Rattle.std.specs.HashSet.{HashSet, contains}
use Rattle.pv_model.specs.Plain.{PlainToken, named, text, other}

abbrev pub IsOfSet : {S : Type 0} → HashSet ℕ S → PlainToken → Type 0
IsOfSet s (named y) = IsTrue (contains nat_eq s y)
IsOfSet s text = Unit {0}
IsOfSet s other = ⊥
