-- Texts as lists of units, whatever these are.
use Rattle.std.specs.Prelude.{ℕ, Bool, true, false, not, ◌&&◌, ◌||◌, List, [], ◌∷◌, ◌++◌, codes}
use Rattle.std.specs.List.{list_any}
use Rattle.std.specs.Str.{bytes_eq}
use Rattle.pv_chars.specs.Spaces.{is_space}

-- the bytes of some units
abbrev pub joined : List (List ℕ) → List ℕ
joined [] = []
joined (unit ∷ units) = unit ++ joined units

-- a unit is white where it is one literal white character; every other unit is data
abbrev pub is_data : List ℕ → Bool
is_data [] = true
is_data (b ∷ []) = not (is_space b)
is_data (b ∷ c ∷ bs) = true

-- some unit is data
abbrev pub has_data : List (List ℕ) → Bool
has_data units = list_any is_data units

-- the three literal characters `]]>` stand at the front (XML 1.0, 2.4)
abbrev pub begins_close_mark : List (List ℕ) → Bool
begins_close_mark (a ∷ b ∷ c ∷ units) =
    bytes_eq a (codes "]") && bytes_eq b (codes "]") && bytes_eq c (codes ">")
begins_close_mark units = false

-- they stand somewhere (XML 1.0, 2.4)
abbrev pub holds_close_mark : List (List ℕ) → Bool
holds_close_mark [] = false
holds_close_mark (unit ∷ units) = begins_close_mark (unit ∷ units) || holds_close_mark units
