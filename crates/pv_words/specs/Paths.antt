-- Paths as text.
use Rattle.std.specs.Prelude.{ℕ, ◌==◌, List, [], ◌∷◌, ◌++◌, codes, decimal, Option, Some}
use Rattle.std.specs.Prelude.{option_and_then, option_map, if◌then◌else◌}
use Rattle.std.specs.Str.{bytes_eq}
use Rattle.pv_words.specs.Lines.{with_first_byte}
use Rattle.pv_words.specs.Numbers.{number_spelled}

-- each place after a dot
abbrev pub places_text : List ℕ → List ℕ
places_text [] = []
places_text (place ∷ places) = codes "." ++ decimal place ++ places_text places

-- `.` for the document node, else the places joined by dots
abbrev pub path_text : List ℕ → List ℕ
path_text [] = codes "."
path_text (place ∷ places) = decimal place ++ places_text places

-- what stands between dots
abbrev pub between_dots : List ℕ → List (List ℕ)
between_dots [] = [] ∷ []
between_dots (b ∷ bs) =
    if b == 46 then [] ∷ between_dots bs else with_first_byte b (between_dots bs)

abbrev pub numbers_spelled : List (List ℕ) → Option (List ℕ)
numbers_spelled [] = Some []
numbers_spelled (word ∷ others) =
    option_and_then (λ n. option_map (λ ns. n ∷ ns) (numbers_spelled others)) (number_spelled word)

-- the path that is written so
abbrev pub path_spelled : List ℕ → Option (List ℕ)
path_spelled word =
    if bytes_eq word (codes ".") then Some [] else numbers_spelled (between_dots word)
