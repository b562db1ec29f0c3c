-- The drill: a document of so many sections, and a script that edits each.
use Rattle.std.specs.Prelude.{ℕ, zero, suc, ◌%◌, List, [], ◌∷◌, ◌++◌, codes, decimal, ◌==◌}
use Rattle.std.specs.Prelude.{if◌then◌else◌}

-- the DTD
abbrev pub DRILL_DTD : List ℕ
DRILL_DTD =
    codes "<!ELEMENT doc (head, sec+)>\n<!ELEMENT head (#PCDATA)>\n" ++ (
    codes "<!ELEMENT sec (title?, (p|list)*)>\n<!ELEMENT title (#PCDATA)>\n" ++ (
    codes "<!ELEMENT p (#PCDATA|em|br)*>\n<!ELEMENT em (#PCDATA|em)*>\n<!ELEMENT br EMPTY>\n" ++ (
    codes "<!ELEMENT list (item, item+)>\n<!ELEMENT item (p+)>\n")))

-- a section with its number as text
abbrev pub section_text : ℕ → List ℕ
section_text k = codes "<sec>t" ++ (decimal k ++ codes "</sec>")

-- the sections from number 1 on
abbrev pub sections : ℕ → List ℕ
sections zero = []
sections (suc k) = sections k ++ section_text (suc k)

-- the document of so many sections
abbrev pub drill_text : ℕ → List ℕ
drill_text n = codes "<doc><head>drill</head>" ++ (sections n ++ codes "</doc>")

-- the lines for a section: an element that can't stand there, one that can, and the undo of that
abbrev pub section_line : ℕ → ℕ → List ℕ
section_line k zero = codes "wrap 0." ++ (decimal k ++ codes " 0 1 br")
section_line k (suc zero) = codes "wrap 0." ++ (decimal k ++ codes " 0 1 p")
section_line k (suc (suc which)) = codes "undo"

-- the lines for a section; each third is undone
abbrev pub section_lines : ℕ → List (List ℕ)
section_lines k =
    if k % 3 == 0 then section_line k 0 ∷ section_line k 1 ∷ section_line k 2 ∷ []
    else section_line k 0 ∷ section_line k 1 ∷ []

-- the lines of the script, for all sections
abbrev pub drill_lines : ℕ → List (List ℕ)
drill_lines zero = []
drill_lines (suc k) = drill_lines k ++ section_lines (suc k)
