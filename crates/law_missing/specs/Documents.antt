-- Small documents, on which the definitions are tried.
use Rattle.std.specs.Prelude.{List, [], codes, suc, zero, ℕ, ◌++◌, ◌∷◌}
use Rattle.pv_tree.specs.Plain.{PlainDoc, Tree, cdata_node, element, forest_of, misc_node, no_trees}
use Rattle.pv_tree.specs.Plain.{short, tagged, text_node}

abbrev pub tag : List ℕ → List (Tree Unit) → Tree Unit
tag x kids = element x [] (tagged []) (forest_of kids) tt

-- literal characters of ASCII, each a unit
abbrev pub literal_units : List ℕ → List (List ℕ)
literal_units [] = []
literal_units (b ∷ bs) = (b ∷ []) ∷ literal_units bs

-- a text of literal characters
abbrev pub chars : List ℕ → Tree Unit
chars bytes = text_node (literal_units bytes)

-- a document of this root alone
abbrev pub doc_of : Tree Unit → PlainDoc Unit
doc_of t = record { before = []; root = t; after = []; mark = tt }

-- <doc>Hello</doc>
abbrev pub hello : Tree Unit
hello = tag (codes "doc") (chars (codes "Hello") ∷ [])

-- <doc><head>He</head>llo</doc>
abbrev pub head_then_text : Tree Unit
head_then_text = tag (codes "doc") (
    tag (codes "head") (chars (codes "He") ∷ []) ∷ chars (codes "llo") ∷ [])

-- <doc><em>x</em></doc>
abbrev pub em_alone : Tree Unit
em_alone = tag (codes "doc") (tag (codes "em") (chars (codes "x") ∷ []) ∷ [])

-- <doc><p>a</p><title>b</title></doc>
abbrev pub p_then_title : Tree Unit
p_then_title = tag (codes "doc") (
    tag (codes "p") (chars (codes "a") ∷ []) ∷ tag (codes "title") (chars (codes "b") ∷ []) ∷ [])

-- <doc><sec/><head/></doc>
abbrev pub sec_then_head : Tree Unit
sec_then_head = tag (codes "doc") (tag (codes "sec") [] ∷ tag (codes "head") [] ∷ [])

-- <p>a</p>
abbrev pub p_alone : Tree Unit
p_alone = tag (codes "p") (chars (codes "a") ∷ [])

-- <doc><head/><sec><p><br> </br></p></sec></doc>
abbrev pub blank_in_br : Tree Unit
blank_in_br = tag (codes "doc") (tag (codes "head") [] ∷
    tag (codes "sec") (tag (codes "p") (tag (codes "br") (chars (codes " ") ∷ []) ∷ []) ∷ []) ∷ [])

-- <doc><!--c--> </doc>
abbrev pub comment_alone : Tree Unit
comment_alone = tag (codes "doc") (misc_node (codes "<!--c-->") ∷ chars (codes " ") ∷ [])

-- <doc><head/><sec>..</sec></doc>, with this text in the sec
abbrev pub sec_with : List (List ℕ) → Tree Unit
sec_with units = tag (codes "doc") (
    tag (codes "head") [] ∷ tag (codes "sec") (text_node units ∷ []) ∷ [])

-- <x><y/><y/><y/></x>
abbrev pub three_ys : Tree Unit
three_ys = tag (codes "x") (tag (codes "y") [] ∷ tag (codes "y") [] ∷ tag (codes "y") [] ∷ [])

-- <r><s/><zz/></r>
abbrev pub unknown_name : Tree Unit
unknown_name = tag (codes "r") (tag (codes "s") [] ∷ tag (codes "zz") [] ∷ [])

-- <r><s><u/></s></r>
abbrev pub mentioned_name : Tree Unit
mentioned_name = tag (codes "r") (tag (codes "s") (tag (codes "u") [] ∷ []) ∷ [])

-- so many em elements in one
abbrev pub nested_em : ℕ → Tree Unit
nested_em zero = tag (codes "em") []
nested_em (suc n) = tag (codes "em") (nested_em n ∷ [])

-- a text of one line end
abbrev pub newline : Tree Unit
newline = text_node ((10 ∷ []) ∷ [])

-- a blank, and an attribute whose value stands between two of this quote
abbrev pub attribute : ℕ → List ℕ → List ℕ → List ℕ
attribute quote x value = 32 ∷ (x ++ 61 ∷ quote ∷ value ++ quote ∷ [])

-- the root of a letter with white space, attributes, a reference, a CDATA section and a processing
-- instruction:
--
-- <doc id="d1">
-- <head>On caf&#233;s</head>
-- <sec class='intro'>
-- Cafés opened early. See <![CDATA[<menu>]]> below.
-- <em>Tea</em> came later.<br />
-- </sec>
-- <?page 2?>
-- </doc>
abbrev pub letter_head : Tree Unit
letter_head = tag (codes "head") (
    text_node (literal_units (codes "On caf") ++ codes "&#233;" ∷ literal_units (codes "s")) ∷ [])

-- the sec of the letter
abbrev pub letter_sec : Tree Unit
letter_sec = element (codes "sec") (attribute 39 (codes "class") (codes "intro")) (tagged [])
    (forest_of (
    text_node ((10 ∷ []) ∷ literal_units (codes "Caf") ++ (195 ∷ 169 ∷ []) ∷
    literal_units (codes "s opened early. See ")) ∷
    cdata_node (codes "<![CDATA[<menu>]]>") ∷
    text_node (literal_units (codes " below.") ++ (10 ∷ []) ∷ []) ∷
    tag (codes "em") (chars (codes "Tea") ∷ []) ∷
    chars (codes " came later.") ∷
    element (codes "br") (32 ∷ []) short no_trees tt ∷
    newline ∷ [])) tt

-- the letter
abbrev pub letter : Tree Unit
letter = element (codes "doc") (attribute 34 (codes "id") (codes "d1")) (tagged []) (forest_of (
    newline ∷ letter_head ∷ newline ∷ letter_sec ∷ newline ∷
    misc_node (codes "<?page 2?>") ∷ newline ∷ [])) tt

-- the letter completed, with this sec in the place of its own:
--
-- <sec class='intro'><title>Opening</title><p>
-- Cafés opened early. See <![CDATA[<menu>]]> below.
-- </p><p><em>Tea</em> came later.<br /></p>
-- </sec>
abbrev pub first_p : Tree Unit
first_p = tag (codes "p") (
    text_node ((10 ∷ []) ∷ literal_units (codes "Caf") ++ (195 ∷ 169 ∷ []) ∷
    literal_units (codes "s opened early. See ")) ∷
    cdata_node (codes "<![CDATA[<menu>]]>") ∷
    text_node (literal_units (codes " below.") ++ (10 ∷ []) ∷ []) ∷ [])

-- and with this second p
abbrev pub second_p : Tree Unit
second_p = tag (codes "p") (
    tag (codes "em") (chars (codes "Tea") ∷ []) ∷
    chars (codes " came later.") ∷
    element (codes "br") (32 ∷ []) short no_trees tt ∷ [])

-- the sec with both
abbrev pub completed_sec : Tree Unit
completed_sec = element (codes "sec") (attribute 39 (codes "class") (codes "intro")) (tagged [])
    (forest_of (
    tag (codes "title") (chars (codes "Opening") ∷ []) ∷ first_p ∷ second_p ∷ newline ∷ [])) tt

-- and the letter with that sec
abbrev pub completed_letter : Tree Unit
completed_letter = element (codes "doc") (attribute 34 (codes "id") (codes "d1")) (tagged [])
    (forest_of (
    newline ∷ letter_head ∷ newline ∷ completed_sec ∷ newline ∷
    misc_node (codes "<?page 2?>") ∷ newline ∷ [])) tt
