-- What the items of a document so far leave: the place, and what of the tree was read. Mark m is
-- given to each element.
use Rattle.std.specs.Prelude.{◌≡◌, ℕ, suc, List, [], ◌∷◌, ◌++◌, length, Bool, true, false, Option}
use Rattle.std.specs.Prelude.{Some, None, if◌then◌else◌}
use Rattle.std.specs.List.{list_all}
use Rattle.pv_chars.specs.Spaces.{is_space}
use Rattle.pv_chars.specs.Units.{units_in}
use Rattle.pv_tree.specs.Plain.{short, tagged, Tree, element, text_node, cdata_node, misc_node}
use Rattle.pv_tree.specs.Plain.{forest_of, no_trees}
use Rattle.pv_read.specs.Items.{Item, xml_declaration, doctype, comment_or_instruction}
use Rattle.pv_read.specs.Items.{cdata_section, start_tag, empty_tag, end_tag, text_run}

-- An open element: its name, the bytes after it in its tag, and its kids so far.
pub record Open (M : Type 0) : Type 0 where
  pub name : List ℕ
  pub attrs : List ℕ
  pub kids : List (Tree M)

-- where in the prolog: at its front, with no item yet; before a document type declaration; after
-- one
pub data PlainStage : Type 0 where
  at_front : PlainStage
  before_doctype : PlainStage
  behind_doctype : PlainStage

-- in the prolog, with its bytes so far; in the root, with the innermost open element and those
-- around it, innermost first; after the root, with the bytes since (XML 1.0, 2.1, 2.8, 3.1)
pub data Left (M : Type 0) : Type 0 where
  in_prolog : (stage : PlainStage) → (before : List ℕ) → Left M
  in_content : (before : List ℕ) → (inner : Open M) → (outer : List (Open M)) → Left M
  in_epilog : (before : List ℕ) → (root : Tree M) → (after : List ℕ) → Left M

-- the stage after a misc
abbrev pub behind_misc : PlainStage → PlainStage
behind_misc at_front = before_doctype
behind_misc stage = stage

-- a document type declaration may stand at this stage
abbrev pub takes_doctype : PlainStage → Bool
takes_doctype behind_doctype = false
takes_doctype _ = true

abbrev pub is_at_front : PlainStage → Bool
is_at_front at_front = true
is_at_front _ = false

-- an element that has just been opened
abbrev pub just_opened : {M : Type 0} → List ℕ → List ℕ → Open M
just_opened name attrs = record { name = name; attrs = attrs; kids = [] }

-- the element of an empty-element tag
abbrev pub empty_element : {M : Type 0} → M → List ℕ → List ℕ → Tree M
empty_element m name attrs = element name attrs short no_trees m

-- the open element, ended by an end tag
abbrev pub closed_element : {M : Type 0} → M → Open M → List ℕ → Tree M
closed_element m e gap = element e.name e.attrs (tagged gap) (forest_of e.kids) m

-- the open element with one more kid
abbrev pub with_kid : {M : Type 0} → Open M → Tree M → Open M
with_kid e t = record { name = e.name; attrs = e.attrs; kids = e.kids ++ t ∷ [] }

-- A whole element is a kid of the innermost element around it, or the root.
abbrev pub joined_to : {M : Type 0} → List ℕ → List (Open M) → Tree M → Left M
joined_to before [] t = in_epilog before t []
joined_to before (inner ∷ outer) t = in_content before (with_kid inner t) outer

-- What an item in the prolog leaves; none where it may not stand there.
abbrev pub left_in_prolog : {M : Type 0} → M → PlainStage → List ℕ → Item → Option (Left M)
left_in_prolog m stage before (xml_declaration bytes) =
    if is_at_front stage then Some (in_prolog before_doctype (before ++ bytes)) else None
left_in_prolog m stage before (doctype name bytes) =
    if takes_doctype stage then Some (in_prolog behind_doctype (before ++ bytes)) else None
left_in_prolog m stage before (comment_or_instruction bytes) =
    Some (in_prolog (behind_misc stage) (before ++ bytes))
left_in_prolog m stage before (start_tag name attrs) =
    Some (in_content before (just_opened name attrs) [])
left_in_prolog m stage before (empty_tag name attrs) =
    Some (in_epilog before (empty_element m name attrs) [])
left_in_prolog m stage before (text_run bytes) =
    if list_all is_space bytes then Some (in_prolog (behind_misc stage) (before ++ bytes))
    else None
left_in_prolog m stage before _ = None

-- What an item in the root leaves; none where it may not stand there. Whether an end tag has the
-- right name is asked elsewhere.
abbrev pub left_in_content : {M : Type 0} → M → List ℕ → Open M → List (Open M) → Item →
    Option (Left M)
left_in_content m before inner outer (comment_or_instruction bytes) =
    Some (in_content before (with_kid inner (misc_node bytes)) outer)
left_in_content m before inner outer (cdata_section bytes) =
    Some (in_content before (with_kid inner (cdata_node bytes)) outer)
left_in_content m before inner outer (start_tag name attrs) =
    Some (in_content before (just_opened name attrs) (inner ∷ outer))
left_in_content m before inner outer (empty_tag name attrs) =
    Some (in_content before (with_kid inner (empty_element m name attrs)) outer)
left_in_content m before inner outer (end_tag name gap) =
    Some (joined_to before outer (closed_element m inner gap))
left_in_content m before inner outer (text_run bytes) =
    Some (in_content before (with_kid inner (text_node (units_in bytes))) outer)
left_in_content m before inner outer _ = None

-- What an item after the root leaves; none where it may not stand there.
abbrev pub left_in_epilog : {M : Type 0} → List ℕ → Tree M → List ℕ → Item → Option (Left M)
left_in_epilog before root after (comment_or_instruction bytes) =
    Some (in_epilog before root (after ++ bytes))
left_in_epilog before root after (text_run bytes) =
    if list_all is_space bytes then Some (in_epilog before root (after ++ bytes)) else None
left_in_epilog before root after _ = None

-- what the items so far and this one leave; none where this one may not stand here
abbrev pub left_by : {M : Type 0} → M → Left M → Item → Option (Left M)
left_by m (in_prolog stage before) i = left_in_prolog m stage before i
left_by m (in_content before inner outer) i = left_in_content m before inner outer i
left_by m (in_epilog before root after) i = left_in_epilog before root after i

-- how many elements are open
abbrev pub open_elements : {M : Type 0} → Left M → ℕ
open_elements (in_content before inner outer) = suc (length outer)
open_elements _ = 0

-- the document is whole where nothing more stands after its root
abbrev pub IsWholeAt : {M : Type 0} → Left M → List ℕ → Type 0
IsWholeAt (in_epilog before root after) rest = rest ≡ []
IsWholeAt _ rest = ⊥
