-- What of the items so far decides which item may stand next.
use Rattle.std.specs.Prelude.{◌≡◌, ◌≢◌, ◌<◌, ℕ, suc, Bool, true, false, List, [], length}
use Rattle.std.specs.List.{list_all}
use Rattle.pv_chars.specs.Spaces.{is_space}
use Rattle.pv_read.specs.Items.{Item, xml_declaration, doctype, comment_or_instruction}
use Rattle.pv_read.specs.Items.{cdata_section, start_tag, empty_tag, end_tag, text_run}
use Rattle.pv_read.specs.Left.{Left, PlainStage, before_doctype, behind_doctype, in_prolog}
use Rattle.pv_read.specs.Left.{in_content, in_epilog, takes_doctype, is_at_front, behind_misc}

-- in the prolog at this stage; in an element of this name, with so many open ones; after the root
pub data PlainPlace : Type 0 where
  prolog : (stage : PlainStage) → PlainPlace
  content : (name : List ℕ) → (open_elements : ℕ) → PlainPlace
  epilog : PlainPlace

-- the place that the items so far lead to
abbrev pub place_reached : {M : Type 0} → Left M → PlainPlace
place_reached (in_prolog stage before) = prolog stage
place_reached (in_content before inner outer) = content inner.name (suc (length outer))
place_reached (in_epilog before root after) = epilog

-- a document type declaration may stand here
abbrev pub takes_doctype_at : PlainPlace → Bool
takes_doctype_at (prolog stage) = takes_doctype stage
takes_doctype_at (content name open_elements) = false
takes_doctype_at epilog = false

-- how many elements are open here
abbrev pub open_at : PlainPlace → ℕ
open_at (prolog stage) = 0
open_at (content name open_elements) = open_elements
open_at epilog = 0

-- An item is to stand here: an element is open in content, and something is left after the root.
abbrev pub AsksForItem : PlainPlace → List ℕ → Type 0
AsksForItem (prolog stage) rest = Unit {0}
AsksForItem (content name open_elements) rest = 0 < open_elements
AsksForItem epilog rest = rest ≢ []

-- the item may stand in the prolog at this stage
abbrev pub may_stand_in_prolog : PlainStage → Item → Bool
may_stand_in_prolog stage (xml_declaration bytes) = is_at_front stage
may_stand_in_prolog stage (doctype name bytes) = takes_doctype stage
may_stand_in_prolog stage (comment_or_instruction bytes) = true
may_stand_in_prolog stage (cdata_section bytes) = false
may_stand_in_prolog stage (start_tag name attrs) = true
may_stand_in_prolog stage (empty_tag name attrs) = true
may_stand_in_prolog stage (end_tag name gap) = false
may_stand_in_prolog stage (text_run bytes) = list_all is_space bytes

-- the item may stand in an element
abbrev pub may_stand_in_content : Item → Bool
may_stand_in_content (xml_declaration bytes) = false
may_stand_in_content (doctype name bytes) = false
may_stand_in_content (comment_or_instruction bytes) = true
may_stand_in_content (cdata_section bytes) = true
may_stand_in_content (start_tag name attrs) = true
may_stand_in_content (empty_tag name attrs) = true
may_stand_in_content (end_tag name gap) = true
may_stand_in_content (text_run bytes) = true

-- the item may stand after the root
abbrev pub may_stand_in_epilog : Item → Bool
may_stand_in_epilog (xml_declaration bytes) = false
may_stand_in_epilog (doctype name bytes) = false
may_stand_in_epilog (comment_or_instruction bytes) = true
may_stand_in_epilog (cdata_section bytes) = false
may_stand_in_epilog (start_tag name attrs) = false
may_stand_in_epilog (empty_tag name attrs) = false
may_stand_in_epilog (end_tag name gap) = false
may_stand_in_epilog (text_run bytes) = list_all is_space bytes

-- the item may stand at the place
abbrev pub may_stand : PlainPlace → Item → Bool
may_stand (prolog stage) i = may_stand_in_prolog stage i
may_stand (content name open_elements) i = may_stand_in_content i
may_stand epilog i = may_stand_in_epilog i

-- an end tag of another name than that of the innermost open element here
abbrev pub IsMismatchIn : List ℕ → Item → Type 0
IsMismatchIn open_name (xml_declaration bytes) = ⊥
IsMismatchIn open_name (doctype name bytes) = ⊥
IsMismatchIn open_name (comment_or_instruction bytes) = ⊥
IsMismatchIn open_name (cdata_section bytes) = ⊥
IsMismatchIn open_name (start_tag name attrs) = ⊥
IsMismatchIn open_name (empty_tag name attrs) = ⊥
IsMismatchIn open_name (end_tag name gap) = name ≡ open_name → ⊥
IsMismatchIn open_name (text_run bytes) = ⊥

-- the item is an end tag of another name than that of the innermost open element
abbrev pub IsMismatchAt : PlainPlace → Item → Type 0
IsMismatchAt (prolog stage) i = ⊥
IsMismatchAt (content name open_elements) i = IsMismatchIn name i
IsMismatchAt epilog i = ⊥

-- the stage after an item that may stand in the prolog
abbrev pub stage_behind : PlainStage → Item → PlainStage
stage_behind stage (xml_declaration bytes) = before_doctype
stage_behind stage (doctype name bytes) = behind_doctype
stage_behind stage (comment_or_instruction bytes) = behind_misc stage
stage_behind stage (cdata_section bytes) = stage
stage_behind stage (start_tag name attrs) = stage
stage_behind stage (empty_tag name attrs) = stage
stage_behind stage (end_tag name gap) = stage
stage_behind stage (text_run bytes) = behind_misc stage
