-- What each document keeps that some bytes spell.
use Rattle.std.proofs.Common.{◌≡◌, ◌≢◌, ◌≤◌, ◌<◌, ◌+◌, ◌*◌, ℕ, List, [], ◌∷◌, ◌++◌, Bool, true, false, not, ◌&&◌, inl, inr, cond, IsTrue, codes}
use Rattle.std.proofs.Common.{length, length-append, append-nil, refl, sym, ap, subst, ◌∙◌, arith}
use Rattle.std.specs.List.{AllByRecursion}
use Rattle.std.proofs.lemmas.Bool.{not-true, or_parts}
use Rattle.pv_chars.specs.Names.{IsName}
use Rattle.pv_chars.specs.Markup.{IsCdata, IsComment, IsInstruction}
use Rattle.pv_chars.proofs.NameLemmas.{is_name-IsName, name_chars_are_scalars}
use Rattle.pv_chars.proofs.Ranges.{name_start_is_name_char}
use Rattle.pv_chars.proofs.Utf8Lemmas.{begins_shorter}
use Rattle.pv_chars.proofs.CutLemmas.{units_in-joined}
use Rattle.pv_chars.proofs.CloseMarks.{held_by_bytes}
use Rattle.pv_chars.specs.Texts.{joined, holds_close_mark, begins_close_mark}
use Rattle.pv_chars.specs.Units.{AllUnits, units_in}
use Rattle.pv_tree.specs.Plain.{short, tagged, Tree, element, text_node, cdata_node, misc_node, Forest, no_trees, tree, nodes_in, nodes_in_all, is_element, PlainDoc, depth_of}
use Rattle.pv_tree.specs.Attributes.{IsCharacterData, IsKnownReference, IsTextPiece}
use Rattle.pv_tree.specs.Prolog.{IsCommentOrInstruction, IsProlog, IsEpilog}
use Rattle.pv_tree.specs.Legal.{has_names, have_names, is_formed, are_formed, IsLegal, AreLegal, is_open, front_units, has_no_close_mark}
use Rattle.pv_tree.specs.Legal.{have_no_close_mark, starts_no_close_mark, MAX_DEPTH, MAX_NODES}
use Rattle.pv_tree.specs.Units.{HasUnits, HaveUnits}
use Rattle.pv_read.specs.Grammar.{SpellsNode, SpellsContent, IsElement, IsWholeRun, begins_with_text, IsDocumentText}

pub element_is : {M : Type 0} (t : Tree M) → IsElement t → IsTrue (is_element t)
element_is (element x attrs ending kids mark) is = refl
element_is (text_node units) is = absurd is
element_is (cdata_node bytes) is = absurd is
element_is (misc_node bytes) is = absurd is

mutual
  pub formed : {M : Type 0} (t : Tree M) (bytes : List ℕ) → SpellsNode t bytes → IsTrue (is_formed t)
  formed (element x attrs short kids mark) bytes (name, are, none, whole) = rw none refl
  formed (element x attrs (tagged gap) kids mark) bytes (content, name, are, white, spells, whole) = all_formed kids content spells
  formed (text_node units) bytes spells = refl
  formed (cdata_node section) bytes spells = refl
  formed (misc_node misc) bytes spells = refl

  pub all_formed : {M : Type 0} (kids : Forest M) (bytes : List ℕ) → SpellsContent kids bytes → IsTrue (are_formed kids)
  all_formed no_trees bytes spells = refl
  all_formed (tree t kids) bytes (first, more, spells, whole_run, below, whole) = rw (formed t first spells) (all_formed kids more below)

mutual
  pub named : {M : Type 0} (t : Tree M) (bytes : List ℕ) → SpellsNode t bytes → IsTrue (has_names t)
  named (element x attrs short kids mark) bytes (name, are, none, whole) = rw (is_name-IsName x name, none) refl
  named (element x attrs (tagged gap) kids mark) bytes (content, name, are, white, spells, whole) = rw (is_name-IsName x name) (all_named kids content spells)
  named (text_node units) bytes spells = refl
  named (cdata_node section) bytes spells = refl
  named (misc_node misc) bytes spells = refl

  pub all_named : {M : Type 0} (kids : Forest M) (bytes : List ℕ) → SpellsContent kids bytes → IsTrue (have_names kids)
  all_named no_trees bytes spells = refl
  all_named (tree t kids) bytes (first, more, spells, whole_run, below, whole) = rw (named t first spells) (all_named kids more below)

-- ---- the units of character data
pub pieces_are_units : (pieces : List (List ℕ)) → AllByRecursion (IsTextPiece IsKnownReference) pieces → AllUnits pieces
pieces_are_units [] all = tt
pieces_are_units (u ∷ us) all = (all.0, pieces_are_units us all.1)

pub units_are_pieces : (bytes : List ℕ) (d : IsCharacterData IsKnownReference bytes) → units_in bytes ≡ d.are_pieces.pieces
units_are_pieces bytes d = ap units_in d.are_pieces.whole ∙ units_in-joined d.are_pieces.pieces (pieces_are_units d.are_pieces.pieces d.are_pieces.are_pieces)

pub data_are_units : (bytes : List ℕ) → IsCharacterData IsKnownReference bytes → AllUnits (units_in bytes)
data_are_units bytes d = rw (units_are_pieces bytes d) (pieces_are_units d.are_pieces.pieces d.are_pieces.are_pieces)

pub data_joined : (bytes : List ℕ) → IsCharacterData IsKnownReference bytes → joined (units_in bytes) ≡ bytes
data_joined bytes d = ap joined (units_are_pieces bytes d) ∙ sym d.are_pieces.whole

-- the units of a text are those that it is cut into
pub units_are_cut : (units : List (List ℕ)) (bytes : List ℕ) → AllUnits units → bytes ≡ joined units → units ≡ units_in bytes
units_are_cut units bytes all whole = sym (ap units_in whole ∙ units_in-joined units all)

mutual
  pub has_units : {M : Type 0} (t : Tree M) (bytes : List ℕ) → SpellsNode t bytes → HasUnits t
  has_units (element x attrs short kids mark) bytes (name, are, none, whole) = rw none tt
  has_units (element x attrs (tagged gap) kids mark) bytes (content, name, are, white, spells, whole) = have_units kids content spells
  has_units (text_node units) bytes (chars, all, whole) = λ none. chars.some (whole ∙ ap joined none)
  has_units (cdata_node section) bytes spells = tt
  has_units (misc_node misc) bytes spells = tt

  pub have_units : {M : Type 0} (kids : Forest M) (bytes : List ℕ) → SpellsContent kids bytes → HaveUnits kids
  have_units no_trees bytes spells = tt
  have_units (tree t kids) bytes (first, more, spells, whole_run, below, whole) = (has_units t first spells, have_units kids more below)

mutual
  pub legal : {M : Type 0} (t : Tree M) (bytes : List ℕ) → SpellsNode t bytes → IsLegal t
  legal (element x attrs short kids mark) bytes (name, are, none, whole) = (are, tt, rw none tt)
  legal (element x attrs (tagged gap) kids mark) bytes (content, name, are, white, spells, whole) = (are, white, all_legal kids content spells)
  legal (text_node units) bytes (chars, all, whole) = all
  legal (cdata_node section) bytes spells = spells.0
  legal (misc_node misc) bytes spells = spells.0

  pub all_legal : {M : Type 0} (kids : Forest M) (bytes : List ℕ) → SpellsContent kids bytes → AreLegal kids
  all_legal no_trees bytes spells = tt
  all_legal (tree t kids) bytes (first, more, spells, whole_run, below, whole) = (legal t first spells, all_legal kids more below)

-- ---- no run of texts spells `]]>`
-- no text stands in front of a forest that begins with none
pub no_front : {M : Type 0} (kids : Forest M) → IsTrue (not (begins_with_text kids)) → front_units kids ≡ []
no_front no_trees none = refl
no_front (tree (element x attrs ending nodes mark) kids) none = refl
no_front (tree (text_node units) kids) none = cc
no_front (tree (cdata_node section) kids) none = refl
no_front (tree (misc_node misc) kids) none = refl

open_units : (units : List (List ℕ)) → holds_close_mark units ≡ false → is_open units [] ≡ true
open_units [] none = refl
open_units (unit ∷ units) none =
    let parts = or_parts (begins_close_mark (unit ∷ units)) (holds_close_mark units) none in
    let P : List (List ℕ) → Type 0 = λ after. (not (begins_close_mark (unit ∷ after)) && is_open units []) ≡ true in
    subst P (sym (append-nil units)) (rw parts.0 (open_units units parts.1))

pub data_open : (bytes : List ℕ) → IsCharacterData IsKnownReference bytes → holds_close_mark (units_in bytes) ≡ false
data_open bytes d = by (holds_close_mark (units_in bytes)) refl
  where
    by : (b : Bool) → holds_close_mark (units_in bytes) ≡ b → holds_close_mark (units_in bytes) ≡ false
    by true e = absurd (d.no_close_mark (rw (data_joined bytes d) at (held_by_bytes (units_in bytes) e)))
    by false e = e

text_starts_no_close_mark : {M : Type 0} (t : Tree M) (kids : Forest M) (bytes : List ℕ) → SpellsNode t bytes → IsWholeRun t kids → IsTrue (starts_no_close_mark t kids)
text_starts_no_close_mark (element x attrs ending nodes mark) kids bytes spells whole_run = refl
text_starts_no_close_mark (text_node units) kids bytes (chars, all, whole) whole_run =
    rw (no_front kids whole_run, units_are_cut units bytes all whole) (open_units (units_in bytes) (data_open bytes chars))
text_starts_no_close_mark (cdata_node section) kids bytes spells whole_run = refl
text_starts_no_close_mark (misc_node misc) kids bytes spells whole_run = refl

mutual
  pub spelled_no_close_mark : {M : Type 0} (t : Tree M) (bytes : List ℕ) → SpellsNode t bytes → IsTrue (has_no_close_mark t)
  spelled_no_close_mark (element x attrs short kids mark) bytes (name, are, none, whole) = rw none refl
  spelled_no_close_mark (element x attrs (tagged gap) kids mark) bytes (content, name, are, white, spells, whole) = all_no_close_mark kids content spells
  spelled_no_close_mark (text_node units) bytes spells = refl
  spelled_no_close_mark (cdata_node section) bytes spells = refl
  spelled_no_close_mark (misc_node misc) bytes spells = refl

  pub all_no_close_mark : {M : Type 0} (kids : Forest M) (bytes : List ℕ) → SpellsContent kids bytes → IsTrue (have_no_close_mark kids)
  all_no_close_mark no_trees bytes spells = refl
  all_no_close_mark (tree t kids) bytes (first, more, spells, whole_run, below, whole) =
      rw (
        spelled_no_close_mark t first spells,
        text_starts_no_close_mark t kids first spells
            whole_run,
      ) (all_no_close_mark kids more below)

-- ---- two nodes take at least five bytes, where no text stands in front
abbrev slack : {M : Type 0} → Forest M → ℕ
slack kids = cond (begins_with_text kids) 3 0

slack_most : (b : Bool) → cond b 3 0 ≤ 3
slack_most true = omega arith
slack_most false = omega arith

text_some : (bytes : List ℕ) → bytes ≢ [] → 1 ≤ length bytes
text_some [] some = absurd (some refl)
text_some (b ∷ bs) some = omega arith

cdata_length : (bytes : List ℕ) → IsCdata bytes → 12 ≤ length bytes
cdata_length bytes is = rw is.whole (simp length-append (omega arith))

comment_length : (bytes : List ℕ) → IsComment bytes → 7 ≤ length bytes
comment_length bytes is = rw is.whole (simp length-append (omega arith))

pub name_some : (name : List ℕ) → IsName name → 1 ≤ length name
name_some name is =
    let scalar = name_chars_are_scalars is.first (name_start_is_name_char is.first is.is_start) in
    let shorter = begins_shorter name is.first is.others (record { scalar = scalar; whole = is.whole }) in
    omega arith

instruction_length : (bytes : List ℕ) → IsInstruction bytes → 5 ≤ length bytes
instruction_length bytes is = let some = name_some is.target is.is_target.is_name in rw is.whole (simp length-append (omega arith))

misc_length : (bytes : List ℕ) → IsCommentOrInstruction bytes → 5 ≤ length bytes
misc_length bytes (inl is) = let long = comment_length bytes is in omega arith
misc_length bytes (inr is) = instruction_length bytes is

short_length : (x attrs : List ℕ) → length (codes "<" ++ x ++ attrs ++ codes "/>") ≡ 3 + length x + length attrs
short_length x attrs = simp length-append (omega arith)

tagged_length : (x attrs content gap : List ℕ) → length (codes "<" ++ x ++ attrs ++ codes ">"
    ++ content ++ codes "</" ++ x ++ gap ++ codes ">") ≡ 5 + 2 * length x + length attrs + length
    content + length gap
tagged_length x attrs content gap = simp length-append (omega arith)

-- a text may take a byte alone
abbrev text_slack : {M : Type 0} → Tree M → ℕ
text_slack (element x attrs ending kids mark) = 0
text_slack (text_node units) = 6
text_slack (cdata_node section) = 0
text_slack (misc_node misc) = 0

few_with_first : {M : Type 0} (t : Tree M) (kids : Forest M) (first more : List ℕ) → IsWholeRun t kids → 5 * nodes_in t + 3 ≤ 2 * length first + text_slack t
    → 5 * nodes_in_all kids ≤ 2 * length more + slack kids → 5 * (nodes_in t + nodes_in_all kids) ≤ 2 * length (first ++ more) + slack (tree t kids)
few_with_first (element x attrs ending nodes mark) kids first more whole_run few few_others =
    let most = slack_most (begins_with_text kids) in
    rw length-append (omega arith)
few_with_first (text_node units) kids first more whole_run few few_others =
    let none : slack kids ≡ 0 = rw (not-true (begins_with_text kids) whole_run) refl in
    rw length-append (omega arith)
few_with_first (cdata_node section) kids first more whole_run few few_others =
    let most = slack_most (begins_with_text kids) in
    rw length-append (omega arith)
few_with_first (misc_node misc) kids first more whole_run few few_others =
    let most = slack_most (begins_with_text kids) in
    rw length-append (omega arith)

mutual
  pub few_in : {M : Type 0} (t : Tree M) (bytes : List ℕ) → SpellsNode t bytes → 5 * nodes_in t + 3 ≤ 2 * length bytes + text_slack t
  few_in (element x attrs short kids mark) bytes (name, are, none, whole) =
      let some = name_some x name in
      rw (none, whole, short_length x attrs) (omega arith)
  few_in (element x attrs (tagged gap) kids mark) bytes (content, name, are, white, spells, whole) =
      let some = name_some x name in
      let most = slack_most (begins_with_text kids) in
      let below = few_in_all kids content spells in
      rw (whole, tagged_length x attrs content gap) (omega arith)
  few_in (text_node units) bytes (chars, all, whole) = let some = text_some bytes chars.some in omega arith
  few_in (cdata_node section) bytes (is, same) = let long = cdata_length section is in rw same (omega arith)
  few_in (misc_node misc) bytes (is, same) = let long = misc_length misc is in rw same (omega arith)

  few_in_all : {M : Type 0} (kids : Forest M) (bytes : List ℕ) → SpellsContent kids bytes → 5 * nodes_in_all kids ≤ 2 * length bytes + slack kids
  few_in_all no_trees bytes spells = omega arith
  few_in_all (tree t kids) bytes (first, more, spells, whole_run, below, whole) =
      rw whole (few_with_first t kids first more whole_run (few_in t first spells) (few_in_all kids more below))

pub few_nodes : {M : Type 0} (root bytes : List ℕ) (doc : PlainDoc M) → IsDocumentText root bytes doc → nodes_in doc.root < MAX_NODES
few_nodes root bytes doc t =
    let few = few_in doc.root t.spelled.element t.spelled.is_root in
    let slack_none : text_slack doc.root ≡ 0 = no_slack doc.root t.spelled.is_element in
    let whole : length bytes ≡ length doc.before + length t.spelled.element + length doc.after = rw t.spelled.whole (simp length-append refl) in
    let most = t.few_bytes in
    omega arith
  where
    no_slack : {M : Type 0} (t : Tree M) → IsElement t → text_slack t ≡ 0
    no_slack (element x attrs ending kids mark) is = refl
    no_slack (text_node units) is = absurd is
    no_slack (cdata_node section) is = absurd is
    no_slack (misc_node misc) is = absurd is

-- What a document keeps.
pub record Keeps {M : Type 0} (root : List ℕ) (doc : PlainDoc M) : Type 0 where
  pub rooted : IsTrue (is_element doc.root)
  pub formed : IsTrue (is_formed doc.root)
  pub shallow : depth_of doc.root ≤ MAX_DEPTH
  pub small : nodes_in doc.root ≤ MAX_NODES
  pub named : IsTrue (has_names doc.root)
  pub units : HasUnits doc.root
  pub legal : IsLegal doc.root
  pub no_close_mark : IsTrue (has_no_close_mark doc.root)
  pub prolog : IsProlog root doc.before
  pub epilog : IsEpilog doc.after

-- each document that some bytes spell keeps it
pub keeps : {M : Type 0} (root bytes : List ℕ) (doc : PlainDoc M) → IsDocumentText root bytes doc → Keeps root doc
keeps root bytes doc t = record {
  rooted = element_is doc.root t.spelled.is_element;
  formed = formed doc.root t.spelled.element t.spelled.is_root;
  shallow = t.shallow;
  small = omega (arith, few_nodes root bytes doc t);
  named = named doc.root t.spelled.element t.spelled.is_root;
  units = has_units doc.root t.spelled.element t.spelled.is_root;
  legal = legal doc.root t.spelled.element t.spelled.is_root;
  no_close_mark = spelled_no_close_mark doc.root t.spelled.element t.spelled.is_root;
  prolog = t.spelled.is_prolog;
  epilog = t.spelled.is_epilog;
}
