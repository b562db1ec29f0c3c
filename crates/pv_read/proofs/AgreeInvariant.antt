-- What the bytes of the items so far say of what these items leave.
use Rattle.std.proofs.Common.{◌≡◌, ◌≤◌, ◌+◌, ℕ, suc, List, [], ◌∷◌, ◌++◌, Bool, true, false, not, inl, inr, IsTrue, max, Option, Some, None, length}
use Rattle.std.proofs.Common.{append-nil, append_assoc, refl, sym, ap, ◌∙◌, arith}
use Rattle.std.specs.List.{AllByRecursion}
use Rattle.pv_chars.specs.Names.{IsName}
use Rattle.pv_chars.specs.Declarations.{IsOptional, IsXmlDecl}
use Rattle.pv_chars.specs.Texts.{joined}
use Rattle.pv_chars.proofs.MeansLemmas.{joined-append}
use Rattle.pv_chars.specs.ByteOrderMark.{BYTE_ORDER_MARK}
use Rattle.pv_tree.specs.Plain.{tagged, Tree, element, text_node, cdata_node, misc_node, Forest, no_trees, tree, forest_of, depth_of, depth_of_all, map_marks, map_marks_all}
use Rattle.pv_tree.specs.Attributes.{AreMadeOf, IsAttributes, IsKnownReference}
use Rattle.pv_tree.specs.Prolog.{IsMisc, IsDoctype, IsProlog, IsEpilog}
use Rattle.pv_read.specs.Limits.{IsWithinDepth}
use Rattle.pv_tree.proofs.JoinedLists.{all_joined}
use Rattle.pv_read.proofs.Pieces.{nothing}
use Rattle.pv_read.specs.Grammar.{SpellsNode, SpellsContent, IsElement, IsWholeRun, begins_with_text}
use Rattle.pv_read.specs.Items.{start_tag, bytes_of, IsRunEnd}
use Rattle.pv_read.specs.Left.{Open, PlainStage, at_front, before_doctype, behind_doctype, behind_misc, takes_doctype, Left, in_prolog, in_content, in_epilog}

-- ---- the prolog
-- The byte order mark, XMLDecl and Misc*, each of which may be left out: what may stand before a document type declaration.
pub record IsBeforeDoctype (bytes : List ℕ) : Type 0 where
  pub mark : List ℕ
  pub declaration : List ℕ
  pub misc : List ℕ
  pub is_mark : IsOptional (λ b. b ≡ BYTE_ORDER_MARK) mark
  pub is_declaration : IsOptional IsXmlDecl declaration
  pub is_misc : AreMadeOf IsMisc misc
  pub whole : bytes ≡ mark ++ (declaration ++ misc)

abbrev pub IsPrologAt : List ℕ → PlainStage → List ℕ → Type 0
IsPrologAt root at_front bytes = IsOptional (λ b. b ≡ BYTE_ORDER_MARK) bytes
IsPrologAt root before_doctype bytes = IsBeforeDoctype bytes
IsPrologAt root behind_doctype bytes = IsProlog root bytes

pub made_of_both : (P : List ℕ → Type 0) (bytes more : List ℕ) → AreMadeOf P bytes → AreMadeOf P more → AreMadeOf P (bytes ++ more)
made_of_both P bytes more made others = record {
  pieces = made.pieces ++ others.pieces;
  are_pieces = all_joined P made.pieces others.pieces made.are_pieces others.are_pieces;
  whole = ap (λ front. front ++ more) made.whole ∙ ap (λ rest. joined made.pieces ++ rest) others.whole ∙ sym (joined-append made.pieces others.pieces);
}

pub made_of_more : (P : List ℕ → Type 0) (bytes piece : List ℕ) → AreMadeOf P bytes → P piece → AreMadeOf P (bytes ++ piece)
made_of_more P bytes piece made is = made_of_both P bytes piece made (record { pieces = piece ∷ []; are_pieces = (is, tt); whole = sym (append-nil piece) })

mark_alone : (bytes : List ℕ) → IsOptional (λ b. b ≡ BYTE_ORDER_MARK) bytes → IsBeforeDoctype bytes
mark_alone bytes is = record { mark = bytes; declaration = []; misc = []; is_mark = is; is_declaration = inl refl; is_misc = nothing IsMisc; whole = sym (append-nil bytes) }

no_doctype : (root bytes : List ℕ) → IsBeforeDoctype bytes → IsProlog root bytes
no_doctype root bytes b = record {
  mark = b.mark;
  declaration = b.declaration;
  misc = b.misc;
  doctype = [];
  more_misc = [];
  is_mark = b.is_mark;
  is_declaration = b.is_declaration;
  is_misc = b.is_misc;
  is_doctype = inl refl;
  is_more_misc = nothing IsMisc;
  whole = b.whole ∙ ap (λ misc. b.mark ++ (b.declaration ++ misc)) (sym (append-nil b.misc));
}

pub prolog_at : (root : List ℕ) (stage : PlainStage) (bytes : List ℕ) → IsPrologAt root stage bytes → IsProlog root bytes
prolog_at root at_front bytes is = no_doctype root bytes (mark_alone bytes is)
prolog_at root before_doctype bytes is = no_doctype root bytes is
prolog_at root behind_doctype bytes is = is

misc_before : (bytes misc : List ℕ) → IsBeforeDoctype bytes → IsMisc misc → IsBeforeDoctype (bytes ++ misc)
misc_before bytes misc b is = record {
  mark = b.mark;
  declaration = b.declaration;
  misc = b.misc ++ misc;
  is_mark = b.is_mark;
  is_declaration = b.is_declaration;
  is_misc = made_of_more IsMisc b.misc misc b.is_misc is;
  whole = ap (λ front. front ++ misc) b.whole ∙ simp append_assoc;
}

misc_behind : (root bytes misc : List ℕ) → IsProlog root bytes → IsMisc misc → IsProlog root (bytes ++ misc)
misc_behind root bytes misc p is = record {
  mark = p.mark;
  declaration = p.declaration;
  misc = p.misc;
  doctype = p.doctype;
  more_misc = p.more_misc ++ misc;
  is_mark = p.is_mark;
  is_declaration = p.is_declaration;
  is_misc = p.is_misc;
  is_doctype = p.is_doctype;
  is_more_misc = made_of_more IsMisc p.more_misc misc p.is_more_misc is;
  whole = ap (λ front. front ++ misc) p.whole ∙ simp append_assoc;
}

pub with_misc : (root : List ℕ) (stage : PlainStage) (bytes misc : List ℕ) → IsPrologAt root stage bytes → IsMisc misc → IsPrologAt root (behind_misc stage) (bytes ++ misc)
with_misc root at_front bytes misc p is = misc_before bytes misc (mark_alone bytes p) is
with_misc root before_doctype bytes misc p is = misc_before bytes misc p is
with_misc root behind_doctype bytes misc p is = misc_behind root bytes misc p is

pub with_declaration : (bytes declaration : List ℕ) → IsOptional (λ b. b ≡ BYTE_ORDER_MARK) bytes → IsXmlDecl declaration → IsBeforeDoctype (bytes ++ declaration)
with_declaration bytes declaration p is = record {
  mark = bytes;
  declaration = declaration;
  misc = [];
  is_mark = p;
  is_declaration = inr is;
  is_misc = nothing IsMisc;
  whole = ap (λ rest. bytes ++ rest) (sym (append-nil declaration));
}

doctype_behind : (root bytes doctype : List ℕ) → IsBeforeDoctype bytes → IsDoctype root doctype → IsProlog root (bytes ++ doctype)
doctype_behind root bytes doctype b is = record {
  mark = b.mark;
  declaration = b.declaration;
  misc = b.misc;
  doctype = doctype;
  more_misc = [];
  is_mark = b.is_mark;
  is_declaration = b.is_declaration;
  is_misc = b.is_misc;
  is_doctype = inr is;
  is_more_misc = nothing IsMisc;
  whole = ap (λ front. front ++ doctype) b.whole ∙ simp (append_assoc, append-nil);
}

pub with_doctype : (root : List ℕ) (stage : PlainStage) (bytes doctype : List ℕ) → takes_doctype stage ≡ true → IsPrologAt root stage bytes → IsDoctype root doctype → IsProlog root (bytes ++ doctype)
with_doctype root at_front bytes doctype may p is = doctype_behind root bytes doctype (mark_alone bytes p) is
with_doctype root before_doctype bytes doctype may p is = doctype_behind root bytes doctype p is
with_doctype root behind_doctype bytes doctype may p is = cc

-- ---- the kids so far of an open element
abbrev pub is_text : {M : Type 0} → Tree M → Bool
is_text t = begins_with_text (tree t no_trees)

abbrev pub ends_in_text : {M : Type 0} → List (Tree M) → Bool
ends_in_text [] = false
ends_in_text (t ∷ []) = is_text t
ends_in_text (t ∷ u ∷ ts) = ends_in_text (u ∷ ts)

-- The element is not deeper than may be where so many are open, and has the mark throughout.
pub record IsProperKid {M : Type 0} (most : Option ℕ) (m : M) (level : ℕ) (t : Tree M) : Type 0 where
  pub shallow : IsWithinDepth most (level + depth_of t)
  pub marks : map_marks (λ _. m) t ≡ t

-- The bytes spell these kids, which are proper ones.
pub record SpellsKids {M : Type 0} (most : Option ℕ) (m : M) (level : ℕ) (kids : List (Tree M)) (bytes : List ℕ) : Type 0 where
  pub spells : SpellsContent (forest_of kids) bytes
  pub proper : AllByRecursion (IsProperKid most m level) kids

-- a text follows no text
whole_before : {M : Type 0} (k t : Tree M) → (is_text t ≡ true → is_text k ≡ false) → IsWholeRun k (tree t no_trees)
whole_before (element x attrs ending kids mark) t follows = tt
whole_before (text_node units) t follows = by (is_text t) refl
  where
    by : (b : Bool) → is_text t ≡ b → IsTrue (not (is_text t))
    by true e = let no : true ≡ false = follows e in cc
    by false e = rw e refl
whole_before (cdata_node section) t follows = tt
whole_before (misc_node misc) t follows = tt

same_run : {M : Type 0} (k t : Tree M) (rest more : Forest M) → IsWholeRun k (tree t rest) → IsWholeRun k (tree t more)
same_run (element x attrs ending kids mark) t rest more whole_run = tt
same_run (text_node units) (element x attrs ending kids mark) rest more whole_run = refl
same_run (text_node units) (text_node others) rest more whole_run = whole_run
same_run (text_node units) (cdata_node section) rest more whole_run = refl
same_run (text_node units) (misc_node misc) rest more whole_run = refl
same_run (cdata_node section) t rest more whole_run = tt
same_run (misc_node misc) t rest more whole_run = tt

spells_put : {M : Type 0} (kids : List (Tree M)) (t : Tree M) (bytes first : List ℕ) → SpellsContent (forest_of kids) bytes → SpellsNode t first → (is_text t ≡ true → ends_in_text kids ≡ false)
    → SpellsContent (forest_of (kids ++ t ∷ [])) (bytes ++ first)
spells_put [] t bytes first spells node follows = (first, [], node, whole_alone t, refl, ap (λ front. front ++ first) spells ∙ sym (append-nil first))
  where
    whole_alone : {M : Type 0} (t : Tree M) → IsWholeRun t no_trees
    whole_alone (element x attrs ending kids mark) = tt
    whole_alone (text_node units) = refl
    whole_alone (cdata_node section) = tt
    whole_alone (misc_node misc) = tt
spells_put (k ∷ []) t bytes first (front, others, spells, whole_run, below, whole) node follows =
    (front, others ++ first, spells, whole_before k t follows, spells_put [] t others first below node (λ is. refl), ap (λ b. b ++ first) whole ∙ append_assoc front others first)
spells_put (k ∷ l ∷ kids) t bytes first (front, others, spells, whole_run, below, whole) node follows = (
  front,
  others ++ first,
  spells,
  same_run k l (forest_of kids) (forest_of (kids ++ t ∷ []))
      whole_run,
  spells_put (l ∷ kids) t others first below node follows,
  ap (λ b. b ++ first) whole ∙ append_assoc front others first,
)

pub no_kids : {M : Type 0} (most : Option ℕ) (m : M) (level : ℕ) → SpellsKids {M = M} most m level [] []
no_kids most m level = record { spells = refl; proper = tt }

-- one more kid
pub kid_put : {M : Type 0} {most : Option ℕ} {m : M} {level : ℕ} {kids : List
    (Tree M)} {bytes : List ℕ} (t : Tree M) (first : List ℕ) → SpellsKids most m level kids bytes →
    SpellsNode t first → IsProperKid most m level t
    → (is_text t ≡ true → ends_in_text kids ≡ false) → SpellsKids most m level (kids ++ t ∷ []) (bytes ++ first)
kid_put {most = most} {m = m} {level = level} {kids = kids} {bytes = bytes} t first s node proper follows =
    record { spells = spells_put kids t bytes first s.spells node follows; proper = all_joined (IsProperKid most m level) kids (t ∷ []) s.proper (proper, tt) }

pub ends_in-put : {M : Type 0} (kids : List (Tree M)) (t : Tree M) → ends_in_text (kids ++ t ∷ []) ≡ is_text t
ends_in-put [] t = refl
ends_in-put (k ∷ []) t = refl
ends_in-put (k ∷ l ∷ kids) t = ends_in-put (l ∷ kids) t

-- fewer elements may stand one inside another where more may
pub within_less : (most : Option ℕ) (a b : ℕ) → a ≤ b → IsWithinDepth most b → IsWithinDepth most a
within_less None a b less within = tt
within_less (Some n) a b less within = omega arith

within_both : (most : Option ℕ) (level a b : ℕ) → IsWithinDepth most (level + a) → IsWithinDepth most (level + b) → IsWithinDepth most (level + max a b)
within_both None level a b first second = tt
within_both (Some n) level a b first second = omega arith

-- what the kids of an element keep, the element keeps
kids_shallow : {M : Type 0} (most : Option ℕ) (m : M) (level : ℕ) (kids : List (Tree M)) →
    IsWithinDepth most level → AllByRecursion (IsProperKid most m level) kids →
    IsWithinDepth most (level + depth_of_all (forest_of kids))
kids_shallow most m level [] within all = within_less most (level + 0) level (omega arith) within
kids_shallow most m level (k ∷ kids) within all = within_both most level (depth_of k) (depth_of_all (forest_of kids)) all.0.shallow (kids_shallow most m level kids within all.1)

kids_marked : {M : Type 0} (most : Option ℕ) (m : M) (level : ℕ) (kids : List (Tree M)) → AllByRecursion (IsProperKid most m level) kids → map_marks_all (λ _. m) (forest_of kids) ≡ forest_of kids
kids_marked most m level [] all = refl
kids_marked most m level (k ∷ kids) all = let here = all.0.marks in let below = kids_marked most m level kids all.1 in cc

pub closed_proper : {M : Type 0} (most : Option ℕ) (m : M) (level : ℕ) (kids : List (Tree M))
    (name attrs gap : List ℕ) → IsWithinDepth most (suc level) →
    AllByRecursion (IsProperKid most m (suc level)) kids
    → IsProperKid most m level (element name attrs (tagged gap) (forest_of kids) m)
closed_proper most m level kids name attrs gap within all =
    let deep = kids_shallow most m (suc level) kids within all in
    record {
      shallow = within_less most (level + suc (depth_of_all (forest_of kids)))
          (suc level + depth_of_all (forest_of kids)) (omega arith) deep;
      marks =
          ap (λ k. element name attrs (tagged gap) k m) (kids_marked most m (suc level) kids all);
    }

-- ---- the open elements, innermost first
abbrev pub SpellsOpen : {M : Type 0} → Option ℕ → M → List (Open M) → List ℕ → Type 0
SpellsOpen most m [] bytes = bytes ≡ []
SpellsOpen most m (o ∷ outer) bytes =
    (around : List ℕ) × (content : List ℕ) × SpellsOpen most m outer around × IsName o.name × IsAttributes IsKnownReference o.attrs ×
    IsWithinDepth most (suc (length outer)) × SpellsKids most m (suc (length outer)) o.kids content ×
    (bytes ≡ around ++ (bytes_of (start_tag o.name o.attrs) ++ content))

-- ---- all that is left
pub record InContent {M : Type 0} (most : Option ℕ) (m : M) (root done before : List ℕ) (inner : Open M) (outer : List (Open M)) (rest : List ℕ) : Type 0 where
  pub opens : List ℕ
  pub is_prolog : IsProlog root before
  pub spells : SpellsOpen most m (inner ∷ outer) opens
  pub whole : done ≡ before ++ opens
  pub run : ends_in_text inner.kids ≡ true → IsRunEnd rest

pub record InEpilog {M : Type 0} (most : Option ℕ) (m : M) (root done before : List ℕ) (t : Tree M) (after : List ℕ) : Type 0 where
  pub element : List ℕ
  pub is_prolog : IsProlog root before
  pub is_element : IsElement t
  pub is_root : SpellsNode t element
  pub proper : IsProperKid most m 0 t
  pub is_epilog : IsEpilog after
  pub whole : done ≡ before ++ (element ++ after)

-- these bytes say this of what is left, before the rest
abbrev pub Says : {M : Type 0} → Option ℕ → M → (root done : List ℕ) → Left M → (rest : List ℕ) → Type 0
Says most m root done (in_prolog stage before) rest = IsPrologAt root stage before × (done ≡ before)
Says most m root done (in_content before inner outer) rest = InContent most m root done before inner outer rest
Says most m root done (in_epilog before t after) rest = InEpilog most m root done before t after
