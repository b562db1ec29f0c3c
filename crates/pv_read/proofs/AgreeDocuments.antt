-- A document that some bytes spell is what they mean by their items.
use Rattle.std.proofs.Common.{◌≡◌, ◌≤◌, ◌<◌, ℕ, List, [], ◌∷◌, ◌++◌, ◌⊎◌, inl, inr, codes, append_assoc, refl, sym, ap, subst, ◌∙◌, arith}
use Rattle.std.specs.List.{AllByRecursion, list_all}
use Rattle.std.proofs.lemmas.Bool.{and_parts}
use Rattle.pv_chars.specs.Spaces.{is_space}
use Rattle.pv_chars.proofs.SpaceLemmas.{space_is_ascii}
use Rattle.pv_chars.specs.Texts.{joined}
use Rattle.pv_chars.specs.Declarations.{IsOptional, IsXmlDecl}
use Rattle.pv_chars.specs.ByteOrderMark.{BYTE_ORDER_MARK}
use Rattle.pv_tree.specs.Plain.{short, tagged, Tree, element, text_node, cdata_node, misc_node, PlainDoc, depth_of, depth_of_all, map_marks, map_marks_all}
use Rattle.pv_tree.specs.Attributes.{AreMadeOf}
use Rattle.pv_tree.specs.Prolog.{IsMisc, IsDoctype}
use Rattle.pv_read.specs.Limits.{TextLimits}
use Rattle.pv_read.specs.DocumentLaws.{with_marks}
use Rattle.pv_read.specs.Grammar.{SpellsDocument, SpellsNode, IsElement, IsDocumentTextWithin}
use Rattle.pv_read.specs.Items.{end_tag, bytes_of, IsRunEnd}
use Rattle.pv_read.proofs.AgreeForms.{node_ends_run}
use Rattle.pv_read.specs.Left.{Left, at_front, PlainStage, in_prolog, in_epilog, just_opened, empty_element}
use Rattle.pv_read.specs.Meaning.{is_document, ends, DocumentMeansWithin, items}
use Rattle.pv_chars.specs.ByteOrderMark.{TakesByteOrderMark, marked, unmarked}
use Rattle.pv_read.proofs.AgreeNodes.{HoldsBefore, within_of, empty_means, tagged_means, content_means}
use Rattle.pv_read.proofs.AgreeMeans.{ItemsAreOne, MeansAt, means_before}
use Rattle.pv_read.proofs.AgreeProlog.{prolog_means, epilog_means}

-- the root after the prolog
root_means : {M : Type 0} (m : M) (root before rest : List ℕ) (limit : ℕ) (P : Left M → List ℕ →
    Type 0) (stage : PlainStage) → HoldsBefore m root limit P → (t : Tree M) (bytes : List ℕ) →
    IsElement t → SpellsNode t bytes → depth_of t ≤ limit
    → P (in_epilog before (map_marks (λ _. m) t) []) rest → P (in_prolog stage before) (bytes ++ rest)
root_means m root before rest limit P stage steps (element x attrs short kids mark) bytes is (name, are, none, whole) within behind =
    let same : map_marks (λ _. m) (element x attrs short kids mark) ≡ empty_element m x attrs = rw none refl in
    subst (λ b. P (in_prolog stage before) (b ++ rest)) (sym whole)
    (empty_means m root (in_prolog stage before) (in_epilog before (empty_element m x attrs) []) x attrs rest limit P steps name are refl (within_of limit (depth_of_all kids) 0 (omega arith))
    (subst (λ t. P (in_epilog before t []) rest) same behind))
root_means m root before rest limit P stage steps (element x attrs (tagged gap) kids mark) bytes is (content, name, are, white, spells, whole) within behind =
    subst (λ b. P (in_prolog stage before) (b ++ rest)) (sym whole)
    (tagged_means m root (in_prolog stage before) before x attrs gap content rest
    (map_marks_all (λ _. m) kids) [] limit P steps name are white refl (within_of limit
    (depth_of_all kids) 0 (omega arith))
    (content_means m root before limit P steps kids (just_opened x attrs) [] content (bytes_of (end_tag x gap) ++ rest) spells (inr (_, refl)) (omega arith)) behind)
root_means m root before rest limit P stage steps (text_node units) bytes is spells within behind = absurd is
root_means m root before rest limit P stage steps (cdata_node section) bytes is spells within behind = absurd is
root_means m root before rest limit P stage steps (misc_node misc) bytes is spells within behind = absurd is

-- ---- no byte order mark stands before what begins with a character of ASCII
-- nothing, or such a character at the front
abbrev StartsLow : List ℕ → Type 0
StartsLow bytes = (bytes ≡ []) ⊎ ((b : ℕ) × (more : List ℕ) × (bytes ≡ b ∷ more) × (b < 128))

low_first : (front rest : List ℕ) → StartsLow front → StartsLow rest → StartsLow (front ++ rest)
low_first front rest (inl none) low = subst (λ f. StartsLow (f ++ rest)) (sym none) low
low_first front rest (inr starts) low = inr (starts.0, starts.1 ++ rest, ap (λ f. f ++ rest) starts.2, starts.3)

no_mark : (bytes rest : List ℕ) → StartsLow bytes → bytes ≡ BYTE_ORDER_MARK ++ rest → ⊥
no_mark bytes rest (inl none) e = let same = sym none ∙ e in cc
no_mark bytes rest (inr starts) e =
    let same = sym starts.2 ∙ e in
    let first : starts.0 ≡ 239 = cc in
    let low = starts.3 in
    omega arith

misc_low : (piece : List ℕ) → IsMisc piece → StartsLow piece
misc_low piece (inl (inl is)) = inr (60, _, is.whole, omega arith)
misc_low piece (inl (inr is)) = inr (60, _, is.whole, omega arith)
misc_low [] (inr is) = inl refl
misc_low (b ∷ bs) (inr is) = inr (b, bs, refl, space_is_ascii b (and_parts (is_space b) (list_all is_space bs) is.space).0)

all_misc_low : (pieces : List (List ℕ)) → AllByRecursion IsMisc pieces → StartsLow (joined pieces)
all_misc_low [] all = inl refl
all_misc_low (p ∷ ps) all = low_first p (joined ps) (misc_low p all.0) (all_misc_low ps all.1)

made_low : (bytes : List ℕ) → AreMadeOf IsMisc bytes → StartsLow bytes
made_low bytes made = subst StartsLow (sym made.whole) (all_misc_low made.pieces made.are_pieces)

declaration_low : (bytes : List ℕ) → IsOptional IsXmlDecl bytes → StartsLow bytes
declaration_low bytes (inl none) = inl none
declaration_low bytes (inr is) = inr (60, _, is.whole, omega arith)

doctype_low : (root bytes : List ℕ) → IsOptional (IsDoctype root) bytes → StartsLow bytes
doctype_low root bytes (inl none) = inl none
doctype_low root bytes (inr is) = inr (60, _, is.whole ∙ ap (λ f. f ++ codes ">") is.is_front.whole, omega arith)

element_low : {M : Type 0} (t : Tree M) (bytes : List ℕ) → IsElement t → SpellsNode t bytes → StartsLow bytes
element_low (element x attrs short kids mark) bytes is (name, are, none, whole) = inr (60, _, whole, omega arith)
element_low (element x attrs (tagged gap) kids mark) bytes is (content, name, are, white, spells, whole) = inr (60, _, whole, omega arith)
element_low (text_node units) bytes is spells = absurd is
element_low (cdata_node section) bytes is spells = absurd is
element_low (misc_node misc) bytes is spells = absurd is

-- an element begins with `<`
element_ends_run : {M : Type 0} (t : Tree M) (bytes rest : List ℕ) → IsElement t → SpellsNode t bytes → IsRunEnd (bytes ++ rest)
element_ends_run (element x attrs ending kids mark) bytes rest is spells = node_ends_run (element x attrs ending kids mark) bytes rest spells refl
element_ends_run (text_node units) bytes rest is spells = absurd is
element_ends_run (cdata_node section) bytes rest is spells = absurd is
element_ends_run (misc_node misc) bytes rest is spells = absurd is

starts_with : (bytes mark rest : List ℕ) → IsOptional (λ b. b ≡ BYTE_ORDER_MARK) mark → StartsLow rest → bytes ≡ mark ++ rest → TakesByteOrderMark bytes mark rest
starts_with bytes mark rest (inl none) low e =
    let same : bytes ≡ rest = e ∙ ap (λ m. m ++ rest) none in
    subst (λ r. TakesByteOrderMark bytes mark r) same (subst (λ k. TakesByteOrderMark bytes k bytes) (sym none) (unmarked (λ more is. no_mark rest more low (sym same ∙ is))))
starts_with bytes mark rest (inr is) low e = subst (λ k. TakesByteOrderMark bytes k rest) (sym is) (marked (e ∙ ap (λ m. m ++ rest) is))

-- What holds after all items of a document holds before them.
pub record HoldsAtStart {M : Type 0} (bytes : List ℕ) (P : Left M → List ℕ → Type 0) (end : Left M) : Type 0 where
  pub mark : List ℕ
  pub rest : List ℕ
  pub starts : TakesByteOrderMark bytes mark rest
  pub back : P end [] → P (in_prolog at_front mark) rest

pub holds_at_start : {M : Type 0} (m : M) (root bytes : List ℕ) (doc : PlainDoc M) (limit : ℕ)
    (P : Left M → List ℕ → Type 0) → HoldsBefore m root limit P → SpellsDocument root bytes doc →
    depth_of doc.root ≤ limit
    → HoldsAtStart bytes P (in_epilog doc.before (map_marks (λ _. m) doc.root) doc.after)
holds_at_start m root bytes doc limit P steps s within =
    let p = s.is_prolog in
    let t = map_marks (λ _. m) doc.root in
    let behind = s.element ++ doc.after in
    let rest = p.declaration ++ (p.misc ++ (p.doctype ++ (p.more_misc ++ behind))) in
    let whole : bytes ≡ p.mark ++ rest = s.whole ∙ ap (λ b. b ++ s.element ++ doc.after) p.whole ∙ simp append_assoc refl in
    let low = low_first p.declaration (p.misc ++ (p.doctype ++ (p.more_misc ++ behind))) (declaration_low p.declaration p.is_declaration)
    (low_first p.misc (p.doctype ++ (p.more_misc ++ behind)) (made_low p.misc p.is_misc)
    (low_first p.doctype (p.more_misc ++ behind) (doctype_low root p.doctype p.is_doctype)
    (low_first p.more_misc behind (made_low p.more_misc p.is_more_misc)
    (low_first s.element doc.after (element_low doc.root s.element s.is_element s.is_root) (made_low doc.after s.is_epilog))))) in
    record {
      mark = p.mark;
      rest = rest;
      starts = starts_with bytes p.mark rest p.is_mark low whole;
      back = λ end. prolog_means m root limit P steps doc.before behind p (element_ends_run doc.root s.element doc.after s.is_element s.is_root)
          (λ stage. root_means m root doc.before doc.after limit P stage steps doc.root s.element s.is_element s.is_root within
          (epilog_means m root limit P steps doc.before doc.after t s.is_epilog end));
    }

pub document_means : {M : Type 0} (limits : TextLimits) (m : M) (root bytes : List ℕ)
    (doc : PlainDoc M) → ItemsAreOne → IsDocumentTextWithin limits root bytes doc →
    DocumentMeansWithin limits m root bytes (is_document (with_marks m doc))
document_means limits m root bytes doc only text =
    let o = is_document (with_marks m doc) in
    let start = holds_at_start m root bytes doc (depth_of doc.root)
    (λ left rest. MeansAt limits.depth m root left rest o) (means_before limits.depth m root o
    only (depth_of doc.root) text.shallow) text.spelled (omega arith) in
    items text.few_bytes start.starts (start.back (λ k. ends refl) 0)
