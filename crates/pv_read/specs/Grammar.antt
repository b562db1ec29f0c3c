-- The grammar of a document by its tree (XML 1.0, sections 2.1, 2.4 to 2.8 and 3.1).
use Rattle.std.specs.Prelude.{◌≡◌, ◌≤◌, ℕ, Bool, true, false, not, List, [], ◌++◌, length, codes}
use Rattle.std.specs.Prelude.{IsTrue}
use Rattle.pv_chars.specs.Spaces.{IsOptionalSpace}
use Rattle.pv_chars.specs.Names.{IsName}
use Rattle.pv_chars.specs.Markup.{IsCdata}
use Rattle.pv_chars.specs.Texts.{joined}
use Rattle.pv_chars.specs.Units.{AllUnits}
use Rattle.pv_tree.specs.Plain.{short, tagged, Tree, element, text_node, cdata_node, misc_node}
use Rattle.pv_tree.specs.Plain.{Forest, no_trees, tree, PlainDoc, depth_of}
use Rattle.pv_tree.specs.Attributes.{IsAttributes, IsCharacterData, IsKnownReference}
use Rattle.pv_tree.specs.Prolog.{IsCommentOrInstruction, IsProlog, IsEpilog}
use Rattle.pv_read.specs.Limits.{TextLimits, IsWithinDepth}
use Rattle.pv_read.specs.Meaning.{document_limits}

abbrev pub begins_with_text : {M : Type 0} → Forest M → Bool
begins_with_text (tree (text_node units) rest) = true
begins_with_text _ = false

-- a text run is as long as possible: no text follows it
abbrev pub IsWholeRun : {M : Type 0} → Tree M → Forest M → Type 0
IsWholeRun (text_node units) rest = IsTrue (not (begins_with_text rest))
IsWholeRun _ rest = Unit {0}

abbrev mutual
  -- element: EmptyElemTag, or STag content ETag of the same name; or character data with
  -- references, CDSect, Comment or PI (XML 1.0, 3.1, 2.4 to 2.7)
  pub SpellsNode : {M : Type 0} → Tree M → List ℕ → Type 0
  SpellsNode (element x attrs short kids mark) bytes =
      IsName x × IsAttributes IsKnownReference attrs × (kids ≡ no_trees) ×
      (bytes ≡ codes "<" ++ x ++ attrs ++ codes "/>")
  SpellsNode (element x attrs (tagged gap) kids mark) bytes =
      (content : List ℕ) × IsName x × IsAttributes IsKnownReference attrs × IsOptionalSpace gap ×
      SpellsContent kids content ×
      (bytes ≡ codes "<" ++ x ++ attrs ++ codes ">" ++ content ++ codes "</" ++ x ++ gap
      ++ codes ">")
  SpellsNode (text_node units) bytes =
      IsCharacterData IsKnownReference bytes × AllUnits units × (bytes ≡ joined units)
  SpellsNode (cdata_node section) bytes = IsCdata section × (bytes ≡ section)
  SpellsNode (misc_node misc) bytes = IsCommentOrInstruction misc × (bytes ≡ misc)

  -- content: elements, character data with references, CDSects, Comments and PIs, one after
  -- another (XML 1.0, 3.1)
  pub SpellsContent : {M : Type 0} → Forest M → List ℕ → Type 0
  SpellsContent no_trees bytes = bytes ≡ []
  SpellsContent (tree t rest) bytes =
      (first : List ℕ) × (others : List ℕ) ×
      SpellsNode t first × IsWholeRun t rest × SpellsContent rest others ×
      (bytes ≡ first ++ others)

abbrev pub IsElement : {M : Type 0} → Tree M → Type 0
IsElement (element x attrs ending kids mark) = Unit {0}
IsElement _ = ⊥

-- document: the bytes spell a prolog, one element, and Misc*. A document type declaration, where
-- there is one, names this root (XML 1.0, 2.1, 2.8).
pub record SpellsDocument {M : Type 0} (root bytes : List ℕ) (doc : PlainDoc M) : Type 0 where
  pub element : List ℕ
  pub is_prolog : IsProlog root doc.before
  pub is_element : IsElement doc.root
  pub is_root : SpellsNode doc.root element
  pub is_epilog : IsEpilog doc.after
  pub whole : bytes ≡ doc.before ++ element ++ doc.after

-- The bytes are a text within these limits for this root, and this is its document.
pub record IsDocumentTextWithin {M : Type 0} (limits : TextLimits) (root bytes : List ℕ)
    (doc : PlainDoc M) : Type 0 where
  pub spelled : SpellsDocument root bytes doc
  pub shallow : IsWithinDepth limits.depth (depth_of doc.root)
  pub few_bytes : length bytes ≤ limits.bytes

-- The bytes are a document text for this root, within the limits of a document, and this is its
-- document.
abbrev pub IsDocumentText : {M : Type 0} → List ℕ → List ℕ → PlainDoc M → Type 0
IsDocumentText root bytes doc = IsDocumentTextWithin document_limits root bytes doc
