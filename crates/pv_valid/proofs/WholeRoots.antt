-- What the lists of a whole root tell of the document.
use Rattle.std.proofs.Common.{◌≡◌, ◌↔◌, ℕ, List, [], ◌∷◌, Option, Some, None, IsNone, IfSome, refl, sym, ◌∙◌, subst}
use Rattle.pv_dtd.specs.Hedge.{IsValid}
use Rattle.pv_dtd.specs.Plain.{PlainDtd}
use Rattle.pv_tree.specs.Lists.{IsFirstNot, IsRootElement, IsValidList, lists_at, lists_of}
use Rattle.pv_tree.specs.Marks.{blank_mark}
use Rattle.pv_tree.specs.Plain.{Tree, PlainDoc, element, text_node, cdata_node, misc_node}
use Rattle.pv_tree.specs.Units.{HasUnits}
use Rattle.pv_tree.specs.View.{view}
use Rattle.pv_tree.specs.declared.nodes.Mark.{Mark}
use Rattle.pv_tree.proofs.FirstInvalid.{not_valid, root_invalid, below_invalid, all_valid}
use Rattle.pv_read.specs.Limits.{TextLimits}
use Rattle.pv_read.specs.Meaning.{is_document, DocumentMeansWithin}
use Rattle.pv_read.proofs.Agreement.{spelled_where_meant}
use Rattle.pv_read.proofs.DocumentFacts.{has_units}
use Rattle.pv_lists.specs.Answers.{ReadsLists}
use Rattle.pv_lists.specs.WholeLists.{TellsFirst}
use Rattle.pv_lists.specs.declared.open.OpenLists.{OpenLists}
use Rattle.pv_valid.specs.Validity.{validity_by}

-- one element has one name
other_name : (name root : List ℕ) (t : Tree Mark) → IsRootElement name t → (name ≡ root → ⊥) → IsRootElement root t → ⊥
other_name name root (element x attrs ending kids mark) is other same = other (sym is ∙ same)
other_name name root (text_node units) is other same = same
other_name name root (cdata_node bytes) is other same = same
other_name name root (misc_node bytes) is other same = same

-- what is told of a document: that it is valid, or its first list that isn't valid by itself
pub record Tells (g : PlainDtd) (root : List ℕ) (doc : PlainDoc Mark) (found : Option (List ℕ)) : Type 0 where
  pub valid : IsNone found ↔ IsValid g root (view doc.root)
  pub first : IfSome found (IsFirstNot (IsValidList g root) (lists_of doc))

first_told : (g : PlainDtd) (root path : List ℕ) (doc : PlainDoc Mark) → HasUnits doc.root → IsFirstNot (IsValidList g root) (lists_of doc) path → Tells g root doc (Some path)
first_told g root path doc units f = record { valid = (λ none. absurd (some_is_some none), λ v. absurd (not_valid g root path doc units f v)); first = f }
  where
    some_is_some : IsNone (Some path) → ⊥
    some_is_some none = cc

found_told : (g : PlainDtd) (root : List ℕ) (doc : PlainDoc Mark) (found : Option (List ℕ)) →
    HasUnits doc.root → IsRootElement root doc.root →
    TellsFirst (IsValidList g root) (lists_at (0 ∷ []) doc.root) found → Tells g root doc found
found_told g root doc None units is all = record { valid = (λ _. all_valid g root doc units is all, λ _. refl); first = tt }
found_told g root doc (Some path) units is f = first_told g root path doc units (below_invalid g root path doc is f)

module _ {limits : TextLimits} (g : PlainDtd) (root bytes : List ℕ) (lists : OpenLists _ _)
    (doc : PlainDoc Mark) (means : DocumentMeansWithin limits blank_mark root bytes
    (is_document doc)) (r : ReadsLists (validity_by g) root lists doc.root) where
  units : HasUnits doc.root
  units =
      let text = (spelled_where_meant blank_mark root bytes doc means).0 in
      has_units doc.root text.spelled.element text.spelled.is_root

  pub other_root : (lists.inner.name.now ≡ root → ⊥) → Tells g root doc (Some [])
  other_root other = first_told g root [] doc units (root_invalid g root doc (other_name lists.inner.name.now root doc.root r.has_root.is_named other))

  pub same_root : lists.inner.name.now ≡ root → Tells g root doc lists.found
  same_root is = found_told g root doc lists.found units (subst (λ (n : List ℕ). IsRootElement n doc.root) is r.has_root.is_named) r.has_root.finds
