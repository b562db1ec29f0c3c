-- Hedges, and when one is valid (XML 1.0, section 3, the constraint Element Valid).
use Rattle.std.specs.Prelude.{◌≡◌, ℕ, ◌+◌, suc, List, [], ◌∷◌, Option, Some, None}
use Rattle.pv_model.specs.Plain.{PlainModel, empty, PlainToken, named, text, other}
use Rattle.pv_model.specs.Models.{Allows}
use Rattle.pv_dtd.specs.Plain.{PlainDtd, number_of, model_of, declared}

-- a unit of white space or of data, a CDATA section, and a comment or processing instruction, by
-- their bytes
pub data Leaf : Type 0 where
  white : List ℕ → Leaf
  data_unit : List ℕ → Leaf
  cdata : List ℕ → Leaf
  misc : List ℕ → Leaf

-- nothing; a leaf before the rest; an element with its name, attribute bytes and kids before the
-- rest
pub data Hedge : Type 0 where
  done : Hedge
  leaf : Leaf → Hedge → Hedge
  elem : (name attrs : List ℕ) (kids rest : Hedge) → Hedge

-- the elements at all depths
abbrev pub elements : Hedge → ℕ
elements done = 0
elements (leaf l h) = elements h
elements (elem x t k h) = suc (elements k + elements h)

-- a data unit and a CDATA section are text; white units and misc are nothing
abbrev pub leaf_word : Leaf → List PlainToken → List PlainToken
leaf_word (white b) u = u
leaf_word (data_unit b) u = text ∷ u
leaf_word (cdata b) u = text ∷ u
leaf_word (misc b) u = u

-- the token of an element: its number, where the DTD has its name
abbrev pub token : Option ℕ → PlainToken
token (Some y) = named y
token None = other

-- the word of a hedge (XML 1.0, 3, Element Valid)
abbrev pub word : PlainDtd → Hedge → List PlainToken
word g done = []
word g (leaf l h) = leaf_word l (word g h)
word g (elem x t k h) = token (number_of g x) ∷ word g h

-- The content k fits an element of number y: its model allows the word of k, and an EMPTY element
-- has no content at all, not even white space (XML 1.0, 3, Element Valid).
pub record Fits (g : PlainDtd) (y : ℕ) (k : Hedge) : Type 0 where
  pub model : PlainModel
  pub is_model : model_of g y ≡ Some model
  pub no_kids : model ≡ empty → k ≡ done
  pub allowed : Allows (declared g) model (word g k)

-- each element of the hedge, at any depth, is declared and has content that fits (XML 1.0, 3,
-- Element Valid)
abbrev pub AreGood : PlainDtd → Hedge → Type 0
AreGood g done = Unit {0}
AreGood g (leaf l h) = AreGood g h
AreGood g (elem x t k h) =
    (y : ℕ) × (number_of g x ≡ Some y) × Fits g y k × AreGood g k × AreGood g h

-- one good element, of the root's name (XML 1.0, 2.8, Root Element Type; 3, Element Valid)
pub record IsValid (g : PlainDtd) (root : List ℕ) (h : Hedge) : Type 0 where
  pub attrs : List ℕ
  pub kids : Hedge
  pub is_root : h ≡ elem root attrs kids done
  pub good : AreGood g h
