-- Element types that were found, where one more is put among them, or an element of one begins.
use Rattle.std.proofs.Common.{◌≡◌, ◌⊎◌, inl, inr, ℕ, List, Option, IfSome, slice_set, IsTrue, sym}
use Rattle.std.proofs.Common.{ap, ◌∙◌, subst}
use Rattle.std.specs.List.{All}
use Rattle.std.proofs.lemmas.List.Elements.{All-set}
use Rattle.std.proofs.lemmas.Option.{IfSome_then}
use Rattle.pv_model.specs.PlainForms.{plain_token}
use Rattle.pv_dtd.specs.Plain.{PlainDtd}
use Rattle.pv_read.specs.Items.{Item, start_tag, empty_tag}
use Rattle.pv_lists.specs.Tags.{IsBareTag, IsTypeOfTag}
use Rattle.pv_lists.specs.Types.{IsTypeOf}
use Rattle.pv_lists.specs.declared.open.OpenList.{OpenList}
use Rattle.pv_lists.specs.declared.types.ElementType.{ElementType}
use Rattle.pv_lists.proofs.Stack.{Begins}

pub type_put : (g : PlainDtd) (types : List ElementType) (place : ℕ) (t : ElementType) (name : List ℕ) → IsTypeOf g name t → All (λ (t : ElementType). IsTypeOf g t.name.now t) types
    → All (λ (t : ElementType). IsTypeOf g t.name.now t) (slice_set types place t)
type_put g types place t name is all = All-set (λ (t : ElementType). IsTypeOf g t.name.now t) types place t (subst (λ (n : List ℕ). IsTypeOf g n t) (sym is.is_bytes) is) all

pub begins_of : {B : Type 0} (g : PlainDtd) (list : OpenList B) (t : ElementType) (name : List ℕ) → IsTypeOf g name t → list.name ≡ t.name → list.is_name ≡ t.is_name → list.token ≡ t.token
    → list.kids ≡ 0 → Begins g list name
begins_of g list t name is same_name same_known same_token none = record {
  is_name = ap (λ n. n.now) same_name ∙ is.is_bytes;
  is_named = λ known. is.is_name (subst IsTrue same_known known);
  is_token = ap plain_token same_token ∙ is.is_token;
  no_kids = none;
}

opens_same : (x name attrs : List ℕ) (item : Item) → IsBareTag x item
    → (item ≡ start_tag name attrs) ⊎ (item ≡ empty_tag name attrs) → x ≡ name
opens_same x name attrs item (inl bare) (inl is) = cc
opens_same x name attrs item (inl bare) (inr is) = cc
opens_same x name attrs item (inr bare) (inl is) = cc
opens_same x name attrs item (inr bare) (inr is) = cc

-- the type of a tag that opens an element is that of its name
pub type_of_tag : (g : PlainDtd) (item : Item) (name attrs : List ℕ) (kind : Option ElementType)
    → (item ≡ start_tag name attrs) ⊎ (item ≡ empty_tag name attrs)
    → IfSome kind (IsTypeOfTag g item) → IfSome kind (IsTypeOf g name)
type_of_tag g item name attrs kind is h =
    IfSome_then kind h (λ t w. subst (λ (n : List ℕ). IsTypeOf g n t)
    (opens_same t.name.now name attrs item w.is_tag is) w.is_type)
