-- References of each sort, at the front of some bytes.
use Rattle.std.proofs.Common.{◌≡◌, ℕ, inl, inr, List, ◌++◌, sym, subst}
use Rattle.pv_chars.specs.Fronts.{Begins, BeginsNone}
use Rattle.pv_chars.specs.References.{IsCharRef, IsEntityRef, IsReference, IsPredefined, BeginsNoEntityRef}
use Rattle.pv_chars.proofs.ReferenceLemmas.{same_entity_ref}
use Rattle.pv_chars.proofs.UnitReading.{same_char_ref, char_ref_hash, name_not_hash, no_reference}
use Rattle.pv_tree.specs.Attributes.{IsKnownReference}
use Rattle.pv_read.specs.PlainReferences.{IsReferenceOf, MayBeNamed}
use Rattle.pv_read.specs.declared.forms.references.References.{References}
use Rattle.pv_read.specs.declared.forms.references.References.TheVariants.{Any, Known}

pub same_reference : (bytes u v more rest : List ℕ) → IsReference u → IsReference v → bytes ≡ u ++ more → bytes ≡ v ++ rest → more ≡ rest
same_reference bytes u v more rest (inl a) (inl b) e f = same_char_ref bytes u v more rest a b e f
same_reference bytes u v more rest (inl a) (inr b) e f = let hash = char_ref_hash bytes u more a e in absurd (name_not_hash bytes v rest b.0 hash.0 b.1 f hash.1)
same_reference bytes u v more rest (inr a) (inl b) e f = let hash = char_ref_hash bytes v rest b f in absurd (name_not_hash bytes u more a.0 hash.0 a.1 e hash.1)
same_reference bytes u v more rest (inr a) (inr b) e f = (same_entity_ref bytes a.0 more b.0 rest record { item = u; is_item = a.1; whole = e } record { item = v; is_item = b.1; whole = f }).1

pub reference_is : (bytes : List ℕ) → IsReference bytes → IsReference bytes
reference_is bytes is = is

pub known_is_reference : (bytes : List ℕ) → IsKnownReference bytes → IsReference bytes
known_is_reference bytes (inl is) = inl is
known_is_reference bytes (inr is) = inr (is.name, is.is_reference)

pub are_references : (sort : References) (bytes : List ℕ) → IsReferenceOf sort bytes → IsReference bytes
are_references Any bytes is = is
are_references Known bytes is = known_is_reference bytes is

pub same_of_sort : (sort : References) (bytes u v more rest : List ℕ) → IsReferenceOf sort u → IsReferenceOf sort v → bytes ≡ u ++ more → bytes ≡ v ++ rest → more ≡ rest
same_of_sort sort bytes u v more rest a b e f = same_reference bytes u v more rest (are_references sort u a) (are_references sort v b) e f

pub by_name : (sort : References) (bytes name rest : List ℕ) → Begins (IsEntityRef name) bytes rest → MayBeNamed sort name → Begins (IsReferenceOf sort) bytes rest
by_name Any bytes name rest b may = record { item = b.item; is_item = inr (name, b.is_item); whole = b.whole }
by_name Known bytes name rest b may = record { item = b.item; is_item = inr record { name = name; is_predefined = may; is_reference = b.is_item }; whole = b.whole }

pub none_of_sort : (sort : References) (bytes : List ℕ) → BeginsNone IsCharRef bytes → BeginsNoEntityRef bytes → BeginsNone (IsReferenceOf sort) bytes
none_of_sort sort bytes none none_named rest b = no_reference bytes none none_named rest record { item = b.item; is_item = are_references sort b.item b.is_item; whole = b.whole }

pub none_of_name : (sort : References) (bytes name more : List ℕ) → BeginsNone IsCharRef bytes →
    Begins (IsEntityRef name) bytes more → (MayBeNamed sort name → ⊥) → BeginsNone (IsReferenceOf sort) bytes
none_of_name Any bytes name more none named never rest b = never tt
none_of_name Known bytes name more none named never rest b = by b.is_item
  where
    by : IsKnownReference b.item → ⊥
    by (inl is) = none rest record { item = b.item; is_item = is; whole = b.whole }
    by (inr is) =
        let same = (same_entity_ref bytes name more is.name rest named record { item = b.item; is_item = is.is_reference; whole = b.whole }).0 in
        never (subst IsPredefined (sym same) is.is_predefined)
