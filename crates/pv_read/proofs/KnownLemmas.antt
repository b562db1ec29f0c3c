-- Attributes and character data in which each reference is known.
use Rattle.std.proofs.Common.{◌≡◌, ℕ, List, [], ◌∷◌, ◌++◌, Bool, true, ◌==◌, length, refl, sym, ap, subst, ◌∙◌}
use Rattle.std.proofs.lemmas.List.{append-nil}
use Rattle.std.specs.Prelude.{IsTrue}
use Rattle.std.specs.List.{AllByRecursion}
use Rattle.pv_chars.specs.References.{IsReference}
use Rattle.pv_chars.specs.Texts.{joined}
use Rattle.pv_chars.proofs.MeansLemmas.{is_nothing}
use Rattle.pv_tree.specs.Attributes.{AreMadeOf, IsTextPiece, IsAttribute, IsAttributes, IsCharacterData, IsKnownReference}
use Rattle.pv_read.specs.Takes.{TakesAttributes}
use Rattle.pv_read.proofs.AbsentBytes.{has_no, parts_have_no}
use Rattle.pv_read.proofs.Pieces.{literals_in_front, without_reference, nothing}
use Rattle.pv_read.proofs.KnownReferences.{reference_is, known_is_reference}
use Rattle.pv_read.proofs.Values.{value_is_quoted, quoted_is_value}

-- ---- where no `&` is
pub known_text : (bytes : List ℕ) → has_no 38 bytes ≡ true → AreMadeOf (IsTextPiece IsReference) bytes → AreMadeOf (IsTextPiece IsKnownReference) bytes
known_text bytes free made =
    subst (λ (l : List ℕ). AreMadeOf (IsTextPiece IsKnownReference) l) (append-nil bytes)
    (literals_in_front IsKnownReference known_is_reference bytes [] (without_reference IsReference reference_is bytes free made) (nothing (IsTextPiece IsKnownReference)))

known_attribute : (p : List ℕ) → has_no 38 p ≡ true → IsAttribute IsReference p → IsAttribute IsKnownReference p
known_attribute p free is =
    let v = value_is_quoted IsReference reference_is is.value is.is_value in
    let parts = parts_have_no 38 is.space (is.name ++ (is.equals ++ is.value)) (subst (λ (l : List ℕ). has_no 38 l ≡ true) is.whole free) in
    let inner = parts_have_no 38 is.name (is.equals ++ is.value) parts.1 in
    let quoted = (parts_have_no 38 is.equals is.value inner.1).1 in
    let within = parts_have_no 38 (is.is_value.quote ∷ []) (is.is_value.value ++ is.is_value.quote ∷ []) (subst (λ (l : List ℕ). has_no 38 l ≡ true) is.is_value.whole quoted) in
    let value = (parts_have_no 38 is.is_value.value (is.is_value.quote ∷ []) within.1).0 in
    record {
      space = is.space;
      name = is.name;
      equals = is.equals;
      value = is.value;
      is_space = is.is_space;
      is_name = is.is_name;
      is_eq = is.is_eq;
      is_value = quoted_is_value IsKnownReference known_is_reference is.is_value.value is.value v.0 (known_text is.is_value.value value v.1);
      whole = is.whole;
    }

all_known : (ps : List (List ℕ)) → has_no 38 (joined ps) ≡ true → AllByRecursion (IsAttribute IsReference) ps → AllByRecursion (IsAttribute IsKnownReference) ps
all_known [] free all = tt
all_known (p ∷ ps) free all = let parts = parts_have_no 38 p (joined ps) free in (known_attribute p parts.0 all.0, all_known ps parts.1 all.1)

pub known_attributes : (attrs : List ℕ) → has_no 38 attrs ≡ true → IsAttributes IsReference attrs → IsAttributes IsKnownReference attrs
known_attributes attrs free is =
    let made = is.are_attributes in
    let front = (parts_have_no 38 is.attributes is.space (subst (λ (l : List ℕ). has_no 38 l ≡ true) is.whole free)).0 in
    record {
      attributes = is.attributes;
      space = is.space;
      are_attributes = record { pieces = made.pieces; are_pieces = all_known made.pieces (subst (λ (l : List ℕ). has_no 38 l ≡ true) made.whole front) made.are_pieces; whole = made.whole };
      is_space = is.is_space;
      whole = is.whole;
    }

pub known_data : (bytes : List ℕ) → AreMadeOf (IsTextPiece IsKnownReference) bytes → IsCharacterData IsReference bytes → IsCharacterData IsKnownReference bytes
known_data bytes made is = record { some = is.some; are_pieces = made; no_close_mark = is.no_close_mark }

-- ---- attributes that were read to their end
read_to_end : (attrs own rest : List ℕ) → TakesAttributes IsKnownReference attrs own rest → rest ≡ [] → IsAttributes IsKnownReference attrs
read_to_end attrs own rest taken e = subst (λ (l : List ℕ). IsAttributes IsKnownReference l) (sym (taken.whole ∙ ap (λ l. own ++ l) e ∙ append-nil own)) taken.are_attributes

pub known_where_read : (attrs own rest : List ℕ) (empty : Bool) →
    TakesAttributes IsKnownReference attrs own rest → empty ≡ (length rest == 0) →
    (IsTrue empty → IsAttributes IsKnownReference attrs) × (IsAttributes IsKnownReference attrs →
    IsTrue empty)
known_where_read attrs own rest empty taken e = (
  (λ t. read_to_end attrs own rest taken (is_nothing rest empty e t)),
  (λ is. let none = (taken.only attrs [] is (sym (append-nil attrs)) refl).1 in e ∙ ap (λ l. length l == 0) none),
)
