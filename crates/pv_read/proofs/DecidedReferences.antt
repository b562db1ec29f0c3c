-- Whether each reference of an item is known is decided.
use Rattle.std.proofs.Common.{◌≡◌, ℕ, ◌⊎◌, inl, inr, List, [], ◌∷◌, ◌++◌, Bool, true, false, codes, refl, sym, ap, subst, ◌∙◌, arith, append_assoc, append-nil}
use Rattle.std.specs.Str.{bytes_eq}
use Rattle.std.specs.List.{AllByRecursion, list_all}
use Rattle.std.proofs.lemmas.Bool.{and_parts}
use Rattle.std.proofs.lemmas.List.Folds.{list_all-append}
use Rattle.std.proofs.lemmas.Str.{encode_same, encode_ascii}
use Rattle.std.proofs.lemmas.Slice.Eq.{bytes_eq-Decides}
use Rattle.pv_chars.specs.Spaces.{is_space, IsOptionalSpace}
use Rattle.pv_chars.specs.Names.{IsName}
use Rattle.pv_chars.specs.Fronts.{Begins}
use Rattle.pv_chars.specs.References.{IsPredefined, IsReference}
use Rattle.pv_chars.specs.Texts.{joined}
use Rattle.pv_chars.specs.Units.{IsLiteral}
use Rattle.pv_chars.proofs.ReferenceLemmas.{same_entity_ref}
use lib.Utf8.{encode}
use Rattle.pv_chars.specs.Units.{is_literal}
use Rattle.pv_chars.proofs.CharacterLemmas.{nothing_begins}
use Rattle.pv_chars.proofs.UnitReading.{StartsWith, before, char_ref_start, entity_start, char_ref_hash, name_not_hash}
use Rattle.pv_tree.specs.Attributes.{AreMadeOf, IsAttribute, IsAttributes, IsTextPiece, IsCharacterData, IsKnownReference}
use Rattle.pv_read.specs.Items.{xml_declaration, doctype, comment_or_instruction, cdata_section, start_tag, empty_tag, end_tag, text_run}
use Rattle.pv_read.proofs.KnownReferences.{same_reference, known_is_reference}
use Rattle.pv_read.proofs.AttributeLemmas.{Steps, steps, by_part, none_by_value, one_attribute, name_some, name_black}
use Rattle.pv_read.proofs.AgreeForms.{attribute_form, text_piece}
use Rattle.pv_read.proofs.AgreeSteps.{KnownIsDecided}

abbrev pub Decided : Type 0 → Type 0
Decided P = P ⊎ (P → ⊥)

-- ---- names
pub one_of : (name word : List ℕ) → Decided (name ≡ word)
one_of name word = by (bytes_eq name word) refl
  where
    by : (b : Bool) → bytes_eq name word ≡ b → Decided (name ≡ word)
    by true e = inl ((bytes_eq-Decides name word).0 e)
    by false e = inr (λ same. let is = (bytes_eq-Decides name word).1 same in cc)

or_else : {P Q : Type 0} → Decided P → Decided Q → Decided (P ⊎ Q)
or_else (inl p) q = inl (inl p)
or_else (inr other) (inl q) = inl (inr q)
or_else {P} {Q} (inr other) (inr others) = inr neither
  where
    neither : P ⊎ Q → ⊥
    neither (inl p) = other p
    neither (inr q) = others q

predefined_decided : (name : List ℕ) → Decided (IsPredefined name)
predefined_decided name =
    or_else (one_of name (codes "lt")) (or_else (one_of name (codes "gt")) (or_else (one_of name (codes "amp")) (or_else (one_of name (codes "apos")) (one_of name (codes "quot")))))

-- ---- pieces of a text
-- no literal character begins where `&` stands
no_literal : (bytes u more : List ℕ) → IsLiteral u → bytes ≡ u ++ more → StartsWith 38 bytes → ⊥
no_literal bytes u more is e s =
    let both : encode is.code ++ more ≡ encode 38 ++ s.0 = ap (λ l. l ++ more) (sym is.whole) ∙ sym e ∙ s.1 ∙ ap (λ l. l ++ s.0) (sym (encode_ascii 38 (omega arith))) in
    let same = (encode_same is.code 38 more s.0 both).0 in
    let literal : is_literal 38 ≡ true = subst (λ k. is_literal k ≡ true) same is.is_literal in
    cc

piece_decided : (piece : List ℕ) → IsTextPiece IsReference piece → Decided (IsTextPiece IsKnownReference piece)
piece_decided piece (inl is) = inl (inl is)
piece_decided piece (inr (inl is)) = inl (inr (inl is))
piece_decided piece (inr (inr (name, is))) = by (predefined_decided name)
  where
    other_name : (IsPredefined name → ⊥) → IsTextPiece IsKnownReference piece → ⊥
    other_name other (inl literal) = no_literal piece piece [] literal (sym (append-nil piece)) (entity_start piece piece [] name is (sym (append-nil piece)))
    other_name other (inr (inl known)) = let hash = char_ref_hash piece piece [] known (sym (append-nil piece)) in name_not_hash piece piece [] name hash.0 is (sym (append-nil piece)) hash.1
    other_name other (inr (inr known)) =
        let same = (same_entity_ref piece known.name [] name []
        record { item = piece; is_item = known.is_reference; whole = sym (append-nil piece) }
        record { item = piece; is_item = is; whole = sym (append-nil piece) }).0 in
        other (subst IsPredefined same known.is_predefined)

    by : Decided (IsPredefined name) → Decided (IsTextPiece IsKnownReference piece)
    by (inl known) = inl (inr (inr record { name = name; is_predefined = known; is_reference = is }))
    by (inr other) = inr (other_name other)

-- all of a list are decided where each one is
all_decided : (P Q : List ℕ → Type 0) → ((piece : List ℕ) → P piece → Decided (Q piece)) → (pieces : List (List ℕ)) → AllByRecursion P pieces → Decided (AllByRecursion Q pieces)
all_decided P Q each [] all = inl tt
all_decided P Q each (p ∷ ps) all = by (each p all.0) (all_decided P Q each ps all.1)
  where
    by : Decided (Q p) → Decided (AllByRecursion Q ps) → Decided (Q p × AllByRecursion Q ps)
    by (inl is) (inl others) = inl (is, others)
    by (inl is) (inr unlike) = inr (λ both. unlike both.1)
    by (inr unlike) others = inr (λ both. unlike both.0)

reference_start : (bytes u more : List ℕ) → IsReference u → bytes ≡ u ++ more → StartsWith 38 bytes
reference_start bytes u more (inl is) e = char_ref_start bytes u more is e
reference_start bytes u more (inr is) e = entity_start bytes u more is.0 is.1 e

same_piece : (bytes u v more rest : List ℕ) → IsTextPiece IsReference u → IsTextPiece IsReference v → bytes ≡ u ++ more → bytes ≡ v ++ rest → more ≡ rest
same_piece bytes u v more rest (inl a) (inl b) e f = (encode_same a.code b.code more rest (ap (λ l. l ++ more) (sym a.whole) ∙ sym e ∙ f ∙ ap (λ l. l ++ rest) b.whole)).1
same_piece bytes u v more rest (inl a) (inr b) e f = absurd (no_literal bytes u more a e (reference_start bytes v rest b f))
same_piece bytes u v more rest (inr a) (inl b) e f = absurd (no_literal bytes v rest b f (reference_start bytes u more a e))
same_piece bytes u v more rest (inr a) (inr b) e f = same_reference bytes u v more rest a b e f

-- Pieces that are determined from the front, and each of which isn't nothing.
record AreDetermined (P : List ℕ → Type 0) : Type 0 where
  one : (bytes u v more rest : List ℕ) → P u → P v → bytes ≡ u ++ more → bytes ≡ v ++ rest → more ≡ rest
  some : P [] → ⊥

-- what such pieces are, the pieces of the same bytes are
same_pieces : (P Q : List ℕ → Type 0) → AreDetermined P → ((piece : List ℕ) → Q piece → P piece) →
    (ps qs : List (List ℕ)) → AllByRecursion P ps → AllByRecursion Q qs → joined ps ≡ joined qs →
    AllByRecursion Q ps
same_pieces P Q only to [] qs all others e = tt
same_pieces P Q only to (p ∷ ps) [] all others e = absurd (only.some (subst P (nothing_left p (joined ps) e) all.0))
  where
    nothing_left : (a b : List ℕ) → a ++ b ≡ [] → a ≡ []
    nothing_left [] b e = refl
    nothing_left (x ∷ xs) b e = cc
same_pieces P Q only to (p ∷ ps) (q ∷ qs) all others e =
    let rests = only.one (p ++ joined ps) p q (joined ps) (joined qs) all.0 (to q others.0) refl e in
    let first : p ≡ q = before p q (joined ps) (e ∙ ap (λ l. q ++ l) (sym rests)) in
    (subst Q (sym first) others.0, same_pieces P Q only to ps qs all.1 others.1 rests)

-- what is made of such pieces is decided
made_decided : (P Q : List ℕ → Type 0) → AreDetermined P → ((piece : List ℕ) → Q piece → P piece) →
    ((piece : List ℕ) → P piece → Decided (Q piece)) → (bytes : List ℕ) → AreMadeOf P bytes →
    Decided (AreMadeOf Q bytes)
made_decided P Q only to each bytes made = by (all_decided P Q each made.pieces made.are_pieces)
  where
    by : Decided (AllByRecursion Q made.pieces) → Decided (AreMadeOf Q bytes)
    by (inl all) = inl record { pieces = made.pieces; are_pieces = all; whole = made.whole }
    by (inr unlike) = inr (λ other. unlike (same_pieces P Q only to made.pieces other.pieces made.are_pieces other.are_pieces (sym made.whole ∙ other.whole)))

no_empty_piece : IsTextPiece IsReference [] → ⊥
no_empty_piece (inl is) = nothing_begins is_literal is.code [] is.is_literal (is.whole ∙ sym (append-nil (encode is.code)))
no_empty_piece (inr is) = let s = reference_start [] [] [] is refl in let e = s.1 in cc

text_decided : (bytes : List ℕ) → AreMadeOf (IsTextPiece IsReference) bytes → Decided (AreMadeOf (IsTextPiece IsKnownReference) bytes)
text_decided bytes made = made_decided (IsTextPiece IsReference) (IsTextPiece IsKnownReference) (record { one = same_piece; some = no_empty_piece }) text_piece piece_decided bytes made

data_decided : (bytes : List ℕ) → IsCharacterData IsReference bytes → Decided (IsCharacterData IsKnownReference bytes)
data_decided bytes d = by (text_decided bytes d.are_pieces)
  where
    by : Decided (AreMadeOf (IsTextPiece IsKnownReference) bytes) → Decided (IsCharacterData IsKnownReference bytes)
    by (inl made) = inl record { some = d.some; are_pieces = made; no_close_mark = d.no_close_mark }
    by (inr unlike) = inr (λ other. unlike other.are_pieces)

-- ---- attributes
any_reference : (bytes : List ℕ) → IsReference bytes → IsReference bytes
any_reference bytes is = is

alone : (P : List ℕ → Type 0) (bytes : List ℕ) → P bytes → Begins P bytes []
alone P bytes is = record { item = bytes; is_item = is; whole = sym (append-nil bytes) }

attribute_decided : (bytes : List ℕ) → IsAttribute IsReference bytes → Decided (IsAttribute IsKnownReference bytes)
attribute_decided bytes is = by (text_decided s.value s.are_pieces)
  where
    s : Steps IsReference any_reference bytes []
    s = steps IsReference any_reference bytes [] (alone (IsAttribute IsReference) bytes is)

    by : Decided (AreMadeOf (IsTextPiece IsKnownReference) s.value) → Decided (IsAttribute IsKnownReference bytes)
    by (inl made) =
        let known = by_part IsKnownReference known_is_reference bytes s.name s.value [] s.is_name.is_name s.is_part made in
        inl (subst (IsAttribute IsKnownReference) (sym (known.whole ∙ append-nil known.item)) known.is_item)
    by (inr unlike) = inr (λ known. none_by_value IsKnownReference known_is_reference bytes s.start
        s.name s.named s.value [] s.blank s.is_name s.is_part unlike []
        (alone (IsAttribute IsKnownReference) bytes known))

-- white space begins with no attribute
no_attribute : (p rest space : List ℕ) → IsAttribute IsReference p → IsOptionalSpace space → p ++ rest ≡ space → ⊥
no_attribute p rest space a white e =
    let behind = a.name ++ ((a.equals ++ a.value) ++ rest) in
    let whole : a.space ++ behind ≡ space = sym (ap (λ l. l ++ rest) a.whole ∙ simp append_assoc refl) ∙ e in
    let all : list_all is_space (a.space ++ behind) ≡ true = subst (λ l. list_all is_space l ≡ true) (sym whole) white in
    let parts = and_parts (list_all is_space a.space) (list_all is_space behind) (sym (list_all-append is_space a.space behind) ∙ all) in
    name_not_white a.name ((a.equals ++ a.value) ++ rest) a.is_name parts.1
  where
    name_not_white : (name more : List ℕ) → IsName name → list_all is_space (name ++ more) ≡ true → ⊥
    name_not_white [] more is all = name_some [] is refl
    name_not_white (b ∷ bs) more is all =
        let black = name_black (b ∷ bs) more is in
        let white = (and_parts (is_space b) (list_all is_space (bs ++ more)) all).0 in
        cc

same_attributes : (ps qs : List (List ℕ)) (s t : List ℕ) →
    AllByRecursion (IsAttribute IsReference) ps → AllByRecursion (IsAttribute IsKnownReference) qs →
    IsOptionalSpace t → joined ps ++ s ≡ joined qs ++ t → AllByRecursion (IsAttribute IsKnownReference) ps
same_attributes [] qs s t all others white e = tt
same_attributes (p ∷ ps) [] s t all others white e = absurd (no_attribute p (joined ps ++ s) t all.0 white (sym (append_assoc p (joined ps) s) ∙ e))
same_attributes (p ∷ ps) (q ∷ qs) s t all others white e =
    let whole : p ++ (joined ps ++ s) ≡ q ++ (joined qs ++ t) = sym (append_assoc p (joined ps) s) ∙ e ∙ append_assoc q (joined qs) t in
    let rests = one_attribute IsReference any_reference (p ++ (joined ps ++ s)) (joined ps ++ s)
    (joined qs ++ t) record { item = p; is_item = all.0; whole = refl }
    record { item = q; is_item = attribute_form q others.0; whole = whole } in
    let first : p ≡ q = before p q (joined ps ++ s) (whole ∙ ap (λ l. q ++ l) (sym rests)) in
    (subst (IsAttribute IsKnownReference) (sym first) others.0, same_attributes ps qs s t all.1 others.1 white rests)

attributes_decided : (bytes : List ℕ) → IsAttributes IsReference bytes → Decided (IsAttributes IsKnownReference bytes)
attributes_decided bytes a = by (all_decided (IsAttribute IsReference) (IsAttribute IsKnownReference) attribute_decided a.are_attributes.pieces a.are_attributes.are_pieces)
  where
    by : Decided (AllByRecursion (IsAttribute IsKnownReference) a.are_attributes.pieces) → Decided (IsAttributes IsKnownReference bytes)
    by (inl all) = inl record {
      attributes = a.attributes;
      space = a.space;
      are_attributes = record {
        pieces = a.are_attributes.pieces;
        are_pieces = all;
        whole = a.are_attributes.whole;
      };
      is_space = a.is_space;
      whole = a.whole;
    }
    by (inr unlike) = inr (λ other. unlike (same_attributes a.are_attributes.pieces
        other.are_attributes.pieces a.space other.space a.are_attributes.are_pieces
        other.are_attributes.are_pieces other.is_space
        (ap (λ l. l ++ a.space) (sym a.are_attributes.whole) ∙ sym a.whole ∙ other.whole ∙ ap (λ l. l ++ other.space) other.are_attributes.whole)))

-- ---- items
pub known_is_decided : KnownIsDecided
known_is_decided (xml_declaration bytes) form = inl tt
known_is_decided (doctype name bytes) form = inl tt
known_is_decided (comment_or_instruction bytes) form = inl tt
known_is_decided (cdata_section bytes) form = inl tt
known_is_decided (start_tag name attrs) form = attributes_decided attrs form.1
known_is_decided (empty_tag name attrs) form = attributes_decided attrs form.1
known_is_decided (end_tag name gap) form = inl tt
known_is_decided (text_run bytes) form = data_decided bytes form
