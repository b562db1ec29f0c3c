-- What is spelled with known references has the form of items.
use Rattle.std.proofs.Common.{◌≡◌, ◌≢◌, ℕ, List, [], ◌∷◌, ◌++◌, true, false, inl, inr, codes, append_assoc, refl, sym, ap, subst, ◌∙◌, arith}
use Rattle.std.specs.List.{AllByRecursion, list_all}
use Rattle.std.proofs.lemmas.Bool.{and_parts}
use Rattle.std.proofs.lemmas.Bool.Decides.{nat_tests}
use Rattle.std.proofs.lemmas.Str.{encode_ascii}
use Rattle.std.proofs.lemmas.List.Folds.{list_all-append}
use Rattle.pv_chars.specs.Spaces.{is_space, IsOptionalSpace}
use Rattle.pv_chars.proofs.SpaceLemmas.{space_is_ascii, space_is_char}
use Rattle.pv_chars.specs.Markup.{IsCdata}
use Rattle.pv_chars.specs.References.{IsReference}
use Rattle.pv_chars.specs.Units.{is_literal}
use Rattle.pv_tree.specs.Plain.{short, tagged, Tree, element, text_node, cdata_node, misc_node, Forest, no_trees, tree}
use Rattle.pv_tree.specs.Attributes.{AreMadeOf, IsValuePiece, IsAttribute, IsAttributes, IsTextPiece, IsCharacterData, IsKnownReference}
use Rattle.pv_tree.specs.Prolog.{IsCommentOrInstruction}
use Rattle.pv_read.specs.Grammar.{SpellsNode, SpellsContent, begins_with_text}
use Rattle.pv_read.specs.Items.{IsRunEnd}
use Rattle.pv_read.proofs.KnownReferences.{known_is_reference}
use Rattle.pv_read.proofs.AgreeInvariant.{is_text}

-- ---- references
made_of_others : (P Q : List ℕ → Type 0) (bytes : List ℕ) → ((piece : List ℕ) → P piece → Q piece) → AreMadeOf P bytes → AreMadeOf Q bytes
made_of_others P Q bytes to made = record { pieces = made.pieces; are_pieces = by made.pieces made.are_pieces; whole = made.whole }
  where
    by : (pieces : List (List ℕ)) → AllByRecursion P pieces → AllByRecursion Q pieces
    by [] all = tt
    by (p ∷ ps) all = (to p all.0, by ps all.1)

value_piece : (quote : ℕ) (piece : List ℕ) → IsValuePiece quote IsKnownReference piece → IsValuePiece quote IsReference piece
value_piece quote piece (inl is) = inl is
value_piece quote piece (inr is) = inr (known_is_reference piece is)

pub attribute_form : (bytes : List ℕ) → IsAttribute IsKnownReference bytes → IsAttribute IsReference bytes
attribute_form bytes a =
    let v = a.is_value in
    record {
      space = a.space;
      name = a.name;
      equals = a.equals;
      value = a.value;
      is_space = a.is_space;
      is_name = a.is_name;
      is_eq = a.is_eq;
      is_value = record {
        quote = v.quote;
        value = v.value;
        is_quote = v.is_quote;
        is_value = made_of_others (IsValuePiece v.quote IsKnownReference)
            (IsValuePiece v.quote IsReference) v.value (value_piece v.quote) v.is_value;
        whole = v.whole;
      };
      whole = a.whole;
    }

pub attributes_form : (bytes : List ℕ) → IsAttributes IsKnownReference bytes → IsAttributes IsReference bytes
attributes_form bytes a = record {
  attributes = a.attributes;
  space = a.space;
  are_attributes = made_of_others (IsAttribute IsKnownReference) (IsAttribute IsReference) a.attributes attribute_form a.are_attributes;
  is_space = a.is_space;
  whole = a.whole;
}

pub text_piece : (piece : List ℕ) → IsTextPiece IsKnownReference piece → IsTextPiece IsReference piece
text_piece piece (inl is) = inl is
text_piece piece (inr is) = inr (known_is_reference piece is)

pub data_form : (bytes : List ℕ) → IsCharacterData IsKnownReference bytes → IsCharacterData IsReference bytes
data_form bytes d = record { some = d.some; are_pieces = made_of_others (IsTextPiece IsKnownReference) (IsTextPiece IsReference) bytes text_piece d.are_pieces; no_close_mark = d.no_close_mark }

-- ---- white space is character data
space_piece : (b : ℕ) → is_space b ≡ true → IsTextPiece IsKnownReference (b ∷ [])
space_piece b e = inl record { code = b; is_literal = literal_space; whole = sym (encode_ascii b (space_is_ascii b e)) }
  where
    literal_space : is_literal b ≡ true
    literal_space = rw (space_is_char b e) (grind (arith, nat_tests))

space_pieces : (bytes : List ℕ) → list_all is_space bytes ≡ true → AreMadeOf (IsTextPiece IsKnownReference) bytes
space_pieces [] e = record { pieces = []; are_pieces = tt; whole = refl }
space_pieces (b ∷ bs) e =
    let parts = and_parts (is_space b) (list_all is_space bs) e in
    let below = space_pieces bs parts.1 in
    record { pieces = (b ∷ []) ∷ below.pieces; are_pieces = (space_piece b parts.0, below.are_pieces); whole = ap (λ rest. b ∷ rest) below.whole }

pub space_data : (bytes : List ℕ) → bytes ≢ [] → IsOptionalSpace bytes → IsCharacterData IsKnownReference bytes
space_data bytes some space = record {
  some = some;
  are_pieces = space_pieces bytes space;
  no_close_mark = λ held. let all : list_all is_space (held.before ++ (codes "]]>" ++ held.after)) ≡ true = subst (λ b. list_all is_space b ≡ true) held.whole space in
      let parts = and_parts (list_all is_space held.before) (list_all is_space (codes "]]>" ++ held.after)) (sym (list_all-append is_space held.before (codes "]]>" ++ held.after)) ∙ all) in
      let none = parts.1 in
      cc;
}

-- ---- what begins with `<` ends a text run

pub misc_ends_run : (bytes rest : List ℕ) → IsCommentOrInstruction bytes → IsRunEnd (bytes ++ rest)
misc_ends_run bytes rest (inl is) = subst (λ b. IsRunEnd (b ++ rest)) (sym is.whole) (inr (_, refl))
misc_ends_run bytes rest (inr is) = subst (λ b. IsRunEnd (b ++ rest)) (sym is.whole) (inr (_, refl))

cdata_ends_run : (bytes rest : List ℕ) → IsCdata bytes → IsRunEnd (bytes ++ rest)
cdata_ends_run bytes rest is = subst (λ b. IsRunEnd (b ++ rest)) (sym is.whole) (inr (_, refl))

pub node_ends_run : {M : Type 0} (t : Tree M) (bytes rest : List ℕ) → SpellsNode t bytes → is_text t ≡ false → IsRunEnd (bytes ++ rest)
node_ends_run (element x attrs short kids mark) bytes rest (name, are, none, whole) other = subst (λ b. IsRunEnd (b ++ rest)) (sym whole) (inr (_, refl))
node_ends_run (element x attrs (tagged gap) kids mark) bytes rest (content, name, are, white, spells, whole) other = subst (λ b. IsRunEnd (b ++ rest)) (sym whole) (inr (_, refl))
node_ends_run (text_node units) bytes rest spells other = cc
node_ends_run (cdata_node section) bytes rest (is, same) other = subst (λ b. IsRunEnd (b ++ rest)) (sym same) (cdata_ends_run section rest is)
node_ends_run (misc_node misc) bytes rest (is, same) other = subst (λ b. IsRunEnd (b ++ rest)) (sym same) (misc_ends_run misc rest is)

pub content_ends_run : {M : Type 0} (kids : Forest M) (bytes rest : List ℕ) → SpellsContent kids bytes → begins_with_text kids ≡ false → IsRunEnd rest → IsRunEnd (bytes ++ rest)
content_ends_run no_trees bytes rest spells other ends = subst (λ b. IsRunEnd (b ++ rest)) (sym spells) ends
content_ends_run (tree t kids) bytes rest (first, others, spells, whole_run, below, whole) other ends =
    subst IsRunEnd (sym (append_assoc first others rest) ∙ ap (λ b. b ++ rest) (sym whole)) (node_ends_run t first (others ++ rest) spells (same_first t kids other))
  where
    same_first : {M : Type 0} (t : Tree M) (kids : Forest M) → begins_with_text (tree t kids) ≡ false → is_text t ≡ false
    same_first (element x attrs ending nodes mark) kids e = refl
    same_first (text_node units) kids e = e
    same_first (cdata_node section) kids e = refl
    same_first (misc_node misc) kids e = refl
