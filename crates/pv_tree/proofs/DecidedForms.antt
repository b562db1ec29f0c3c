-- Whether bytes have the forms that a document keeps is decided.
use Rattle.std.proofs.Common.{◌≡◌, ◌≢◌, ℕ, ◌⊎◌, inl, inr, List, [], ◌∷◌, ◌++◌, Bool, true, false, ◌&&◌, ◌||◌, ◌==◌, not, map, codes, IsTrue, refl, sym, ap, subst, ◌∙◌}
use Rattle.std.proofs.lemmas.Bool.{and_parts, and_from}
use Rattle.std.proofs.lemmas.Bool.Decides.{Decides-eqb}
use Rattle.std.proofs.lemmas.List.{append-nil}
use Rattle.std.proofs.lemmas.Str.{is_utf8-from_IsUtf8, IsUtf8-from_is_utf8, encodes-chars, chars-encodes}
use Rattle.std.specs.List.{list_all}
use Rattle.std.specs.Char.{is_digit, to_ascii_lowercase}
use Rattle.std.specs.Str.{chars, is_utf8}
use lib.Utf8.{encode, encodes, scalar, scalars}
use Rattle.pv_chars.specs.Spaces.{is_space, IsSpace, IsOptionalSpace}
use Rattle.pv_chars.specs.Characters.{is_char, IsChars}
use Rattle.pv_chars.specs.Names.{IsName, is_name}
use Rattle.pv_chars.specs.Fronts.{ContainsBytes}
use Rattle.pv_chars.specs.Markup.{IsBehindTarget, IsCdata, IsComment, IsInstruction, IsSpacedChars, IsTarget}
use Rattle.pv_chars.specs.Declarations.{is_quote, IsEq}
use Rattle.pv_chars.specs.References.{IsCharRefIn, IsPredefined, number}
use Rattle.pv_chars.specs.Units.{is_literal, AllUnits, IsLiteral, IsPredefinedRef}
use Rattle.pv_chars.proofs.NameLemmas.{IsName-is_name, is_name-IsName}
use Rattle.pv_chars.proofs.Ranges.{char_is_scalar}
use Rattle.pv_tree.specs.Attributes.{AreMadeOf, IsAttribute, IsAttributes, IsAttValue, IsKnownReference, IsValuePiece}
use Rattle.pv_tree.specs.Prolog.{IsCommentOrInstruction, IsEpilog, IsMisc}
use Rattle.pv_tree.specs.Plain.{Ending, short, tagged, Tree, element, text_node, cdata_node, misc_node, Forest, no_trees, tree}
use Rattle.pv_tree.specs.Legal.{IsLegal, AreLegal, IsLegalEnding}
use Rattle.pv_tree.proofs.Decisions.{are_same, both, decided_by, either, holds, in_parts, is_true}
use Rattle.pv_tree.proofs.Decisions.{made, never, Parts}

-- ---- fixed bytes in front, or after
record Lead (front : List ℕ) (P : List ℕ → Type 0) (bytes : List ℕ) : Type 0 where
  rest : List ℕ
  is_rest : P rest
  whole : bytes ≡ front ++ rest

record Trail (P : List ℕ → Type 0) (back : List ℕ) (bytes : List ℕ) : Type 0 where
  first : List ℕ
  is_first : P first
  whole : bytes ≡ first ++ back

lead : (front : List ℕ) (P : List ℕ → Type 0) → ((l : List ℕ) → Dec (P l)) → (bytes : List ℕ) → Dec (Lead front P bytes)
lead front P p bytes =
    decided_by (λ h. record { rest = h.back; is_rest = h.is_back; whole = h.whole ∙ ap (λ l. l ++ h.back) h.is_front })
    (λ h. record { front = front; back = h.rest; is_front = refl; is_back = h.is_rest; whole = h.whole })
    (in_parts (λ l. l ≡ front) P (λ l. are_same l front) p bytes)

trail : (P : List ℕ → Type 0) (back : List ℕ) → ((l : List ℕ) → Dec (P l)) → (bytes : List ℕ) → Dec (Trail P back bytes)
trail P back p bytes =
    decided_by (λ h. record { first = h.front; is_first = h.is_front; whole = h.whole ∙ ap (λ l. h.front ++ l) h.is_back })
    (λ h. record { front = h.first; back = back; is_front = h.is_first; is_back = refl; whole = h.whole })
    (in_parts P (λ l. l ≡ back) p (λ l. are_same l back) bytes)

-- ---- characters, names and white space
scalars_of : (cs : List ℕ) → list_all is_char cs ≡ true → scalars cs ≡ true
scalars_of [] all = refl
scalars_of (c ∷ cs) all = let parts = and_parts (is_char c) (list_all is_char cs) all in and_from (scalar c) (scalars cs) (char_is_scalar c parts.0) (scalars_of cs parts.1)

to_chars : (bytes : List ℕ) → IsTrue (is_utf8 bytes && list_all is_char (chars bytes)) → IsChars bytes
to_chars bytes is =
    let parts = and_parts (is_utf8 bytes) (list_all is_char (chars bytes)) is in
    record { codes = chars bytes; pass = parts.1; spelled = sym (encodes-chars bytes (IsUtf8-from_is_utf8 bytes parts.0)) }

from_chars : (bytes : List ℕ) → IsChars bytes → IsTrue (is_utf8 bytes && list_all is_char (chars bytes))
from_chars bytes a =
    let all = scalars_of a.codes a.pass in
    let read : chars bytes ≡ a.codes = ap chars a.spelled ∙ chars-encodes a.codes all in
    and_from (is_utf8 bytes) (list_all is_char (chars bytes)) (is_utf8-from_IsUtf8 bytes (a.codes, (all, sym a.spelled))) (ap (list_all is_char) read ∙ a.pass)

are_chars : (bytes : List ℕ) → Dec (IsChars bytes)
are_chars bytes = decided_by (to_chars bytes) (from_chars bytes) (is_true (is_utf8 bytes && list_all is_char (chars bytes)))

abbrev is_one_literal : List ℕ → Bool
is_one_literal [] = false
is_one_literal (c ∷ []) = is_literal c
is_one_literal (c ∷ d ∷ cs) = false

literal_of : (bytes cs : List ℕ) → bytes ≡ encodes cs → is_one_literal cs ≡ true → IsLiteral bytes
literal_of bytes [] e is = cc
literal_of bytes (c ∷ []) e is = record { code = c; is_literal = is; whole = e ∙ append-nil (encode c) }
literal_of bytes (c ∷ d ∷ cs) e is = cc

to_literal : (bytes : List ℕ) → IsTrue (is_utf8 bytes && is_one_literal (chars bytes)) → IsLiteral bytes
to_literal bytes is =
    let parts = and_parts (is_utf8 bytes) (is_one_literal (chars bytes)) is in
    literal_of bytes (chars bytes) (sym (encodes-chars bytes (IsUtf8-from_is_utf8 bytes parts.0))) parts.1

from_literal : (bytes : List ℕ) → IsLiteral bytes → IsTrue (is_utf8 bytes && is_one_literal (chars bytes))
from_literal bytes l =
    let parts = and_parts (is_char l.code && not (l.code == 60)) (not (l.code == 38)) l.is_literal in
    let is = (and_parts (is_char l.code) (not (l.code == 60)) parts.0).0 in
    let all : scalars (l.code ∷ []) ≡ true = and_from (scalar l.code) true (char_is_scalar l.code is) refl in
    let spelled : bytes ≡ encodes (l.code ∷ []) = l.whole ∙ sym (append-nil (encode l.code)) in
    let read : chars bytes ≡ l.code ∷ [] = ap chars spelled ∙ chars-encodes (l.code ∷ []) all in
    and_from (is_utf8 bytes) (is_one_literal (chars bytes)) (is_utf8-from_IsUtf8 bytes (l.code ∷ [], (all, sym spelled))) (ap is_one_literal read ∙ l.is_literal)

literal : (bytes : List ℕ) → Dec (IsLiteral bytes)
literal bytes = decided_by (to_literal bytes) (from_literal bytes) (is_true (is_utf8 bytes && is_one_literal (chars bytes)))

name : (bytes : List ℕ) → Dec (IsName bytes)
name bytes = decided_by (IsName-is_name bytes) (is_name-IsName bytes) (is_true (is_name bytes))

optional_space : (bytes : List ℕ) → Dec (IsOptionalSpace bytes)
optional_space bytes = is_true (list_all is_space bytes)

space : (bytes : List ℕ) → Dec (IsSpace bytes)
space bytes = decided_by (λ h. record { some = h.0; space = h.1 }) (λ s. (s.some, s.space)) (both (never (are_same bytes [])) (optional_space bytes))

-- ---- references
abbrev AreDigits : ℕ → List ℕ → Type 0
AreDigits base digits = (digits ≢ []) × (IsTrue (list_all (λ d. is_digit d base) digits) × IsTrue (is_char (number base digits)))

digits_in : (base : ℕ) (digits : List ℕ) → Dec (AreDigits base digits)
digits_in base digits = both (never (are_same digits [])) (both (is_true (list_all (λ d. is_digit d base) digits)) (is_true (is_char (number base digits))))

char_ref_in : (base : ℕ) (front bytes : List ℕ) → Dec (IsCharRefIn base front bytes)
char_ref_in base front bytes =
    decided_by
    (λ h. let d = h.is_rest.is_first in record { digits = h.is_rest.first; some = d.0; are_digits = d.1.0; is_char = d.1.1; whole = h.whole ∙ ap (λ l. front ++ l) h.is_rest.whole })
    (λ r. record { rest = r.digits ++ codes ";"; is_rest = record { first = r.digits; is_first = (r.some, (r.are_digits, r.is_char)); whole = refl }; whole = r.whole })
    (lead front (Trail (AreDigits base) (codes ";")) (trail (AreDigits base) (codes ";") (digits_in base)) bytes)

predefined : (bytes : List ℕ) → Dec (IsPredefined bytes)
predefined bytes =
    either (are_same bytes (codes "lt")) (either (are_same bytes (codes "gt")) (either (are_same bytes (codes "amp")) (either (are_same bytes (codes "apos")) (are_same bytes (codes "quot")))))

abbrev IsKnownName : List ℕ → Type 0
IsKnownName l = IsPredefined l × IsName l

predefined_ref : (bytes : List ℕ) → Dec (IsPredefinedRef bytes)
predefined_ref bytes =
    decided_by
    (λ h. record { name = h.is_rest.first; is_predefined = h.is_rest.is_first.0; is_reference = record { is_name = h.is_rest.is_first.1; whole = h.whole ∙ ap (λ l. codes "&" ++ l) h.is_rest.whole } })
    (λ r. record { rest = r.name ++ codes ";"; is_rest = record { first = r.name; is_first = (r.is_predefined, r.is_reference.is_name); whole = refl }; whole = r.is_reference.whole })
    (lead (codes "&") (Trail IsKnownName (codes ";")) (trail IsKnownName (codes ";") (λ l. both (predefined l) (name l))) bytes)

known_reference : (bytes : List ℕ) → Dec (IsKnownReference bytes)
known_reference bytes = either (either (char_ref_in 10 (codes "&#") bytes) (char_ref_in 16 (codes "&#x") bytes)) (predefined_ref bytes)

-- ---- attributes
value_piece : (quote : ℕ) (bytes : List ℕ) → Dec (IsValuePiece quote IsKnownReference bytes)
value_piece quote bytes = either (both (literal bytes) (never (are_same bytes (quote ∷ [])))) (known_reference bytes)

-- a value in a pair of these
abbrev IsValueIn : ℕ → List ℕ → Type 0
IsValueIn quote = Lead (quote ∷ []) (Trail (AreMadeOf (IsValuePiece quote IsKnownReference)) (quote ∷ []))

value_in : (quote : ℕ) (bytes : List ℕ) → Dec (IsValueIn quote bytes)
value_in quote = lead (quote ∷ []) (Trail (AreMadeOf (IsValuePiece quote IsKnownReference))
    (quote ∷ [])) (trail (AreMadeOf (IsValuePiece quote IsKnownReference)) (quote ∷ [])
    (made (IsValuePiece quote IsKnownReference) (value_piece quote)))

to_value : (quote : ℕ) (bytes : List ℕ) → is_quote quote ≡ true → IsValueIn quote bytes → IsAttValue IsKnownReference bytes
to_value quote bytes is h = record { quote = quote; value = h.is_rest.first; is_quote = is; is_value = h.is_rest.is_first; whole = h.whole ∙ ap (λ l. quote ∷ l) h.is_rest.whole }

to_either_value : (bytes : List ℕ) → IsValueIn 34 bytes ⊎ IsValueIn 39 bytes → IsAttValue IsKnownReference bytes
to_either_value bytes (inl h) = to_value 34 bytes refl h
to_either_value bytes (inr h) = to_value 39 bytes refl h

quote_by : (q : ℕ) (double : Bool) → (q == 34) ≡ double → (double || (q == 39)) ≡ true → (q ≡ 34) ⊎ (q ≡ 39)
quote_by q true e is = inl ((Decides-eqb q 34).0 e)
quote_by q false e is = inr ((Decides-eqb q 39).0 is)

value_by : (q : ℕ) (bytes : List ℕ) → (q ≡ 34) ⊎ (q ≡ 39) → IsValueIn q bytes → IsValueIn 34 bytes ⊎ IsValueIn 39 bytes
value_by q bytes (inl e) h = inl (subst (λ (k : ℕ). IsValueIn k bytes) e h)
value_by q bytes (inr e) h = inr (subst (λ (k : ℕ). IsValueIn k bytes) e h)

from_value : (bytes : List ℕ) → IsAttValue IsKnownReference bytes → IsValueIn 34 bytes ⊎ IsValueIn 39 bytes
from_value bytes v =
    value_by v.quote bytes (quote_by v.quote (v.quote == 34) refl v.is_quote)
    record { rest = v.value ++ v.quote ∷ []; is_rest = record { first = v.value; is_first = v.is_value; whole = refl }; whole = v.whole }

att_value : (bytes : List ℕ) → Dec (IsAttValue IsKnownReference bytes)
att_value bytes = decided_by (to_either_value bytes) (from_value bytes) (either (value_in 34 bytes) (value_in 39 bytes))

equals : (bytes : List ℕ) → Dec (IsEq bytes)
equals bytes =
    decided_by
    (λ h. record { before = h.front; after = h.is_back.rest; space_before = h.is_front; space_after = h.is_back.is_rest; whole = h.whole ∙ ap (λ l. h.front ++ l) h.is_back.whole })
    (λ e. record { front = e.before; back = codes "=" ++ e.after; is_front = e.space_before; is_back = record { rest = e.after; is_rest = e.space_after; whole = refl }; whole = e.whole })
    (in_parts IsOptionalSpace (Lead (codes "=") IsOptionalSpace) optional_space (lead (codes "=") IsOptionalSpace optional_space) bytes)

abbrev IsBehindName : List ℕ → Type 0
IsBehindName = Parts IsEq (IsAttValue IsKnownReference)

abbrev IsBehindSpace : List ℕ → Type 0
IsBehindSpace = Parts IsName IsBehindName

attribute : (bytes : List ℕ) → Dec (IsAttribute IsKnownReference bytes)
attribute bytes =
    decided_by
    (λ h. let n = h.is_back in let v = n.is_back in record {
      space = h.front;
      name = n.front;
      equals = v.front;
      value = v.back;
      is_space = h.is_front;
      is_name = n.is_front;
      is_eq = v.is_front;
      is_value = v.is_back;
      whole = h.whole ∙ ap (λ l. h.front ++ l) (n.whole ∙ ap (λ l. n.front ++ l) v.whole);
    })
    (λ a. record {
      front = a.space;
      back = a.name ++ (a.equals ++ a.value);
      is_front = a.is_space;
      is_back = record {
        front = a.name;
        back = a.equals ++ a.value;
        is_front = a.is_name;
        is_back = record {
          front = a.equals;
          back = a.value;
          is_front = a.is_eq;
          is_back = a.is_value;
          whole = refl;
        };
        whole = refl;
      };
      whole = a.whole;
    })
    (in_parts IsSpace IsBehindSpace space (in_parts IsName IsBehindName name (in_parts IsEq (IsAttValue IsKnownReference) equals att_value)) bytes)

attributes : (bytes : List ℕ) → Dec (IsAttributes IsKnownReference bytes)
attributes bytes =
    decided_by (λ h. record { attributes = h.front; space = h.back; are_attributes = h.is_front; is_space = h.is_back; whole = h.whole })
    (λ a. record { front = a.attributes; back = a.space; is_front = a.are_attributes; is_back = a.is_space; whole = a.whole })
    (in_parts (AreMadeOf (IsAttribute IsKnownReference)) IsOptionalSpace (made (IsAttribute IsKnownReference) attribute) optional_space bytes)

-- ---- sections, comments and instructions
abbrev IsSection : List ℕ → Type 0
IsSection l = IsChars l × (ContainsBytes l (codes "]]>") → ⊥)

cdata : (bytes : List ℕ) → Dec (IsCdata bytes)
cdata bytes =
    decided_by
    (λ h. let t = h.is_rest in record { text = t.first; are_chars = t.is_first.0; no_end = t.is_first.1; whole = h.whole ∙ ap (λ l. codes "<![CDATA[" ++ l) t.whole })
    (λ c. record { rest = c.text ++ codes "]]>"; is_rest = record { first = c.text; is_first = (c.are_chars, c.no_end); whole = refl }; whole = c.whole })
    (lead (codes "<![CDATA[") (Trail IsSection (codes "]]>")) (trail IsSection (codes "]]>") (λ l. both (are_chars l) (never (holds (codes "]]>") l)))) bytes)

abbrev EndsInDash : List ℕ → Type 0
EndsInDash = Trail (λ l. Unit {0}) (codes "-")

abbrev IsRemark : List ℕ → Type 0
IsRemark l = IsChars l × ((ContainsBytes l (codes "--") → ⊥) × (EndsInDash l → ⊥))

comment : (bytes : List ℕ) → Dec (IsComment bytes)
comment bytes =
    decided_by
    (λ h. let t = h.is_rest in
    record {
      text = t.first;
      are_chars = t.is_first.0;
      no_dashes = t.is_first.1.0;
      no_dash_at_end = λ front e. t.is_first.1.1 record {
        first = front;
        is_first = tt;
        whole = e;
      };
      whole = h.whole ∙ ap (λ l. codes "<!--" ++ l) t.whole;
    })
    (λ c. record { rest = c.text ++ codes "-->"; is_rest = record { first = c.text; is_first = (c.are_chars, (c.no_dashes, λ d. c.no_dash_at_end d.first d.whole)); whole = refl }; whole = c.whole })
    (lead (codes "<!--") (Trail IsRemark (codes "-->")) (trail IsRemark (codes "-->")
    (λ l. both (are_chars l) (both (never (holds (codes "--") l))
    (never (trail (λ l. Unit {0}) (codes "-") (λ l. yes tt) l))))) bytes)

target : (bytes : List ℕ) → Dec (IsTarget bytes)
target bytes = decided_by (λ h. record { is_name = h.0; not_xml = h.1 }) (λ t. (t.is_name, t.not_xml)) (both (name bytes) (never (are_same (map to_ascii_lowercase bytes) (codes "xml"))))

spaced_chars : (bytes : List ℕ) → Dec (IsSpacedChars bytes)
spaced_chars bytes =
    decided_by (λ h. record { space = h.front; text = h.back; is_space = h.is_front; are_chars = h.is_back; whole = h.whole })
    (λ s. record { front = s.space; back = s.text; is_front = s.is_space; is_back = s.are_chars; whole = s.whole })
    (in_parts IsSpace IsChars space are_chars bytes)

abbrev IsBehind : List ℕ → Type 0
IsBehind l = IsBehindTarget l × (ContainsBytes l (codes "?>") → ⊥)

behind_target : (bytes : List ℕ) → Dec (IsBehind bytes)
behind_target bytes = both (either (are_same bytes []) (spaced_chars bytes)) (never (holds (codes "?>") bytes))

instruction : (bytes : List ℕ) → Dec (IsInstruction bytes)
instruction bytes =
    decided_by
    (λ h. let t = h.is_rest in let b = t.is_back in record {
      target = t.front;
      behind = b.first;
      is_target = t.is_front;
      is_behind = b.is_first.0;
      no_end = b.is_first.1;
      whole = h.whole ∙ ap (λ l. codes "<?" ++ l) (t.whole ∙ ap (λ l. t.front ++ l) b.whole);
    })
    (λ i. record {
      rest = i.target ++ (i.behind ++ codes "?>");
      is_rest = record {
        front = i.target;
        back = i.behind ++ codes "?>";
        is_front = i.is_target;
        is_back = record { first = i.behind; is_first = (i.is_behind, i.no_end); whole = refl };
        whole = refl;
      };
      whole = i.whole;
    })
    (lead (codes "<?") (Parts IsTarget (Trail IsBehind (codes "?>"))) (in_parts IsTarget (Trail IsBehind (codes "?>")) target (trail IsBehind (codes "?>") behind_target)) bytes)

comment_or_instruction : (bytes : List ℕ) → Dec (IsCommentOrInstruction bytes)
comment_or_instruction bytes = either (comment bytes) (instruction bytes)

pub epilog : (bytes : List ℕ) → Dec (IsEpilog bytes)
epilog bytes = made IsMisc (λ l. either (comment_or_instruction l) (space l)) bytes

-- ---- trees
units : (us : List (List ℕ)) → Dec (AllUnits us)
units [] = yes tt
units (u ∷ us) = both (either (literal u) (known_reference u)) (units us)

ending : (e : Ending) → Dec (IsLegalEnding e)
ending short = yes tt
ending (tagged gap) = optional_space gap

mutual
  pub legal : {M : Type 0} (t : Tree M) → Dec (IsLegal t)
  legal (element x attrs e kids mark) = decided_by (λ h. (h.0, h.1.0, h.1.1)) (λ h. (h.0, (h.1, h.2))) (both (attributes attrs) (both (ending e) (all_legal kids)))
  legal (text_node us) = units us
  legal (cdata_node bytes) = cdata bytes
  legal (misc_node bytes) = comment_or_instruction bytes

  all_legal : {M : Type 0} (kids : Forest M) → Dec (AreLegal kids)
  all_legal no_trees = yes tt
  all_legal (tree t rest) = both (legal t) (all_legal rest)
